-- The nodes at which an annotated tree goes wrong, found by descending where a relation has no row.
use Rattle.std.specs.Prelude.{Bool, true, false, cond, List, [], ◌∷◌, ◌++◌, length}
use Rattle.psg_grammar.specs.Paths.{Path}
use Rattle.psg_eval.specs.declared.summary.SummaryParts.{SummaryParts}
use Rattle.psg_cache.specs.Annotated.{Annotated, topped, above, whole_in, below_in}

abbrev pub is_nil : {X : Type 0} → List X → Bool
is_nil [] = true
is_nil (x ∷ xs) = false

-- Where the relation of a tree has no row, the culprits below it, or the tree itself where there are none; else no
-- node.
abbrev pub or_itself : Path → List Path → List Path
or_itself path [] = path ∷ []
or_itself path (p ∷ ps) = p ∷ ps

abbrev pub blamed_at : SummaryParts → Path → List Path → List Path
blamed_at s path below = cond (is_nil s.rel) (or_itself path below) []

-- the culprits of the children
abbrev pub blamed_below : Path → Annotated → List Path
blamed_below path (topped tree whole rests weight) = []
blamed_below path (above n c) =
    let at : Path = path ++ length (below_in n) ∷ [] in
    blamed_below path n ++ blamed_at (whole_in c) at (blamed_below at c)

-- the nodes at which a noted tree goes wrong by itself, a node before its children, children in order
abbrev pub culprits_in : Annotated → List Path
culprits_in n = blamed_at (whole_in n) [] (blamed_below [] n)
