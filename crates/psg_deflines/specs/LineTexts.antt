-- How the writer writes a line: one space in front of each part but the first one.
use Rattle.std.specs.Prelude.{ℕ, ◌==◌, Bool, cond, Option, Some, None, List, [], ◌∷◌, ◌++◌, codes}
use Rattle.std.specs.List.{flat_map}
use Rattle.psg_deflines.specs.WrittenTrees.{tree_parts, place_parts, quoted_part}
use Rattle.psg_deflines.specs.declared.trees.LinePart.{LinePart}
use Rattle.psg_deflines.specs.declared.trees.LinePart.TheVariants.{Tree, Name, Number, Text}
use Rattle.psg_deflines.specs.declared.trees.LinePlace.{LinePlace}

-- each part after a space
abbrev pub behind : List (List ℕ) → List ℕ
behind ps = flat_map (λ p. 32 ∷ p) ps

-- the parts with one space between two
abbrev pub spaced : List (List ℕ) → List ℕ
spaced [] = []
spaced (p ∷ rest) = p ++ behind rest

-- what is before the element of the number: the bracket before the first, a comma before each other one
abbrev pub mark_at : List ℕ → ℕ → List ℕ
mark_at bracket n = cond (n == 0) bracket (codes ",")

-- the parts of the elements after a bracket, a comma between two
abbrev pub separated : {X : Type 0} → List ℕ → (X → List (List ℕ)) → List X → List (List ℕ)
separated bracket f [] = []
separated bracket f (x ∷ rest) = bracket ∷ f x ++ flat_map (λ y. codes "," ∷ f y) rest

-- the closing bracket after n elements, where there are any
abbrev pub closing : ℕ → List (List ℕ)
closing n = cond (n == 0) [] (codes ")" ∷ [])

-- the parts of a part of an operator
abbrev pub part_parts : LinePart → List (List ℕ)
part_parts (Tree t) = tree_parts t
part_parts (Name n) = (36 ∷ n) ∷ []
part_parts (Number d) = d ∷ []
part_parts (Text w) = quoted_part w ∷ []

-- what follows the elements of a list
abbrev pub ending_parts : Option LinePlace → List (List ℕ)
ending_parts None = codes "]" ∷ []
ending_parts (Some p) = codes "|" ∷ place_parts p.kind p.term ++ codes "]" ∷ []

-- the last parts of a list line
abbrev pub style_parts : List ℕ → Bool → Bool → List (List ℕ)
style_parts separator on_lines unfinished =
    quoted_part separator ∷ cond on_lines (codes "lines") (codes "inline")
    ∷ cond unfinished (codes "unfinished") (codes "fixed") ∷ []
