-- What replies say of the printed text.
use Rattle.std.specs.Prelude.{ℕ, ◌≡◌, ◌<◌, ◌==◌, List, [], ◌∷◌, ◌++◌, Some, slice_get, codes, decimal}
use Rattle.std.specs.List.{slice_split}
use Rattle.psg_terms.specs.Names.{Name}
use Rattle.psg_grammar.specs.declared.types.Definition.{Definition}
use Rattle.psg_grammar.specs.Fragments.{Fragment, hole, ending, cell, operator, with_child, with_name, with_number}
use Rattle.psg_grammar.specs.Fragments.{with_text, anything, observed}
use Rattle.psg_grammar.specs.Paths.{Path}
use Rattle.psg_tree.specs.AbstractText.{operator_name}
use Rattle.psg_unparse.specs.Spots.{Placed, placed_in}
use Rattle.psg_screen.specs.declared.View.{View}
use Rattle.psg_unparse.specs.declared.spans.Span.{Span}
use Rattle.psg_session.specs.Marked.{path_text}

-- the lines of a text, which end at line feeds; the empty text has one
abbrev pub lines_in : List ℕ → List (List ℕ)
lines_in text = slice_split (λ b. b == 10) text

-- the view of these four numbers
abbrev pub view_of : ℕ → ℕ → ℕ → ℕ → View
view_of top left rows cols = record { top = top; left = left; rows = rows; cols = cols }

module _ (def : Definition) where
  -- the operator's name, `list`, or `?`
  abbrev pub what_is : Fragment → Name
  what_is (hole p) = codes "?"
  what_is (ending l u) = codes "list"
  what_is (cell l e r) = codes "list"
  what_is (operator o) = operator_name def o
  what_is (with_child f t) = what_is f
  what_is (with_name f n) = what_is f
  what_is (with_number f n) = what_is f
  what_is (with_text f t) = what_is f
  what_is anything = []
  what_is (observed f) = what_is f

  -- The node that is listed for the path, with what is written around it. A tree of a kind lists each of its nodes
  -- once; of any other tree it is the first one.
  abbrev pub IsWrittenAt : Fragment → Path → Placed → Type 0
  IsWrittenAt f path p =
      (k : ℕ) × (slice_get (placed_in def f) k ≡ Some p) × (p.spot.path ≡ path)
      × ((j : ℕ) (q : Placed) → j < k → slice_get (placed_in def f) j ≡ Some q → q.spot.path ≡ path → ⊥)

-- `KIND WHAT START END`, each after a space
abbrev pub node_words : Name → Name → Span → List ℕ
node_words kind what span = 32 ∷ (kind ++ (32 ∷ (what ++ (32 ∷ (decimal span.start ++ (32 ∷ decimal span.end))))))

-- `at PATH KIND WHAT START END`
abbrev pub goto_line : Name → Name → Span → List ℕ
goto_line kind what span = codes "at " ++ (path_text span.path ++ node_words kind what span)

-- the first span of the path, and its place
pub record IsFirstSpan (spans : List Span) (path : Path) (span : Span) (k : ℕ) : Type 0 where
  pub there : slice_get spans k ≡ Some span
  pub path_is : span.path ≡ path
  pub first : (j : ℕ) (other : Span) → j < k → slice_get spans j ≡ Some other → other.path ≡ path → ⊥

-- no span is of the path
abbrev pub HasNoSpan : List Span → Path → Type 0
HasNoSpan spans path = (k : ℕ) (span : Span) → slice_get spans k ≡ Some span → span.path ≡ path → ⊥
