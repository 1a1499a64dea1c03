-- What is said of the node at a byte of a text.
use Rattle.std.specs.Prelude.{ℕ, ◌≡◌, ◌+◌, ◌-◌, List, [], ◌∷◌, ◌++◌, map, length}
use Rattle.std.specs.Prelude.{string_bytes, codes, Option, Some, None}
use Rattle.std.specs.Prelude.{slice_get}
use Rattle.psg_terms.specs.Names.{Name}
use Rattle.psg_grammar.specs.declared.types.Definition.{Definition}
use Rattle.psg_grammar.specs.declared.types.Kind.{Kind}
use Rattle.psg_grammar.specs.declared.types.ListKind.{ListKind}
use Rattle.psg_grammar.specs.declared.types.Operator.{Operator}
use Rattle.psg_grammar.specs.Fragments.{Fragment, hole, ending, cell, operator, with_child, with_name, with_number}
use Rattle.psg_grammar.specs.Fragments.{with_text, anything, observed}
use Rattle.psg_grammar.specs.Paths.{Path, node_at}
use Rattle.psg_cache.specs.Annotated.{tree_in}
use Rattle.psg_keymap.specs.declared.spots.Spot.{Spot}
use Rattle.psg_program.specs.Decoding.{unmarked}
use Rattle.psg_ranges.specs.declared.ranges.Range.{Range}
use Rattle.psg_ranges.specs.Forests.{Forest, at_path, first_range}
use Rattle.psg_tree.specs.AbstractText.{phylum_name}
use Rattle.psg_asking.specs.Asked.{IsToldOf, Read, relation_of}
use Rattle.psg_asking.specs.Told.{lines_told, or_none}
use Rattle.psg_pointing.specs.declared.hovering.Hover.{Hover}
use Rattle.psg_pointing.specs.declared.judging.Judged.{Judged}
use Rattle.psg_pointing.specs.Judging.{IsJudged, IsJudgement, nodes_in}
use Rattle.psg_pointing.specs.Pointing.{IsPointed, begin_of, finish_of}

-- ---- what a node is, in words

abbrev pub list_name : Option ListKind → Name
list_name None = []
list_name (Some l) = l.name

-- the phylum and the operator
abbrev pub operator_head : Definition → Option Operator → List ℕ
operator_head def None = []
operator_head def (Some o) = phylum_name def o.phylum ++ (codes ": " ++ o.name)

-- a placeholder as it is written, the name of a list, and an operator with its phylum in front of it
abbrev pub head_of : Definition → Fragment → List ℕ
head_of def (hole p) = 63 ∷ phylum_name def p
head_of def (ending l u) = list_name (slice_get def.lists l)
head_of def (cell l e r) = list_name (slice_get def.lists l)
head_of def (operator o) = operator_head def (slice_get def.operators o)
head_of def (with_child f t) = head_of def f
head_of def (with_name f n) = head_of def f
head_of def (with_number f n) = head_of def f
head_of def (with_text f t) = head_of def f
head_of def (observed f) = head_of def f
head_of def anything = []

-- ---- bytes of a text with a byte order mark

-- how many bytes are before what is judged
abbrev pub mark_size : List ℕ → ℕ
mark_size text = length text - length (unmarked text)

-- the byte of what is judged
abbrev pub own_byte : List ℕ → ℕ → ℕ
own_byte text byte = byte - mark_size text

-- ---- what is said

abbrev pub spot_at : Path → Spot
spot_at path = record { target = path; place = None }

-- the lines that are given; none where no program is asked, and where it is refused
abbrev pub lines_of : Option Read → List (List ℕ)
lines_of None = []
lines_of (Some read) = or_none read

-- The node at the path: where it begins and ends, what it is, and the plain editor's reply to the question for its
-- relation, in a wrong program in the repaired one. That many bytes are before what is judged.
pub record IsHoverOf (def : Definition) (kind : Kind) (j : Judged) (nodes : Forest) (mark : ℕ) (path : Path) (h : Hover)
    : Type 0 where
  pub node : Fragment
  pub node_is : node_at (tree_in j.note) path ≡ Some node
  pub range : Range
  pub range_is : first_range (at_path nodes path) ≡ Some range
  pub starts : h.start ≡ mark + begin_of j.tokens.items range
  pub ends : h.end ≡ mark + finish_of j.tokens.items range
  pub told : Option Read
  pub is_told : IsToldOf def kind (tree_in j.note) (spot_at path) relation_of lines_told told
  pub lines : map string_bytes h.lines.items ≡ head_of def node ∷ lines_of told

-- What is said at a byte of a text: of the node there. Nothing is where nothing is known of the text, and where no node
-- covers the byte.
pub data IsHovered (def : Definition) (kind : Kind) (text : List ℕ) (byte : ℕ) : Option Hover → Type 0 where
  unknown : IsJudgement def kind text None → IsHovered def kind text byte None
  nowhere : (j : Judged) (judged : IsJudged def kind (unmarked text) j)
      → IsPointed j.tokens.items (own_byte text byte) (nodes_in def kind j judged) None
      → IsHovered def kind text byte None
  hovered : (j : Judged) (judged : IsJudged def kind (unmarked text) j) (path : Path)
      → IsPointed j.tokens.items (own_byte text byte) (nodes_in def kind j judged) (Some path) → (h : Hover)
      → IsHoverOf def kind j (nodes_in def kind j judged) (mark_size text) path h
      → IsHovered def kind text byte (Some h)
