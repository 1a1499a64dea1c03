-- Bytes of nodes in the printed text, and where a text is put into a list.
use Rattle.std.specs.Prelude.{ℕ, zero, suc, ◌-◌, Bool, cond, List, [], ◌∷◌, ◌++◌, Option, Some, None}
use Rattle.std.specs.Prelude.{bytes_eq, max, option_and_then, option_map, slice_get}
use Rattle.psg_grammar.specs.declared.types.Definition.{Definition}
use Rattle.psg_grammar.specs.declared.types.ListKind.{ListKind}
use Rattle.psg_grammar.specs.Fragments.{Fragment, ending, cell}
use Rattle.psg_grammar.specs.Paths.{Path, node_at}
use Rattle.psg_unparse.specs.declared.spans.Span.{Span}
use Rattle.psg_face.specs.Moves.{is_dots, parent_of}
use Rattle.psg_keymap.specs.declared.ranges.Range.{Range}

-- the first byte, and the one after the last
pub record Bytes : Type 0 where
  pub start : ℕ
  pub end : ℕ

abbrev pub is_same : Path → Path → Bool
is_same path other = bytes_eq path other

-- the bytes of the node at the path
abbrev pub span_at : List Span → Path → Option Bytes
span_at [] path = None
span_at (span ∷ spans) path =
    cond (is_same span.path path) (Some (record { start = span.start; end = span.end })) (span_at spans path)

-- the two numbers
abbrev pub both : Bytes → ℕ × ℕ
both b = (b.start, b.end)

-- the last three of the bytes
abbrev pub last_three : Bytes → Bytes
last_three b = record { start = max (b.end - 3) b.start; end = b.end }

abbrev pub or_dots : Option Bytes → Option Bytes → Option Bytes
or_dots (Some b) dots = Some b
or_dots None dots = dots

-- the bytes of a chosen place: those of the node, or of the `...`
abbrev pub bytes_at : Fragment → List Span → Path → Option Bytes
bytes_at f spans path =
    or_dots (span_at spans path)
    (cond (is_dots f path) (option_map last_three (span_at spans (parent_of path))) None)

abbrev pub list_number : Fragment → Option ℕ
list_number (ending l u) = Some l
list_number (cell l e r) = Some l
list_number _ = None

abbrev pub separator_by : Option ListKind → List ℕ
separator_by None = []
separator_by (Some kind) = kind.separator

-- the word between two elements of the list at the path
abbrev pub separator_of : Definition → Fragment → Path → List ℕ
separator_of def f path =
    separator_by (option_and_then (slice_get def.lists) (option_and_then list_number (node_at f path)))

-- the text before a place of a list, followed by the separator; after an element it follows the separator
abbrev pub range_by : Option Bytes → Option Bytes → List ℕ → List ℕ → Option Range
range_by (Some b) last separator text = Some (record { byte = b.start; text = text ++ 32 ∷ (separator ++ 32 ∷ []) })
range_by None (Some b) separator text = Some (record { byte = b.end; text = 32 ∷ (separator ++ 32 ∷ text) })
range_by None None separator text = None

-- the bytes of the element before the place, if there is one
abbrev pub span_before : List Span → Path → ℕ → Option Bytes
span_before spans list zero = None
span_before spans list (suc place) = span_at spans (list ++ place ∷ [])

-- The text that is put before a place of a list, and the byte before which it is put: before an element or the `...`,
-- else after the last element of a finished list; a finished list without elements has no bytes.
abbrev pub range_of : Fragment → List Span → Path → ℕ → List ℕ → List ℕ → Option Range
range_of f spans list place separator text =
    range_by (bytes_at f spans (list ++ place ∷ [])) (span_before spans list place) separator text
