-- What an entry of a completion writes.
use Rattle.std.specs.Prelude.{ℕ, ◌==◌, Bool, cond, List, [], ◌∷◌, ◌++◌, Option, option_and_then}
use Rattle.std.specs.List.{slice_split}
use Rattle.std.specs.Str.{trim}
use Rattle.psg_terms.specs.Names.{Name}
use Rattle.psg_grammar.specs.declared.types.Definition.{Definition}
use Rattle.psg_grammar.specs.declared.types.Item.{Item}
use Rattle.psg_grammar.specs.declared.types.Item.TheVariants as items
use Rattle.psg_grammar.specs.declared.types.Operator.{Operator}
use Rattle.psg_grammar.specs.Fragments.{Fragment, operator, with_child, with_name, with_number, with_text}
use Rattle.psg_grammar.specs.Insertion.{blank}
use Rattle.psg_grammar.specs.Lookups.{operator_at}
use Rattle.psg_grammar.specs.Paths.{Path, node_at}
use Rattle.psg_unparse.specs.Layout.{text_of}
use Rattle.psg_unparse.specs.Rows.{is_below_level, items_in, operator_of}
use Rattle.psg_completing.specs.Wanted.{IsLeastUnder}

-- ---- an operator with nothing in it

-- A slot has a placeholder, or a list without elements. Each name is the one that is given, a number is 0, and a text
-- is empty.
abbrev pub with_sample : Definition → Name → Fragment → Item → Fragment
with_sample def name f (items.Slot kind) = with_child f (blank def kind)
with_sample def name f (items.Refers s) = with_name f name
with_sample def name f (items.Declares s) = with_name f name
with_sample def name f items.Number = with_number f 0
with_sample def name f items.Text = with_text f []
with_sample def name f _ = f

abbrev pub with_samples : Definition → Name → Fragment → List Item → Fragment
with_samples def name f [] = f
with_samples def name f (i ∷ rest) = with_samples def name (with_sample def name f i) rest

abbrev pub sample : Definition → Name → ℕ → Fragment
sample def name o = with_samples def name (operator o) (items_in (operator_at def o))

-- ---- its text

-- the line after what is there, with a space between
abbrev pub with_line : List ℕ → List ℕ → List ℕ
with_line [] line = trim line
with_line (b ∷ text) line = (b ∷ text) ++ 32 ∷ trim line

abbrev pub with_lines : List ℕ → List (List ℕ) → List ℕ
with_lines text [] = text
with_lines text (line ∷ lines) = with_lines (with_line text line) lines

-- the text on one line
abbrev pub one_line : List ℕ → List ℕ
one_line text = with_lines [] (slice_split (λ b. b == 10) text)

abbrev pub in_brackets : Bool → List ℕ → List ℕ
in_brackets b text = cond b (40 ∷ text ++ 41 ∷ []) text

-- the operator with nothing in it, as it is written where this level is wanted
abbrev pub sample_text : Definition → ℕ → Name → ℕ → List ℕ
sample_text def least name o =
    in_brackets (is_below_level (operator_at def o) least) (one_line (text_of def (sample def name o)))

-- ---- which level is wanted

-- the operator at the top of the node, if there is one
abbrev pub operator_by : Definition → Option Fragment → Option Operator
operator_by def o = option_and_then (operator_of def) o

-- The least level that a tree must have at the path to be written there without brackets: that of the slot of the
-- operator above, and none where a list is above, or nothing.
pub data IsLeast (def : Definition) (tree : Fragment) : Path → ℕ → Type 0 where
  whole : IsLeast def tree [] 0
  below : (front : Path) (number least : ℕ) → IsLeastUnder number (operator_by def (node_at tree front)) least
      → IsLeast def tree (front ++ number ∷ []) least
