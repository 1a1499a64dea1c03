-- Rows whose text is the same after whatever row, except the gap in front.
use Rattle.std.specs.Prelude.{ℕ, ◌≡◌, ◌&&◌, Bool, true, false, List, [], ◌∷◌, Option, Some, None, chars}
use Rattle.std.specs.Prelude.{slice_get}
use Rattle.std.specs.List.{list_any}
use Rattle.psg_terms.specs.Words.{goes_on_word}
use Rattle.psg_lexis.specs.Classes.{is_symbol}
use Rattle.psg_grammar.specs.declared.types.Item.{Item}
use Rattle.psg_grammar.specs.declared.types.Item.TheVariants as items
use Rattle.psg_grammar.specs.declared.types.Operator.{Operator}
use Rattle.psg_grammar.specs.declared.types.Definition.{Definition}
use Rattle.psg_grammar.specs.Fragments.{Fragment}
use Rattle.psg_grammar.specs.Levels.{level_number}
use Rattle.psg_unparse.specs.Rows.{Piece, token, mark, row, operator_of}
use Rattle.psg_unparse.specs.Layout.{is_line, is_tight, is_space, last_char, last_in, marks_behind}
use Rattle.psg_unparse.specs.Spans.{printed_of}
use Rattle.psg_unparse.specs.declared.spans.Printed.{Printed}

-- there is a token in the row so far, of which this is the last character
abbrev pub has_token : Option ℕ → Bool
has_token None = false
has_token (Some c) = true

-- the mark puts no line and changes no level, and it follows a token
abbrev pub keeps_plain : Option ℕ → Item → Bool
keeps_plain last items.Line = false
keeps_plain last items.In = false
keeps_plain last items.Out = false
keeps_plain last items.Tight = has_token last
keeps_plain last items.Space = has_token last
keeps_plain last _ = true

-- all marks of a row are such
abbrev pub plain_in : Option ℕ → List Piece → Bool
plain_in last [] = true
plain_in last (token t ∷ rest) = plain_in (Some (last_char 0 (chars t))) rest
plain_in last (mark i ∷ rest) = keeps_plain last i && plain_in last rest

-- the first character of the first token, if there is one
abbrev pub head_in : List Piece → Option ℕ
head_in [] = None
head_in (token t ∷ rest) = slice_get (chars t) 0
head_in (mark i ∷ rest) = head_in rest

-- A row that begins and ends with a token, and in which no mark puts a line or changes a level.
pub record IsPlain (pieces : List Piece) : Type 0 where
  pub last : ℕ
  pub last_is : last_in None pieces ≡ Some last
  pub marks : plain_in None pieces ≡ true
  pub line : list_any is_line (marks_behind [] pieces) ≡ false
  pub tight : list_any is_tight (marks_behind [] pieces) ≡ false
  pub space : list_any is_space (marks_behind [] pieces) ≡ false

-- both run together with the same characters, in front of them and after them
abbrev pub AreAlike : Option ℕ → Option ℕ → Type 0
AreAlike None None = Unit {0}
AreAlike (Some a) (Some b) = (goes_on_word a ≡ goes_on_word b) × (is_symbol a ≡ is_symbol b)
AreAlike _ _ = ⊥

-- the level of the operator at the top
abbrev pub level_in : Option Operator → Option ℕ
level_in None = None
level_in (Some o) = Some (level_number o.level)

abbrev pub level_of : Definition → Fragment → Option ℕ
level_of def f = level_in (operator_of def f)

-- what is printed of a tree with a plain row, and the first and the last character of its tokens
pub record IsPlainText (def : Definition) (f : Fragment) (printed : Printed) (first last : Option ℕ) : Type 0 where
  pub printed_is : printed ≡ printed_of def f
  pub plain : IsPlain (row def f)
  pub first_is : first ≡ head_in (row def f)
  pub last_is : last ≡ last_in None (row def f)
