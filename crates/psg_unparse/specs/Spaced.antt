-- That the tokens of a printed tree read back as the tree, however they are spaced.
use Rattle.std.specs.Prelude.{ℕ, ◌≡◌, ◌⊎◌, false, List, [], ◌∷◌, ◌++◌, Option, Some, None, chars}
use Rattle.std.specs.List.{AllByRecursion}
use Rattle.psg_grammar.specs.declared.types.Kind.{Kind}
use Rattle.psg_grammar.specs.declared.types.Definition.{Definition}
use Rattle.psg_grammar.specs.Fragments.{Fragment}
use Rattle.psg_grammar.specs.Printable.{IsPrintable}
use Rattle.psg_grammar.specs.WellFormed.{WellFormed}
use Rattle.psg_lexis.specs.declared.token.Spanned.{Spanned}
use Rattle.psg_class.specs.Texts.{TextTokens, tokens_of}
use Rattle.psg_unparse.specs.Rows.{Piece, token, mark, row}
use Rattle.psg_unparse.specs.Layout.{glues_first, last_char, text_of}
use Rattle.psg_unparse.specs.Back.{ReadsBackFrom}

-- a token, with the gap that is printed in front of it
pub record Put : Type 0 where
  pub gap : List ℕ
  pub text : List ℕ

-- the text of the tokens with their gaps
abbrev pub text_in : List Put → List ℕ
text_in [] = []
text_in (p ∷ ps) = p.gap ++ (p.text ++ text_in ps)

-- a space or a line feed
abbrev pub IsGapByte : ℕ → Type 0
IsGapByte b = (b ≡ 32) ⊎ (b ≡ 10)

-- The gap keeps the token apart from the one before it, of which the last character is this one: it is of spaces and
-- line feeds, and it is empty only where the two do not run together.
pub record IsApart (before : Option ℕ) (text gap : List ℕ) : Type 0 where
  pub blanks : AllByRecursion IsGapByte gap
  pub apart : (c : ℕ) → before ≡ Some c → gap ≡ [] → glues_first c (chars text) ≡ false

-- The tokens are those of the row, in order, each after a gap that keeps it apart.
abbrev pub AreSpaced : Option ℕ → List Piece → List Put → Type 0
AreSpaced before [] puts = puts ≡ []
AreSpaced before (mark i ∷ rest) puts = AreSpaced before rest puts
AreSpaced before (token t ∷ rest) [] = ⊥
AreSpaced before (token t ∷ rest) (p ∷ puts) =
    (p.text ≡ t) × IsApart before t p.gap × AreSpaced (Some (last_char 0 (chars t))) rest puts

-- both texts have the same tokens
pub record HasSameTokens (def : Definition) (one other : List ℕ) : Type 0 where
  pub first : List Spanned
  pub second : List Spanned
  pub of_one : TextTokens def one first
  pub of_other : TextTokens def other second
  pub same : tokens_of first ≡ tokens_of second

-- The text of these tokens reads back as the tree, and has the tokens of the text that is printed of it.
pub record SpacedReadsBack (def : Definition) (f : Fragment) (kind : Kind) (puts : List Put) : Type 0 where
  pub back : ReadsBackFrom def f kind (text_in puts)
  pub tokens : HasSameTokens def (text_in puts) (text_of def f)

abbrev pub SpacedReadsBackIfPrintable : Definition → Fragment → Type 0
SpacedReadsBackIfPrintable def f =
    IsPrintable f → (kind : Kind) → WellFormed def f kind → (puts : List Put) → AreSpaced None (row def f) puts
    → SpacedReadsBack def f kind puts
