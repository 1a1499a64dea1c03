-- That `format` loses no comment of a program, and that to format twice is to format once.
use Rattle.std.specs.Prelude.{ℕ, ◌≡◌, List}
use Rattle.std.specs.Str.{IsUtf8}
use Rattle.psg_grammar.specs.declared.types.Definition.{Definition}
use Rattle.psg_grammar.specs.declared.types.Kind.{Kind}
use Rattle.psg_grammar.specs.Fragments.{Fragment}
use Rattle.psg_grammar.specs.WellFormed.{fixed_words}
use Rattle.psg_lexis.specs.declared.token.Spanned.{Spanned}
use Rattle.psg_class.specs.Texts.{TextTokens}
use Rattle.psg_unparse.specs.Layout.{text_of}
use Rattle.psg_program.specs.Programs.{IsProgramText}
use Rattle.psg_comments.specs.Blanking.{IsBlanked}
use Rattle.psg_comments.specs.declared.finding.Comment.{Comment}
use Rattle.psg_commented.specs.Noting.{notes_of}
use Rattle.psg_commented.specs.Printing.{with_notes}
use Rattle.psg_commented.specs.Keeping.{IsLost}

-- The text has these comments, and without them it is the program, with these tokens.
pub record IsCommentedProgram (def : Definition) (token : List ℕ) (kind : Kind) (f : Fragment) (text : List ℕ)
    (comments : List Comment) (bare : List ℕ) (ts : List Spanned) : Type 0 where
  pub utf8 : IsUtf8 text
  pub found : IsBlanked (fixed_words def) token text comments bare
  pub bare_utf8 : IsUtf8 bare
  pub is : IsProgramText def kind bare f
  pub are : TextTokens def bare ts

module _ (def : Definition) (token : List ℕ) where
  -- the printed text never loses the comments, so the text is never written as it is
  abbrev pub NeverAsItIs : Type 0
  NeverAsItIs = (kind : Kind) (f : Fragment) (text : List ℕ) (comments : List Comment) (bare : List ℕ)
      (ts : List Spanned) → IsCommentedProgram def token kind f text comments bare ts
      → IsLost (fixed_words def) token (text_of def f) (notes_of text ts comments) → ⊥

  -- the new text without its comments is the same program, and with them it is printed as it is
  pub record IsPrintedAgain (kind : Kind) (f : Fragment) (shown : List Spanned) (new : List ℕ)
      (comments : List Comment) (bare : List ℕ) : Type 0 where
    pub program : IsProgramText def kind bare f
    pub again : (ts : List Spanned) → TextTokens def bare ts
        → with_notes (text_of def f) shown (notes_of new ts comments) ≡ new

  abbrev pub FormatsTwice : Type 0
  FormatsTwice = (kind : Kind) (f : Fragment) (text : List ℕ) (comments : List Comment) (bare : List ℕ)
      (ts : List Spanned) → IsCommentedProgram def token kind f text comments bare ts → (shown : List Spanned)
      → TextTokens def (text_of def f) shown → (new : List ℕ)
      → new ≡ with_notes (text_of def f) shown (notes_of text ts comments) → (others : List Comment) (own : List ℕ)
      → IsBlanked (fixed_words def) token new others own → IsPrintedAgain kind f shown new others own
