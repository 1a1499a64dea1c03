-- That no comment of a program is lost.
use Rattle.std.specs.Prelude.{ℕ, ◌≡◌, List}
use Rattle.std.specs.Str.{IsUtf8}
use Rattle.psg_grammar.specs.declared.types.Definition.{Definition}
use Rattle.psg_grammar.specs.declared.types.Kind.{Kind}
use Rattle.psg_grammar.specs.Fragments.{Fragment}
use Rattle.psg_grammar.specs.WellFormed.{fixed_words}
use Rattle.psg_lexis.specs.declared.token.Spanned.{Spanned}
use Rattle.psg_comments.specs.Blanking.{IsBlanked}
use Rattle.psg_comments.specs.declared.finding.Comment.{Comment}
use Rattle.psg_commented.specs.Noting.{notes_of}
use Rattle.psg_commented.specs.Printing.{with_notes}
use Rattle.psg_commented.specs.Keeping.{IsLost}
use Rattle.psg_class.specs.Texts.{ReadsAs, TextTokens}

-- The text without its comments reads as the tree, and the printed text reads as the same tree.
pub record PrintsProgram (def : Definition) (token : List ℕ) (kind : Kind) (f : Fragment) (text : List ℕ)
    (comments : List Comment) (bare : List ℕ) (ts : List Spanned) (printed : List ℕ) : Type 0 where
  pub utf8 : IsUtf8 text
  pub found : IsBlanked (fixed_words def) token text comments bare
  pub nesting : ℕ
  pub reads : ReadsAs def kind 0 bare f nesting
  pub are : TextTokens def bare ts
  pub printed_utf8 : IsUtf8 printed
  pub own_nesting : ℕ
  pub printed_reads : ReadsAs def kind 0 printed f own_nesting

-- the printed text of a program is never said to lose the program's comments
abbrev pub LosesNoneOfPrograms : Definition → List ℕ → Type 0
LosesNoneOfPrograms def token = (kind : Kind) (f : Fragment) (text : List ℕ) (comments : List Comment) (bare : List ℕ)
    (ts : List Spanned) (printed : List ℕ) → PrintsProgram def token kind f text comments bare ts printed
    → IsLost (fixed_words def) token printed (notes_of text ts comments) → ⊥

-- Without its comments the printed text with the program's comments reads as the same tree.
abbrev pub StaysProgram : Definition → List ℕ → Type 0
StaysProgram def token = (kind : Kind) (f : Fragment) (text : List ℕ) (comments : List Comment) (bare : List ℕ)
    (ts : List Spanned) (printed : List ℕ) (p : PrintsProgram def token kind f text comments bare ts printed)
    → (new : List ℕ) → new ≡ with_notes printed p.printed_reads.tokens (notes_of text ts comments)
    → (others : List Comment) (bytes : List ℕ) → IsBlanked (fixed_words def) token new others bytes
    → ReadsAs def kind 0 bytes f p.own_nesting
