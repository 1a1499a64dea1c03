-- That a text has its comments in one way, and that none of them is lost when it is printed.
use Rattle.std.specs.Prelude.{ℕ, ◌≡◌, ◌≤◌, List, count_by, chars}
use Rattle.std.specs.Str.{IsUtf8}
use Rattle.psg_terms.specs.Names.{Name}
use Rattle.psg_lexis.specs.Tokens.{HasTokens}
use Rattle.psg_lexis.specs.declared.token.Spanned.{Spanned}
use Rattle.psg_comments.specs.Finding.{HasComments}
use Rattle.psg_comments.specs.Blanking.{IsBlanked}
use Rattle.psg_comments.specs.declared.finding.Comment.{Comment}
use Rattle.psg_commented.specs.Noting.{counts, notes_of}
use Rattle.psg_commented.specs.Printing.{with_notes}
use Rattle.psg_commented.specs.Keeping.{IsCommented, IsLost}

-- the same comments, and the same bytes without them
pub record AreSame (comments others : List Comment) (bytes own : List ℕ) : Type 0 where
  pub same_comments : comments ≡ others
  pub same_bytes : bytes ≡ own

-- The text has these comments. The printed text has these tokens, and as many of them are counted as of the text's own
-- tokens, or more.
pub record IsPrinting (fixed : List Name) (token text : List ℕ) (ts : List Spanned) (comments : List Comment)
    (printed : List ℕ) (shown : List Spanned) : Type 0 where
  pub utf8 : IsUtf8 text
  pub found : HasComments fixed (chars token) (chars text) 0 comments
  pub printed_utf8 : IsUtf8 printed
  pub are : HasTokens fixed (chars printed) 0 shown
  pub enough : count_by counts ts ≤ count_by counts shown

module _ (fixed : List Name) (token : List ℕ) where
  -- a text has its comments in one way
  abbrev pub HasOneReading : Type 0
  HasOneReading = (text : List ℕ) (comments others : List Comment) (bytes own : List ℕ)
      → IsBlanked fixed token text comments bytes → IsBlanked fixed token text others own
      → AreSame comments others bytes own

  -- the printed text with the comments has its tokens and keeps the comments
  abbrev pub KeepsAll : Type 0
  KeepsAll = (text printed : List ℕ) (ts shown : List Spanned) (comments : List Comment)
      → IsPrinting fixed token text ts comments printed shown
      → IsCommented fixed token printed (notes_of text ts comments)
      (with_notes printed shown (notes_of text ts comments))

  -- so it is never said to lose them
  abbrev pub LosesNone : Type 0
  LosesNone = (text printed : List ℕ) (ts shown : List Spanned) (comments : List Comment)
      → IsPrinting fixed token text ts comments printed shown
      → IsLost fixed token printed (notes_of text ts comments) → ⊥

  -- what was printed with comments is printed with its own comments as it is
  abbrev pub PrintsOnce : Type 0
  PrintsOnce = (text printed : List ℕ) (ts shown : List Spanned) (comments : List Comment)
      → IsPrinting fixed token text ts comments printed shown → (new : List ℕ)
      → new ≡ with_notes printed shown (notes_of text ts comments)
      → (own : List Spanned) (others : List Comment) (bytes : List ℕ) → IsBlanked fixed token new others bytes
      → HasTokens fixed (chars bytes) 0 own → with_notes printed shown (notes_of new own others) ≡ new
