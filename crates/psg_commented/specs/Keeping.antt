-- A text with comments, and that nothing of them is lost when it is printed.
use Rattle.std.specs.Prelude.{ℕ, ◌≡◌, List, [], ◌∷◌, ◌++◌, map, chars}
use Rattle.std.specs.Str.{IsUtf8}
use Rattle.psg_terms.specs.Names.{Name}
use Rattle.psg_lexis.specs.Tokens.{HasTokens}
use Rattle.psg_lexis.specs.declared.token.Token.{Token}
use Rattle.psg_lexis.specs.declared.token.Spanned.{Spanned}
use Rattle.psg_comments.specs.Blanking.{IsBlanked}
use Rattle.psg_comments.specs.declared.finding.Comment.{Comment}
use Rattle.psg_commented.specs.Noting.{notes_of}
use Rattle.psg_commented.specs.Printing.{with_notes}
use Rattle.psg_commented.specs.declared.noting.Note.{Note}

-- the token without its place
abbrev pub token_of : Spanned → Token
token_of t = t.token

-- what of a comment is kept: how many tokens are before it, and what it says
abbrev pub place_of : Note → ℕ
place_of n = n.before

abbrev pub words_of : Note → List ℕ
words_of n = n.text

-- These comments say the same as those, in the same order, each after as many tokens.
pub record AreKept (notes found : List Note) : Type 0 where
  pub places : map place_of found ≡ map place_of notes
  pub words : map words_of found ≡ map words_of notes

-- The text without these comments has the tokens, and the comments are kept.
pub record KeepsBy (fixed : List Name) (shown : List Spanned) (notes : List Note) (text : List ℕ)
    (comments : List Comment) (blanked : List ℕ) : Type 0 where
  pub utf8 : IsUtf8 blanked
  pub own : List Spanned
  pub are : HasTokens fixed (chars blanked) 0 own
  pub same : map token_of own ≡ map token_of shown
  pub kept : AreKept notes (notes_of text own comments)

module _ (fixed : List Name) (token : Name) (shown : List Spanned) (notes : List Note) (text : List ℕ) where
  -- The text has the tokens and keeps the comments.
  pub record Keeps : Type 0 where
    pub utf8 : IsUtf8 text
    pub comments : List Comment
    pub blanked : List ℕ
    pub found : IsBlanked fixed token text comments blanked
    pub by : KeepsBy fixed shown notes text comments blanked

  -- The bytes are no text, or without its comments the text has other tokens, or its comments are others.
  pub data DoesNotKeep : Type 0 where
    no_text : (IsUtf8 text → ⊥) → DoesNotKeep
    other_text : (comments : List Comment) (blanked : List ℕ) → IsBlanked fixed token text comments blanked
        → (KeepsBy fixed shown notes text comments blanked → ⊥) → DoesNotKeep

module _ (fixed : List Name) (token : Name) (printed : List ℕ) (notes : List Note) where
  -- The text is the printed one with the comments, and has its tokens and keeps the comments.
  pub record IsCommented (text : List ℕ) : Type 0 where
    pub shown : List Spanned
    pub are : HasTokens fixed (chars printed) 0 shown
    pub text_is : text ≡ with_notes printed shown notes
    pub keeps : Keeps fixed token shown notes text

  -- the printed text with the comments does not keep them
  abbrev pub IsLost : Type 0
  IsLost = (shown : List Spanned) → HasTokens fixed (chars printed) 0 shown
      → DoesNotKeep fixed token shown notes (with_notes printed shown notes)

module _ (fixed : List Name) (token : Name) (text : List ℕ) (ts : List Spanned) (comments : List Comment)
    (printed : List ℕ) where
  -- The text that is to be written for a text with these tokens and comments, of whose tokens the printed text is
  -- given: the printed text with the comments, where that has the same tokens and keeps the comments; and otherwise the
  -- text as it is.
  pub data IsWithComments : List ℕ → Type 0 where
    no_comments : comments ≡ [] → IsWithComments (printed ++ 10 ∷ [])
    with_them : (new : List ℕ) → IsCommented fixed token printed (notes_of text ts comments) new
        → IsWithComments new
    as_it_is : IsLost fixed token printed (notes_of text ts comments) → IsWithComments text
