-- The text that is written for a new text of a program, with the comments of the old one.
use Rattle.std.specs.Prelude.{ℕ, ◌≡◌, ◌⊎◌, ◌++◌, ◌==◌, ◌||◌, cond, Bool, true, List, [], ◌∷◌, chars, IsUtf8}
use Rattle.std.specs.List.{flat_map}
use Rattle.psg_terms.specs.Names.{Name}
use Rattle.psg_lexis.specs.Tokens.{HasTokens}
use Rattle.psg_lexis.specs.declared.token.Token.{Token}
use Rattle.psg_lexis.specs.declared.token.Spanned.{Spanned}
use Rattle.psg_comments.specs.Blanking.{IsBlanked}
use Rattle.psg_comments.specs.declared.finding.Comment.{Comment}
use Rattle.psg_commented.specs.Keeping.{IsCommented, IsLost}
use Rattle.psg_commented.specs.Noting.{bytes_between, counts, has_feed, notes_of}
use Rattle.psg_commented.specs.Printing.{heads}
use Rattle.psg_commented.specs.declared.noting.Note.{Note}
use Rattle.psg_keeping.specs.Moving.{moved}
use Rattle.psg_keeping.specs.Pairing.{ArePairs, IsFar, IsMost}
use Rattle.psg_keeping.specs.declared.pairing.Step.{Step}

-- the token alone, if it is counted: if it is no round bracket; and all tokens that are
abbrev pub counted_one : Spanned → List Token
counted_one t = cond (counts t) (t.token ∷ []) []

abbrev pub counted_of : List Spanned → List Token
counted_of ts = flat_map counted_one ts

-- whether a line ends between the last token that is counted, which ends at the byte `from`, and the token, if it is
-- counted too; and where the last counted token then ends
abbrev pub line_before : List ℕ → ℕ → Spanned → List Bool
line_before text from t =
    cond (counts t) (((from == 0) || has_feed (bytes_between text from t.start)) ∷ []) []

abbrev pub end_after : ℕ → Spanned → ℕ
end_after from t = cond (counts t) t.end from

-- for each number of counted tokens, whether a line ends after them: after none and after all one does
abbrev pub lines_from : List ℕ → ℕ → List Spanned → List Bool
lines_from text from [] = true ∷ []
lines_from text from (t ∷ ts) = line_before text from t ++ lines_from text (end_after from t) ts

abbrev pub lines_of : List ℕ → List Spanned → List Bool
lines_of text ts = lines_from text 0 ts

-- the tokens of the bytes; none, where they have no tokens
pub data AreTokens (fixed : List Name) (bytes : List ℕ) : List Spanned → Type 0 where
  tokens : (ts : List Spanned) → HasTokens fixed (chars bytes) 0 ts → AreTokens fixed bytes ts
  no_tokens : (IsUtf8 bytes → (ts : List Spanned) → HasTokens fixed (chars bytes) 0 ts → ⊥) → AreTokens fixed bytes []

module _ (fixed : List Name) (token old new : List ℕ) where
  -- These are the comments of the old text beside the tokens of the new one, by a longest common subsequence of the
  -- tokens of both.
  pub record AreMoved (notes : List Note) : Type 0 where
    pub comments : List Comment
    pub blanked : List ℕ
    pub found : IsBlanked fixed token old comments blanked
    pub own : List Spanned
    pub own_are : AreTokens fixed blanked own
    pub shown : List Spanned
    pub shown_are : AreTokens fixed new shown
    pub steps : List Step
    pub paired : ArePairs (counted_of own) (counted_of shown) steps
    pub most : IsFar (counted_of own) (counted_of shown) steps ⊎ IsMost (counted_of own) (counted_of shown) steps
    pub are : notes ≡ moved 0 steps (lines_of new shown) (notes_of old own comments)

  -- The text is the new one with the comments of the old one: the new one where there is no comment; the new one with
  -- the comments at their places, where that has the same tokens and these comments; and otherwise the new one with
  -- the comments in front of it.
  pub data IsKept : List ℕ → Type 0 where
    no_comments : (blanked : List ℕ) → IsBlanked fixed token old [] blanked → IsKept new
    with_them : (notes : List Note) (text : List ℕ) → AreMoved notes → IsCommented fixed token new notes text
        → IsKept text
    on_top : (notes : List Note) → AreMoved notes → IsLost fixed token new notes → IsKept (heads notes ++ new)
