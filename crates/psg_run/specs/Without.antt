-- The comments of a program file, and its bytes without them.
use Rattle.std.specs.Prelude.{ℕ, ◌≡◌, ◌-◌, ◌++◌, Option, Some, None, List, [], length, take, IsUtf8}
use Rattle.psg_terms.specs.Names.{Name}
use Rattle.psg_program.specs.Decoding.{unmarked}
use Rattle.psg_comments.specs.Blanking.{IsBlanked}
use Rattle.psg_comments.specs.declared.finding.Comment.{Comment}

-- the bytes before the text: a byte order mark, or none
abbrev pub mark_of : List ℕ → List ℕ
mark_of bytes = take (length bytes - length (unmarked bytes)) bytes

-- These are the comments of the file and its bytes, with a space for each byte of a comment. Where they are no text,
-- they are as they were.
pub data IsBlankedFile (fixed : List Name) (token bytes : List ℕ) (comments : List Comment) (own : List ℕ)
    : Type 0 where
  is_text : (text : List ℕ) → IsUtf8 (unmarked bytes) → IsBlanked fixed token (unmarked bytes) comments text
      → own ≡ mark_of bytes ++ text → IsBlankedFile fixed token bytes comments own
  no_text : (IsUtf8 (unmarked bytes) → ⊥) → comments ≡ [] → own ≡ bytes → IsBlankedFile fixed token bytes comments own

-- in a language without comments, the bytes are as they were
abbrev pub IsWithout : List Name → Option Name → List ℕ → List Comment → List ℕ → Type 0
IsWithout fixed None bytes comments own = (comments ≡ []) × (own ≡ bytes)
IsWithout fixed (Some token) bytes comments own = IsBlankedFile fixed token bytes comments own
