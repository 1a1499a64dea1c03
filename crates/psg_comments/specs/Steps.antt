-- What the calls of this crate find step by step.
use Rattle.std.specs.Prelude.{ℕ, ◌≡◌, ◌+◌, ◌<◌, ◌≤◌, Option, Some, None, List, [], ◌∷◌, length, drop, get_or, chars}
use Rattle.std.specs.Str.{IsUtf8, IsCharBoundary}
use Rattle.psg_terms.specs.Names.{Name}
use Rattle.psg_lexis.specs.Classes.{Chars}
use Rattle.psg_comments.specs.Finding.{HasComments}
use Rattle.psg_comments.specs.declared.finding.Comment.{Comment}

-- the comment is the first of the text, and the others are those of what follows it
pub record IsFirst (fixed : List Name) (token : Chars) (text : List ℕ) (c : Comment) : Type 0 where
  pub some : c.start < c.end
  pub within : c.end ≤ length text
  pub boundary : IsCharBoundary text c.end
  pub utf8 : IsUtf8 (drop c.end text)
  pub goes : (at : ℕ) (more : List Comment) → HasComments fixed token (chars (drop c.end text)) (at + c.end) more
      → HasComments fixed token (chars text) at (record { start = at + c.start; end = at + c.end } ∷ more)

-- the first comment of the text, or that it has none
abbrev pub IsFirstOrNone : List Name → Chars → List ℕ → Option Comment → Type 0
IsFirstOrNone fixed token text None = (at : ℕ) → HasComments fixed token (chars text) at []
IsFirstOrNone fixed token text (Some c) = IsFirst fixed token text c

-- the bytes of the comment became spaces, and all others are as they were
pub record IsFilled (c : Comment) (old new : List ℕ) : Type 0 where
  pub size : length new ≡ length old
  pub inside : (place : ℕ) → place < length old → c.start ≤ place → place < c.end → get_or new place 0 ≡ 32
  pub before : (place : ℕ) → place < c.start → get_or new place 0 ≡ get_or old place 0
  pub after : (place : ℕ) → c.end ≤ place → get_or new place 0 ≡ get_or old place 0
