-- A text in which comments are spaces.
use Rattle.std.specs.Prelude.{ℕ, ◌≡◌, ◌<◌, ◌&&◌, nat_le, nat_lt, Bool, true, false, List, length, get_or, chars}
use Rattle.std.specs.List.{list_any}
use Rattle.psg_terms.specs.Names.{Name}
use Rattle.psg_comments.specs.Finding.{HasComments}
use Rattle.psg_comments.specs.declared.finding.Comment.{Comment}

-- the byte at the place is one of a comment
abbrev pub is_inside : List Comment → ℕ → Bool
is_inside comments place = list_any (λ c. nat_le c.start place && nat_lt place c.end) comments

-- each byte of a comment is a space there, and all others are as they are in the text
pub record AreSpaces (text : List ℕ) (comments : List Comment) (blanked : List ℕ) : Type 0 where
  pub size : length blanked ≡ length text
  pub inside : (place : ℕ) → place < length text → is_inside comments place ≡ true → get_or blanked place 0 ≡ 32
  pub outside : (place : ℕ) → place < length text → is_inside comments place ≡ false
      → get_or blanked place 0 ≡ get_or text place 0

-- The text has these comments, by the fixed words of the language and the token of its comments, and this is the text
-- without them.
pub record IsBlanked (fixed : List Name) (token text : List ℕ) (comments : List Comment)
    (blanked : List ℕ) : Type 0 where
  pub found : HasComments fixed (chars token) (chars text) 0 comments
  pub spaces : AreSpaces text comments blanked
