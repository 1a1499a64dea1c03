-- The least of two ascending lists.
use Rattle.std.specs.Prelude.{ℕ, ◌≡◌, ◌+◌, ◌<◌, ◌==◌, ◌||◌, List, [], length}
use Rattle.std.specs.List.{AllByRecursion}
use Rattle.psg_scope.specs.Headers.{AreAscending, has_space}

pub record AreEmpty (left right : List ℕ) : Type 0 where
  pub lefts : left ≡ []
  pub rights : right ≡ []

-- the space is taken from the lists that it begins, and of two ascending lists the others are above it
pub record IsLeast (left right : List ℕ) (space : ℕ) (lefts rights : List ℕ) : Type 0 where
  pub spaces : (s : ℕ) → (has_space left s || has_space right s)
      ≡ ((space == s) || (has_space lefts s || has_space rights s))
  pub left_ascending : AreAscending left → AreAscending lefts
  pub right_ascending : AreAscending right → AreAscending rights
  pub above_left : AreAscending left → AreAscending right → AllByRecursion (λ s. space < s) lefts
  pub above_right : AreAscending left → AreAscending right → AllByRecursion (λ s. space < s) rights
  pub shorter : length lefts + length rights < length left + length right
