-- Answers that are the only ones.
use Rattle.std.specs.Prelude.{◌≡◌}

-- it has the property, and nothing else has
pub record IsOnly {Y : Type 0} (Property : Y → Type 0) (y : Y) : Type 0 where
  pub is : Property y
  pub only : (z : Y) → Property z → z ≡ y
