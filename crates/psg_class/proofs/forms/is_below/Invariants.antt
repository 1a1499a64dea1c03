use Rattle.std.proofs.Common.{◌≡◌, ◌<◌, ℕ, true}
use Rattle.psg_class.specs.Grids.{is_set}
use Rattle.psg_class.proofs.forms.is_below.Given as goal

abbrev pub invariant-loop-high : goal.invariant-loop-high
invariant-loop-high l = (a b : ℕ) → a < l.high → b < a → is_set l.asked l.row a ≡ true → is_set l.bound l.row b ≡ true → ⊥
