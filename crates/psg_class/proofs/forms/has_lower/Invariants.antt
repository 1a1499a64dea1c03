use Rattle.std.proofs.Common.{◌≡◌, ◌<◌, ℕ, false}
use Rattle.psg_class.specs.Grids.{is_set}
use Rattle.psg_class.proofs.forms.has_lower.Given as goal

abbrev pub invariant-loop-low : goal.invariant-loop-low
invariant-loop-low l = (k : ℕ) → k < l.low → is_set l.bound l.row k ≡ false
