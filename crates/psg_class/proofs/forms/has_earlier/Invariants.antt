use Rattle.std.proofs.Common.{◌≡◌, ◌<◌, ◌+◌, ℕ, false}
use Rattle.psg_class.specs.Grids.{is_set}
use Rattle.psg_class.proofs.forms.has_earlier.Given as goal

abbrev pub invariant-loop-one : goal.invariant-loop-one
invariant-loop-one l = (k : ℕ) → k < l.one → is_set l.uses l.row (l.from + k) ≡ false
