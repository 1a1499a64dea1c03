use Rattle.std.proofs.Common.{◌<◌, ℕ}
use Rattle.psg_class.specs.Forms.{FailsTest, fits}
use Rattle.psg_class.proofs.forms.first_misfit.Given as goal

abbrev pub invariant-loop-number : goal.invariant-loop-number
invariant-loop-number l = (n : ℕ) → n < l.number → FailsTest fits l.shapes n → ⊥
