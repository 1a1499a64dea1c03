use Rattle.std.proofs.Common.{◌<◌, ℕ}
use Rattle.psg_class.specs.Failing.{LedClashes}
use Rattle.psg_class.proofs.failing.first_led.Given as goal

abbrev pub invariant-loop-number : goal.invariant-loop-number
invariant-loop-number l = (n : ℕ) → n < l.number → LedClashes l.rows l.sets l.shapes n → ⊥
