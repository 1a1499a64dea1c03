use Rattle.std.proofs.Common.{ℕ, ◌<◌}
use Rattle.psg_specimen.specs.Conditions.{IsQuiet}
use Rattle.psg_covering.proofs.Firsts.{At}
use Rattle.psg_specimen.proofs.forms.first_loud.Given as goal

abbrev pub invariant-loop-number : goal.invariant-loop-number
invariant-loop-number l = (m : ℕ) → m < l.number → At l.slots (IsQuiet l.definition) m
