use Rattle.std.proofs.Common.{ℕ, ◌<◌}
use Rattle.psg_covering.proofs.Firsts.{At}
use Rattle.psg_specimen.proofs.QuietLaws.{AllQuiet}
use Rattle.psg_specimen.proofs.forms.first_declaring.Given as goal

abbrev pub invariant-loop-number : goal.invariant-loop-number
invariant-loop-number l = (m : ℕ) → m < l.number → At l.operators (AllQuiet l.definition) m
