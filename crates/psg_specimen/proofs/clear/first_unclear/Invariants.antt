use Rattle.std.proofs.Common.{ℕ, ◌<◌}
use Rattle.psg_specimen.specs.Clear.{IsClearDeclare}
use Rattle.psg_covering.proofs.Firsts.{At}
use Rattle.psg_specimen.proofs.clear.first_unclear.Given as goal

abbrev pub invariant-loop-number : goal.invariant-loop-number
invariant-loop-number l = (m : ℕ) → m < l.number → At l.rows (IsClearDeclare l.definition) m
