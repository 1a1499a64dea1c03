use Rattle.std.proofs.Common.{ℕ, ◌<◌}
use Rattle.psg_specimen.proofs.DeclarableLaws.{AllOf}
use Rattle.psg_specimen.proofs.declarable.first_undeclared.Given as goal

abbrev pub invariant-loop-number : goal.invariant-loop-number
invariant-loop-number l = (m : ℕ) → m < l.number → AllOf l.definition l.lists m
