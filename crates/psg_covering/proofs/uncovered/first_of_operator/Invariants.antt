use Rattle.std.proofs.Common.{ℕ, ◌<◌}
use Rattle.psg_covering.specs.Rows.{IsRowCovered}
use Rattle.psg_covering.proofs.Firsts.{At}
use Rattle.psg_covering.proofs.uncovered.first_of_operator.Given as goal

abbrev pub invariant-loop-number : goal.invariant-loop-number
invariant-loop-number l = (m : ℕ) → m < l.number → At l.rows (IsRowCovered l.definition l.operator) m
