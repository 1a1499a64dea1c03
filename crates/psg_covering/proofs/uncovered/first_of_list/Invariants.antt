use Rattle.std.proofs.Common.{ℕ, ◌<◌}
use Rattle.psg_covering.specs.Rows.{IsCellCovered}
use Rattle.psg_covering.proofs.Firsts.{At}
use Rattle.psg_covering.proofs.uncovered.first_of_list.Given as goal

abbrev pub invariant-loop-cell : goal.invariant-loop-cell
invariant-loop-cell l = (m : ℕ) → m < l.cell → At l.rows (IsCellCovered l.definition l.fn.number l.list) m
