use Rattle.psg_keeping.specs.Rows.{AreRows}
use Rattle.psg_keeping.proofs.rows.rows_of.Given as goal

abbrev pub invariant-loop-count : goal.invariant-loop-count
invariant-loop-count l = AreRows l.old l.new l.count l.rows.items
