use Rattle.std.proofs.Common.{[]}
use Rattle.psg_keeping.proofs.RowLaws.{IsFrontRow}
use Rattle.psg_keeping.proofs.rows.first_row.Given as goal

abbrev pub invariant-loop-count : goal.invariant-loop-count
invariant-loop-count l = IsFrontRow [] l.new l.row.items l._count
