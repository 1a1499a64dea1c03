use Rattle.std.proofs.Common.{length}
use Rattle.psg_defcheck.proofs.TableLaws.{HasLines}
use Rattle.psg_defcheck.proofs.tables.Tables.of.Given as goal

abbrev pub invariant-loop-entry : goal.invariant-loop-entry
invariant-loop-entry l = HasLines l.entries l.rest l.tables

abbrev pub decreases-loop-entry : goal.decreases-loop-entry
decreases-loop-entry l = length l.rest
