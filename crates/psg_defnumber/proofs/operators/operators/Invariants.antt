use Rattle.std.proofs.Common.{drop}
use Rattle.psg_defnumber.specs.Putting.{ReadsOperators}
use Rattle.psg_defnumber.proofs.PutLaws.{ReadsTo}
use Rattle.psg_defnumber.proofs.operators.operators.Given as goal

abbrev pub invariant-loop-i : goal.invariant-loop-i
invariant-loop-i l = ReadsTo l.definition ReadsOperators l.entries l.made.items (drop l.i l.entries)
