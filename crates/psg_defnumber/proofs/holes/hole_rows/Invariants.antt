use Rattle.std.proofs.Common.{drop}
use Rattle.psg_defnumber.specs.Putting.{ReadsHoleRows}
use Rattle.psg_defnumber.proofs.PutLaws.{ReadsTo}
use Rattle.psg_defnumber.proofs.holes.hole_rows.Given as goal

abbrev pub invariant-loop-i : goal.invariant-loop-i
invariant-loop-i l = ReadsTo l.definition ReadsHoleRows l.entries l.made.items (drop l.i l.entries)
