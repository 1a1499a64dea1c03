use Rattle.std.proofs.Common.{drop}
use Rattle.psg_defnumber.specs.Putting.{ReadsDeclareRows}
use Rattle.psg_defnumber.proofs.PutLaws.{ReadsTo}
use Rattle.psg_defnumber.proofs.holes.declare_rows.Given as goal

abbrev pub invariant-loop-entry : goal.invariant-loop-entry
invariant-loop-entry l = ReadsTo l.definition ReadsDeclareRows l.entries l.made.items (drop l.entry-index l.entries)
