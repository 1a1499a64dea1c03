use Rattle.std.proofs.Common.{drop}
use Rattle.psg_defnumber.specs.Putting.{ReadsColumns}
use Rattle.psg_defnumber.proofs.PutLaws.{ReadsTo}
use Rattle.psg_defnumber.proofs.operators.columns.Given as goal

abbrev pub invariant-loop-item : goal.invariant-loop-item
invariant-loop-item l = ReadsTo l.definition ReadsColumns l.items l.sorts.items (drop l.item-index l.items)
