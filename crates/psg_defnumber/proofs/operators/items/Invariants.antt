use Rattle.std.proofs.Common.{drop}
use Rattle.psg_defnumber.specs.Putting.{ReadsItems}
use Rattle.psg_defnumber.proofs.PutLaws.{ReadsTo}
use Rattle.psg_defnumber.proofs.operators.items.Given as goal

abbrev pub invariant-loop-part : goal.invariant-loop-part
invariant-loop-part l = ReadsTo l.definition ReadsItems l.parts l.made.items (drop l.part-index l.parts)
