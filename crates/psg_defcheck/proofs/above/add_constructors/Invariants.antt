use Rattle.std.proofs.Common.{take}
use Rattle.psg_defcheck.proofs.NewLaws.{HasNames}
use Rattle.psg_defcheck.proofs.above.add_constructors.Given as goal

abbrev pub invariant-loop-constructor : goal.invariant-loop-constructor
invariant-loop-constructor l = HasNames l.initial.names l.names l.constructors (take l.constructor-index l.constructors)
