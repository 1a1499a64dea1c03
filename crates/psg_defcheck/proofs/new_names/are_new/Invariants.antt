use Rattle.std.proofs.Common.{take}
use Rattle.psg_defcheck.proofs.NewLaws.{AreNew}
use Rattle.psg_defcheck.proofs.new_names.are_new.Given as goal

abbrev pub invariant-loop-constructor : goal.invariant-loop-constructor
invariant-loop-constructor l = AreNew l.names l.seen (take l.constructor-index l.constructors)
