use Rattle.std.proofs.Common.{take}
use Rattle.psg_defcheck.specs.Grounds.{AreMarked}
use Rattle.psg_defcheck.proofs.ground.are_marked.Given as goal

abbrev pub invariant-loop-sort : goal.invariant-loop-sort
invariant-loop-sort l = AreMarked l.marks (take l.sort-index l.sorts)
