use Rattle.std.proofs.Common.{take}
use Rattle.psg_terms.specs.Kept.{numbers_of}
use Rattle.psg_terms.specs.Marks.{AreMarked}
use Rattle.psg_terms.proofs.ground.all_marked.Given as goal

abbrev pub invariant-loop-s : goal.invariant-loop-s
invariant-loop-s l = AreMarked l.marks (numbers_of (take l.s-index l.sorts))
