use Rattle.std.proofs.Common.{take}
use Rattle.psg_covering.proofs.CoverLaws.{NoneCovers}
use Rattle.psg_covering.proofs.covers.has_cover.Given as goal

abbrev pub invariant-loop-i : goal.invariant-loop-i
invariant-loop-i l = NoneCovers l.definition l.fn.kind l.term (take l.i l.numbers)
