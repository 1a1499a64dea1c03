use Rattle.std.proofs.Common.{take}
use Rattle.psg_covering.specs.Index.{Collects}
use Rattle.psg_covering.proofs.index.collect.Given as goal

abbrev pub invariant-loop-i : goal.invariant-loop-i
invariant-loop-i l = Collects l.definition l.fn.kind (take l.i l.places) l.fn.numbers.items l.numbers.items
