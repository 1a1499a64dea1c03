use Rattle.std.proofs.Common.{drop}
use Rattle.psg_covering.proofs.Adding.{IsLeft}
use Rattle.psg_covering.proofs.searching.is_covered.Given as goal

abbrev pub invariant-loop-number : goal.invariant-loop-number
invariant-loop-number l = IsLeft l.definition l.fn.kind l.slots l.fn.row (drop l.number l.slots) l.front.items
