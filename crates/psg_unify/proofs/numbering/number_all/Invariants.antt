use Rattle.std.proofs.Common.{reverse}
use Rattle.psg_unify.specs.Numbering.{StaysNumbered}
use Rattle.psg_unify.specs.Filling.{StaysFilling, fresh}
use Rattle.psg_unify.proofs.numbering.number_all.Given as goal

abbrev pub invariant-loop-id : goal.invariant-loop-id
invariant-loop-id l =
    StaysNumbered l.sig l.pool l.fn.numbers l.numbers
    × StaysFilling l.pool l.fn.numbers.cells.items l.numbers.cells.items (reverse l.fn.stack.items) (reverse l.stack.items)

abbrev pub decreases-loop-id : goal.decreases-loop-id
decreases-loop-id l = fresh l.numbers.cells.items (reverse l.stack.items)
