use Rattle.std.proofs.Common.{◌≤◌, reverse, length}
use Rattle.psg_unify.specs.Numbering.{StaysNumbered}
use Rattle.psg_unify.specs.Filling.{StaysFilling, fresh}
use Rattle.psg_unify.proofs.numbering.next_unnumbered.Given as goal

abbrev pub invariant-loop-item : goal.invariant-loop-item
invariant-loop-item l =
    StaysNumbered l.sig l.pool l.fn.numbers l.numbers
    × StaysFilling l.pool l.fn.numbers.cells.items l.numbers.cells.items (reverse l.fn.stack.items) (reverse l.stack.items)
    × (fresh l.numbers.cells.items (reverse l.stack.items) ≤ fresh l.fn.numbers.cells.items (reverse l.fn.stack.items))

abbrev pub decreases-loop-item : goal.decreases-loop-item
decreases-loop-item l = length l.stack.items
