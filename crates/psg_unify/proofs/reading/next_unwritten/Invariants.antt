use Rattle.std.proofs.Common.{List, ◌≤◌, reverse, length}
use Rattle.psg_terms.specs.Signature.{Signature}
use Rattle.psg_terms.specs.Canonical.{Variable}
use Rattle.psg_unify.specs.ReadOut.{ReadsOn}
use Rattle.psg_unify.specs.Filling.{StaysFilling, fresh}
use Rattle.psg_unify.proofs.reading.next_unwritten.Given as goal

abbrev pub invariant-loop-item : goal.invariant-loop-item
invariant-loop-item l =
    ((s : Signature) (known : List Variable) → ReadsOn s l.pool known known l.fn.written.items l.written.items (reverse l.fn.stack.items) (reverse l.stack.items))
    × StaysFilling l.pool l.fn.written.items l.written.items (reverse l.fn.stack.items) (reverse l.stack.items)
    × (fresh l.written.items (reverse l.stack.items) ≤ fresh l.fn.written.items (reverse l.fn.stack.items))

abbrev pub decreases-loop-item : goal.decreases-loop-item
decreases-loop-item l = length l.stack.items
