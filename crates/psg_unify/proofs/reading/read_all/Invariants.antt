use Rattle.std.proofs.Common.{reverse}
use Rattle.psg_terms.specs.Renaming.{keys}
use Rattle.psg_unify.specs.ReadOut.{ReadsOn}
use Rattle.psg_unify.specs.Filling.{StaysFilling, fresh}
use Rattle.psg_unify.proofs.reading.read_all.Given as goal

abbrev pub invariant-loop-id : goal.invariant-loop-id
invariant-loop-id l =
    ReadsOn l.sig l.pool (keys l.fn.known.keys) (keys l.known.keys) l.fn.written.items l.written.items (reverse l.fn.stack.items) (reverse l.stack.items)
    × StaysFilling l.pool l.fn.written.items l.written.items (reverse l.fn.stack.items) (reverse l.stack.items)

abbrev pub decreases-loop-id : goal.decreases-loop-id
decreases-loop-id l = fresh l.written.items (reverse l.stack.items)
