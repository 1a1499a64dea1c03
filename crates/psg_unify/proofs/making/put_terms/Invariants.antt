use Rattle.std.proofs.Common.{◌≡◌, reverse, length}
use Rattle.psg_terms.specs.Renaming.{keys}
use Rattle.psg_pool.specs.Bindings.{Kept, IsSound}
use Rattle.psg_unify.specs.Putting.{IsLonger}
use Rattle.psg_unify.specs.Making.{IsPutting, MayPut, work}
use Rattle.psg_unify.proofs.making.put_terms.Given as goal

abbrev pub invariant-loop-task : goal.invariant-loop-task
invariant-loop-task l =
    ((old : Kept) × IsSound old × (l.base ≡ length old.cells) × IsPutting l.sig old (keys l.known.keys) l.row l.pool (reverse l.tasks.items) l.cells.items)
    × IsLonger l.fn.pool l.pool
    × MayPut l.sig (keys l.known.keys) (length l.cells.items) (reverse l.tasks.items)

abbrev pub decreases-loop-task : goal.decreases-loop-task
decreases-loop-task l = work (reverse l.tasks.items)
