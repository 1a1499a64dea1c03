use Rattle.std.proofs.Common.{◌≡◌, length}
use Rattle.psg_terms.specs.Signature.{Signature}
use Rattle.psg_pool.specs.Cells.{IsAmong}
use Rattle.psg_pool.specs.Bindings.{target_of}
use Rattle.psg_unify.specs.Reading.{Reading}
use Rattle.psg_unify.specs.Numbering.{IsClearReading}
use Rattle.psg_unify.proofs.Chains.{steps}
use Rattle.psg_unify.proofs.covering.end_of_bindings.Given as goal

abbrev pub invariant-loop-to : goal.invariant-loop-to
invariant-loop-to l =
    IsAmong l.pool.cells l.id
    × ((sig : Signature) (read : Reading) → IsClearReading sig l.pool read → read l.fn.from ≡ read l.id)

abbrev pub decreases-loop-to : goal.decreases-loop-to
decreases-loop-to l = steps l.pool.bindings (target_of l.pool.bindings l.id) (length l.pool.cells)
