use Rattle.std.proofs.Common.{◌≤◌, ◌-◌, List, length}
use Rattle.psg_pool.specs.Cells.{IsAmong}
use Rattle.psg_pool.specs.declared.cells.CellId.{CellId}
use Rattle.psg_unify.specs.Valuations.{Equation, Follows, AreLinked}
use Rattle.psg_unify.specs.Joined.{IsNext}
use Rattle.psg_unify.specs.Climbing.{height_at}
use Rattle.psg_unify.proofs.classes.end_of.Given as goal

abbrev pub invariant-loop-next : goal.invariant-loop-next
invariant-loop-next l =
    (l.classes.base ≤ l.id.0)
    × IsAmong l.pool.cells l.id
    × ((apart : List Equation) → ((x to : CellId) → IsNext l.classes x to → AreLinked apart x to) → Follows l.pool.bindings apart l.fn.from l.id)

abbrev pub decreases-loop-next : goal.decreases-loop-next
decreases-loop-next l = length l.classes.next.items - height_at l.classes l.id
