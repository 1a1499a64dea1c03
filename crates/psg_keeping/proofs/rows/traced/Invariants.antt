use Rattle.std.proofs.Common.{◌+◌, ◌≤◌, length}
use Rattle.psg_keeping.specs.Rows.{end_of}
use Rattle.psg_keeping.proofs.RowLaws.{GoesOn}
use Rattle.psg_keeping.proofs.rows.traced.Given as goal

abbrev pub invariant-walk : goal.invariant-walk
invariant-walk l =
    GoesOn l.old l.new (end_of l.own l.old) (end_of l.theirs l.new) l.steps.items
    × (l.own ≤ length l.old) × (l.theirs ≤ length l.new)

abbrev pub decreases-walk : goal.decreases-walk
decreases-walk l = l.own + l.theirs
