use Rattle.std.proofs.Common.{◌≡◌, ◌++◌, take}
use Rattle.psg_ranges.specs.Forests.{Forest}
use Rattle.psg_lint.specs.Warnings.{warnings}
use Rattle.psg_recover.specs.Spotted.{AreNodesOf, read_by}
use Rattle.psg_lint.proofs.warnings.tell_free.Given as goal

abbrev pub invariant-loop-place : goal.invariant-loop-place
invariant-loop-place l = (nodes : Forest) → AreNodesOf l.spots nodes
    → l.found.items ≡ l.fn.found.items ++ warnings l.spots.known.definition.now (read_by l.spots nodes) (take l.place l.names)
