use Rattle.std.proofs.Common.{◌≡◌, ◌-◌, ◌^◌, min, take}
use Rattle.psg_relation.specs.Heavy.{deepest_of}
use Rattle.psg_relation.proofs.weighing.deepest_of.Given as goal

abbrev pub invariant-loop-row : goal.invariant-loop-row
invariant-loop-row l = l.depth ≡ min (deepest_of (take l.row-index l.rows)) (2 ^ 64 - 1)
