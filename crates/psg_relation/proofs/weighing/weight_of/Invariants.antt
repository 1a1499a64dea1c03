use Rattle.std.proofs.Common.{◌≡◌, ◌-◌, ◌^◌, min, take}
use Rattle.psg_terms.specs.Weight.{weight_of}
use Rattle.psg_relation.proofs.weighing.weight_of.Given as goal

abbrev pub invariant-loop-row : goal.invariant-loop-row
invariant-loop-row l = l.weight ≡ min (weight_of (take l.row-index l.rows)) (2 ^ 64 - 1)
