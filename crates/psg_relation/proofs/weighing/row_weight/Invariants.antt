use Rattle.std.proofs.Common.{◌≡◌, ◌-◌, ◌^◌, min, take}
use Rattle.std.specs.Prelude.{sum_by}
use Rattle.psg_terms.specs.Weight.{symbols_of}
use Rattle.psg_relation.proofs.weighing.row_weight.Given as goal

abbrev pub invariant-loop-term : goal.invariant-loop-term
invariant-loop-term l = l.weight ≡ min (sum_by symbols_of (take l.term-index l.row)) (2 ^ 64 - 1)
