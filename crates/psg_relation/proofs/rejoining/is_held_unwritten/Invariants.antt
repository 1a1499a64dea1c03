use Rattle.std.proofs.Common.{ℕ, List, take}
use Rattle.psg_unify.specs.Pairs.{Pair as Columns}
use Rattle.psg_unify.specs.Unwritten.{IsUnwritten}
use Rattle.psg_relation.specs.Joining.{Two}
use Rattle.psg_relation.specs.Rejoining.{IsHeld, MayCompare}
use Rattle.psg_relation.proofs.rejoining.is_held_unwritten.Given as goal

abbrev pub invariant-loop-other : goal.invariant-loop-other
invariant-loop-other l = (p : Two) (pairs : List Columns) (keep : List ℕ) → IsUnwritten l.sig p.0 p.1 pairs keep l.row → MayCompare l.sig pairs keep l.kept p
    → IsHeld l.sig pairs keep (take l.other-index l.kept) p → ⊥
