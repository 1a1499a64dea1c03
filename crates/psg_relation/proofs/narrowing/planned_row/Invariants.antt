use Rattle.std.proofs.Common.{◌≡◌, ◌++◌, length, take}
use Rattle.psg_unify.specs.Columns.{picked}
use Rattle.psg_relation.specs.Narrowing.{spots}
use Rattle.psg_relation.proofs.narrowing.planned_row.Given as goal

abbrev pub invariant-loop-i : goal.invariant-loop-i
invariant-loop-i l = l.terms.items ≡ picked (l.solved ++ (l.left ++ l.right)) (spots (length l.solved) (take l.i l.places))
