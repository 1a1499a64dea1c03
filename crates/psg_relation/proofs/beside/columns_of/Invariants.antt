use Rattle.std.proofs.Common.{◌≡◌, ◌++◌, take}
use Rattle.psg_unify.specs.Columns.{picked}
use Rattle.psg_relation.proofs.beside.columns_of.Given as goal

abbrev pub invariant-loop-i : goal.invariant-loop-i
invariant-loop-i l = l.terms.items ≡ picked (l.left ++ l.right) (take l.i l.keep)
