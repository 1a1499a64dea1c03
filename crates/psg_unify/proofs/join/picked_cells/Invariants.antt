use Rattle.std.proofs.Common.{◌≡◌, take}
use Rattle.psg_unify.specs.Columns.{picked}
use Rattle.psg_unify.proofs.join.picked_cells.Given as goal

abbrev pub invariant-loop-i : goal.invariant-loop-i
invariant-loop-i l = l.some.items ≡ picked l.cells (take l.i l.keep)
