use Rattle.psg_class.proofs.SetCellLaws.{HasRows}
use Rattle.psg_class.proofs.grid.set_cells.Given as goal

abbrev pub invariant-loop-row : goal.invariant-loop-row
invariant-loop-row l = HasRows l.grid l.row l.cells.items
