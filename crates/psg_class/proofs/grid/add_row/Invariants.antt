use Rattle.psg_class.specs.Grids.{HasSetBelow}
use Rattle.psg_class.proofs.grid.add_row.Given as goal

abbrev pub invariant-loop-column : goal.invariant-loop-column
invariant-loop-column l = HasSetBelow l.grid l.row l.column l.initial.cells.items l.cells.items
