use Rattle.psg_class.proofs.SetCellLaws.{row_more}
use Rattle.psg_class.proofs.grid.set_cells.Goals as goal

pub loop-row-preserved : goal.loop-row-preserved
loop-row-preserved c = row_more c.args.grid.now c.loop-row.row c.loop-row.cells.items c.add_row.new.cells.items c.in_ok-add_row.ensures c.loop-row.invariant
