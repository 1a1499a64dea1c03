use Rattle.psg_class.proofs.SetCellLaws.{none_below}
use Rattle.psg_class.proofs.grid.add_row.Goals as goal

pub loop-column-init : goal.loop-column-init
loop-column-init c = none_below c.args.grid.now c.args.row c.args.cells.now.items
