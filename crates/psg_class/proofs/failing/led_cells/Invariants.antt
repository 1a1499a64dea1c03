use Rattle.std.proofs.Common.{◌≡◌, take}
use Rattle.psg_class.specs.Failing.{cells_from, led_cell}
use Rattle.psg_class.proofs.failing.led_cells.Given as goal

abbrev pub invariant-loop-shape : goal.invariant-loop-shape
invariant-loop-shape l = l.cells.items ≡ cells_from led_cell (take l.shape-index l.shapes)
