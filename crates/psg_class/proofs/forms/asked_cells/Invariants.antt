use Rattle.std.proofs.Common.{◌≡◌, take, map}
use Rattle.psg_class.specs.Forms.{asked_cell}
use Rattle.psg_class.proofs.forms.asked_cells.Given as goal

abbrev pub invariant-loop-shape : goal.invariant-loop-shape
invariant-loop-shape l = l.cells.items ≡ map asked_cell (take l.shape-index l.shapes)
