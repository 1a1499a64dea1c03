use Rattle.std.proofs.Common.{◌≡◌, take, map}
use Rattle.psg_class.specs.Forms.{bound_cell}
use Rattle.psg_class.proofs.forms.bound_cells.Given as goal

abbrev pub invariant-loop-shape : goal.invariant-loop-shape
invariant-loop-shape l = l.cells.items ≡ map bound_cell (take l.shape-index l.shapes)
