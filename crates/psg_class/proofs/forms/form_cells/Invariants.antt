use Rattle.std.proofs.Common.{◌≡◌, take, map}
use Rattle.psg_class.specs.Forms.{form_cell}
use Rattle.psg_class.proofs.forms.form_cells.Given as goal

abbrev pub invariant-loop-shape : goal.invariant-loop-shape
invariant-loop-shape l = l.cells.items ≡ map form_cell (take l.shape-index l.shapes)
