use Rattle.std.proofs.Common.{◌≡◌, ◌++◌}
use Rattle.psg_canvas.specs.Cells.{columns}
use Rattle.psg_canvas.proofs.sketch.with_columns.Given as goal

abbrev pub invariant-loop-cell : goal.invariant-loop-cell
invariant-loop-cell l = l.more.items ≡ l.initial.more.items ++ columns l.yielded
