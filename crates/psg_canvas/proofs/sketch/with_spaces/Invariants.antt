use Rattle.std.proofs.Common.{◌≡◌, ◌++◌, replicate}
use Rattle.psg_canvas.specs.Cells.{cell_of}
use Rattle.psg_canvas.proofs.sketch.with_spaces.Given as goal

abbrev pub invariant-loop : goal.invariant-loop
invariant-loop l = l.more.items ≡ l.initial.more.items ++ replicate l.counter (cell_of 32 l.style)
