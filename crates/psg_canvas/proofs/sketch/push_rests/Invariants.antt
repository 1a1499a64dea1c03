use Rattle.std.proofs.Common.{◌≡◌, ◌++◌, replicate}
use Rattle.psg_canvas.specs.Cells.{rest}
use Rattle.psg_canvas.proofs.sketch.push_rests.Given as goal

abbrev pub invariant-loop : goal.invariant-loop
invariant-loop l = l.slots.items ≡ l.initial.slots.items ++ replicate l.counter rest
