use Rattle.std.proofs.Common.{ap, ◌∙◌, ◌++◌, ◌∷◌, []}
use Rattle.psg_canvas.specs.Cells.{cell_of}
use Rattle.psg_canvas.proofs.SketchLaws.{one_more}
use Rattle.psg_canvas.proofs.sketch.with_spaces.Goals as goal

pub loop-preserved : goal.loop-preserved
loop-preserved c =
    one_more c.args.above.items c.loop.more.items c.push.new.self.items c.loop.counter (cell_of 32 c.args.style) c.loop.invariant
    (c.in_ok-push.ensures.items ∙ ap (λ x. c.loop.more.items ++ x ∷ []) c.in_ok-cell.ensures)
