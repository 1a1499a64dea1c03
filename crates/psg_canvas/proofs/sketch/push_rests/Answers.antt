use Rattle.std.proofs.Common.{ap, ◌∙◌, ◌++◌, ◌∷◌, []}
use Rattle.psg_canvas.specs.Cells.{rest}
use Rattle.psg_canvas.proofs.SketchLaws.{one_more}
use Rattle.psg_canvas.proofs.sketch.push_rests.Goals as goal

pub loop-preserved : goal.loop-preserved
loop-preserved c =
    one_more c.args.slots.now.items c.loop.slots.items c.push.new.self.items c.loop.counter rest c.loop.invariant
    (c.in_ok-push.ensures.items ∙ ap (λ x. c.loop.slots.items ++ x ∷ []) c.rest.ensures)
