use Rattle.std.proofs.Common.{◌∙◌, ap, replicate}
use Rattle.std.proofs.lemmas.List.{replicate_more}
use Rattle.psg_canvas.specs.Sketching.{with_row_end}
use Rattle.psg_picture.specs.Rows.{empty_row, with_rows}
use Rattle.psg_picture.proofs.SketchSteps.{rows-push}
use Rattle.psg_picture.proofs.row.write_empty.Goals as goal

pub loop-preserved : goal.loop-preserved
loop-preserved c =
    rows-push (replicate c.loop.counter empty_row) empty_row c.args.sketch.now c.loop.sketch c.end_row.new.self c.loop.invariant
    (c.in_ok-end_row.ensures ∙ ap (λ style. with_row_end style c.loop.sketch) c.plain.ensures)
    ∙ ap (λ rows. with_rows rows c.args.sketch.now) (replicate_more c.loop.counter empty_row)
