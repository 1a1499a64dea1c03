use Rattle.std.proofs.Common.{ap, sym, ◌∙◌, length}
use Rattle.psg_canvas.specs.Cells.{columns}
use Rattle.psg_canvas.proofs.SketchLaws.{mark_columns}
use Rattle.psg_canvas.proofs.sketch.write_char.Goals as goal

pub returns-then-is_mark-clause-column : goal.returns-then-is_mark-clause-column
returns-then-is_mark-clause-column c =
    c.requires.column
    ∙ sym (ap (λ r. length (columns r)) c.in_ok-join.ensures.joined
    ∙ mark_columns c.args.cols c.args.row.now.items c.args.c (sym c.is_left_out.ensures ∙ c.if-is_left_out.false)
    (sym c.is_mark.ensures ∙ c.if-is_mark.true) c.requires.fit)
