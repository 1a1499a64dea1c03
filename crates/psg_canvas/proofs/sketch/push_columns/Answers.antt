use Rattle.std.proofs.Common.{◌≡◌, ap, ◌∙◌, ◌-◌, ◌++◌, replicate, arith}
use Rattle.psg_canvas.specs.Cells.{rest, width_of_text}
use Rattle.psg_canvas.proofs.SketchLaws.{cell_more}
use Rattle.psg_canvas.proofs.sketch.push_columns.Goals as goal

pub returns : goal.returns
returns c =
    let more : c.saturating_sub-more.result ≡ width_of_text c.args.cell.text - 1 =
    omega (arith, c.saturating_sub-more.ensures, c.width.ensures) in
    cell_more c.args.slots.now.items c.push.new.self.items c.push_rests.new.slots.items c.args.cell c.in_ok-push.ensures.items
    (c.in_ok-push_rests.ensures ∙ ap (λ n. c.push.new.self.items ++ replicate n rest) more)
