use Rattle.std.proofs.Common.{◌≡◌, ◌++◌, ◌∙◌, map-id, rules, ap, sym}
use Rattle.std.proofs.lemmas.Iterator.Consumers.{YieldsList-end}
use Rattle.std.proofs.lemmas.Iterator.Adapters.{YieldsList-from_vec}
use Rattle.psg_canvas.specs.Cells.{columns}
use Rattle.psg_canvas.proofs.SketchLaws.{row_more}
use Rattle.psg_canvas.proofs.sketch.with_columns.Goals as goal

pub loop-cell-preserved : goal.loop-cell-preserved
loop-cell-preserved c =
    row_more c.args.above.items c.loop-cell.more.items c.push_columns.new.slots.items c.loop-cell.yielded c.in-Some.cell c.loop-cell.invariant
    c.in_ok-push_columns.ensures

pub returns : goal.returns
returns c =
    let end = YieldsList-end (YieldsList-from_vec {s = c.into_iter-cell-iterator.result} c.args.row.items (search rules) (search rules))
    c.loop-cell.yielded c.loop-cell.cell-iterator c.loop-cell.yielded_by c.next.result c.next.new.self c.in-None.is c.next.ensures.steps in
    let all : c.loop-cell.yielded ≡ c.args.row.items = sym (map-id c.loop-cell.yielded) ∙ end.0 in
    c.loop-cell.invariant ∙ ap (λ cells. c.args.above.items ++ columns cells) all
