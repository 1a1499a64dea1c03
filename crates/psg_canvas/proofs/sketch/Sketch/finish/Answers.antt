use Rattle.std.proofs.Common.{◌≡◌, ap, sym, subst, ◌∙◌, arith}
use Rattle.psg_canvas.specs.Cells.{IsPicture}
use Rattle.psg_canvas.specs.Sketching.{Sketched, finished}
use Rattle.psg_canvas.proofs.SketchLaws.{finish_slots, finished_is, same_picture}
use Rattle.psg_canvas.proofs.sketch.Sketch.finish.Goals as goal

pub overflow_sub-left : goal.overflow_sub-left
overflow_sub-left c = omega (arith, c.self.invariant.1, c.self.invariant.2.narrow)

pub invariant_of-result : goal.invariant_of-result
invariant_of-result c =
    let s : Sketched = record {
      rows = c.self.inside.rows;
      cols = c.self.inside.cols;
      above = c.self.inside.above.items;
      row = c.self.inside.row.items;
    } in
    let slots : c.in_ok-slots.slots.items ≡ (finished s c.args.cursor).slots =
    finish_slots s c.args.cursor c.self.inside.total c.self.inside.column c.plain.result c.in_ok-ended.ended.items c.in_ok-slots.slots.items
    c.self.invariant.0 c.self.invariant.1 c.plain.ensures c.in_ok-ended.ensures c.in_ok-slots.ensures in
    let same = same_picture (finished s c.args.cursor) c.in_ok-slots.slots.items c.place_of-cursor.result slots c.place_of-cursor.ensures in
    subst IsPicture (sym same) (finished_is s c.args.cursor c.self.invariant.2)

pub returns : goal.returns
returns c =
    let s : Sketched = record {
      rows = c.self.inside.rows;
      cols = c.self.inside.cols;
      above = c.self.inside.above.items;
      row = c.self.inside.row.items;
    } in
    let slots : c.in_ok-slots.slots.items ≡ (finished s c.args.cursor).slots =
    finish_slots s c.args.cursor c.self.inside.total c.self.inside.column c.plain.result c.in_ok-ended.ended.items c.in_ok-slots.slots.items
    c.self.invariant.0 c.self.invariant.1 c.plain.ensures c.in_ok-ended.ensures c.in_ok-slots.ensures in
    let same = same_picture (finished s c.args.cursor) c.in_ok-slots.slots.items c.place_of-cursor.result slots c.place_of-cursor.ensures in
    same ∙ ap (λ t. finished t c.args.cursor) c.self.view_is
