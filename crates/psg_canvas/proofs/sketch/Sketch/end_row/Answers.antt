use Rattle.std.proofs.Common.{◌-◌, ap, ◌∙◌, arith}
use Rattle.psg_canvas.specs.Sketching.{Sketched, with_row, with_row_end}
use Rattle.psg_canvas.proofs.SketchLaws.{blank_is, ended_is}
use Rattle.psg_canvas.proofs.sketch.Sketch.end_row.Goals as goal

pub overflow_sub-left : goal.overflow_sub-left
overflow_sub-left c = omega (arith, c.self.invariant.1, c.self.invariant.2.narrow)

pub invariant_of-self : goal.invariant_of-self
invariant_of-self c =
    let blank = blank_is c.self.inside.rows c.self.inside.cols c.replace-above.new.dest.items c.replace-row.new.dest.items
    (ap (λ v. v.items) c.replace-above.ensures.after ∙ c.new.ensures.items) (ap (λ v. v.items) c.replace-row.ensures.after ∙ c.new-2.ensures.items) in
    (c.self.invariant.0, blank.0, blank.1)

pub invariant_of-self-2 : goal.invariant_of-self-2
invariant_of-self-2 c =
    let s : Sketched = record {
      rows = c.self.inside.rows;
      cols = c.self.inside.cols;
      above = c.self.inside.above.items;
      row = c.self.inside.row.items;
    } in
    let left = c.self.inside.cols - c.self.inside.column in
    let ended = ended_is s c.self.inside.total c.self.inside.column c.args.style c.in_ok-self-inside.field-0.items c.replace-row.new.dest.items
    c.self.invariant.0 c.self.invariant.1
    (c.in_ok-self-inside.ensures
    ∙ ap (λ a. with_row c.self.inside.total left c.args.style a.items c.replace-row.result.items) c.replace-above.ensures.value
    ∙ ap (λ r. with_row c.self.inside.total left c.args.style c.self.inside.above.items r.items) c.replace-row.ensures.value)
    (ap (λ v. v.items) c.replace-row.ensures.after ∙ c.new-2.ensures.items) c.self.invariant.2 in
    (c.self.invariant.0, ended.0, ended.1)

pub returns : goal.returns
returns c =
    let s : Sketched = record {
      rows = c.self.inside.rows;
      cols = c.self.inside.cols;
      above = c.self.inside.above.items;
      row = c.self.inside.row.items;
    } in
    let left = c.self.inside.cols - c.self.inside.column in
    let ended = ended_is s c.self.inside.total c.self.inside.column c.args.style c.in_ok-self-inside.field-0.items c.replace-row.new.dest.items
    c.self.invariant.0 c.self.invariant.1
    (c.in_ok-self-inside.ensures
    ∙ ap (λ a. with_row c.self.inside.total left c.args.style a.items c.replace-row.result.items) c.replace-above.ensures.value
    ∙ ap (λ r. with_row c.self.inside.total left c.args.style c.self.inside.above.items r.items) c.replace-row.ensures.value)
    (ap (λ v. v.items) c.replace-row.ensures.after ∙ c.new-2.ensures.items) c.self.invariant.2 in
    ended.2 ∙ ap (with_row_end c.args.style) c.self.view_is
