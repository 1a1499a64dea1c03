use Rattle.std.proofs.Common.{◌≡◌, ap, sym, ◌∙◌, length, List, arith}
use Rattle.psg_canvas.specs.Cells.{Slot, columns}
use Rattle.psg_canvas.specs.Sketching.{Sketched, with_char}
use Rattle.psg_canvas.proofs.SketchLaws.{char_is, same_row}
use Rattle.psg_canvas.proofs.sketch.Sketch.write.Goals as goal

pub write_char-requires : goal.write_char-requires
write_char-requires c = record {
  column = c.self.invariant.1;
  narrow = omega (arith, c.self.invariant.1, c.self.invariant.2.narrow);
  fit = c.self.invariant.2.fit;
}

pub invariant_of-self : goal.invariant_of-self
invariant_of-self c =
    let s : Sketched = record {
      rows = c.self.inside.rows;
      cols = c.self.inside.cols;
      above = c.self.inside.above.items;
      row = c.self.inside.row.items;
    } in
    let row : List Slot = c.write_char.new.row.items in
    let same : row ≡ s.row = c.in_err-column.ensures.memory in
    (c.self.invariant.0, c.self.invariant.1 ∙ ap (λ r. length (columns r)) (sym same), same_row s row same c.self.invariant.2)

pub invariant_of-self-2 : goal.invariant_of-self-2
invariant_of-self-2 c =
    let s : Sketched = record {
      rows = c.self.inside.rows;
      cols = c.self.inside.cols;
      above = c.self.inside.above.items;
      row = c.self.inside.row.items;
    } in
    (c.self.invariant.0, c.in_ok-column.ensures.column, char_is s c.args.c c.args.style c.write_char.new.row.items c.self.invariant.2 c.in_ok-column.ensures.row)

pub returns-clause-written : goal.returns-clause-written
returns-clause-written c =
    let s : Sketched = record {
      rows = c.self.inside.rows;
      cols = c.self.inside.cols;
      above = c.self.inside.above.items;
      row = c.self.inside.row.items;
    } in
    let is : s ≡ c.args.self.now = c.self.view_is in
    ap (λ row. let next : Sketched = record s { row = row } in next) c.in_ok-column.ensures.row ∙ ap (with_char c.args.c c.args.style) is
