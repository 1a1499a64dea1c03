use Rattle.std.proofs.Common.{◌≡◌, ◌+◌, ◌≤◌, ◌<◌, length, replicate, refl, sym, ap, ◌∙◌, Some, arith, rules, string_bytes}
use Rattle.std.specs.Prelude.{slice_get}
use Rattle.std.proofs.lemmas.Option.{slice_get_read}
use Rattle.std.proofs.lemmas.List.{length-replicate}
use Rattle.psg_canvas.specs.Cells.{Slot, blank, width_of_text}
use Rattle.psg_canvas.proofs.WalkLaws.{walk_start, walk_step, walk_end, width_within, width_above, cols_above, old_blanks, blank_at}
use Rattle.psg_canvas.proofs.drawing.put_filled.Goals as goal

pub cells-init : goal.cells-init
cells-init c = record {
  walk = walk_start c.args.pen.now.cols (replicate (length c.args.new.now) blank) c.args.new.now c.args.pen.now.at c.args.pen.now.style (string_bytes c.args.pen.now.out)
      (old_blanks (length c.args.new.now)) c.requires.whole;
  cols = refl;
}

read : (c : goal.After-width-place) → slice_get c.args.new.now c.cells.place ≡ Some c.index-new-place.result
read c =
    slice_get_read c.args.new.now (length c.args.new.now) c.cells.place c.index-new-place.result refl c.cells-test.true c.index-new-place.is

within : (c : goal.After-width-place) → c.cells.place + c.width-place.result ≤ length c.args.new.now
within c =
    width_within c.args.pen.now.cols (replicate (length c.args.new.now) blank) c.args.new.now c.args.pen.now.at c.args.pen.now.style (string_bytes c.args.pen.now.out)
    c.cells.place c.cells.pen.at c.cells.pen.style (string_bytes c.cells.pen.out) c.cells.invariant.walk c.index-new-place.result
    c.width-place.result c.cells-test.true (read c) c.width-place.ensures (length-replicate (length c.args.new.now) blank)

seen : (c : goal.After-is_blank) → slice_get c.args.new.now c.cells.place ≡ Some c.index-new-place.result
seen c =
    slice_get_read c.args.new.now (length c.args.new.now) c.cells.place c.index-new-place.result refl c.cells-test.true c.index-new-place.is

pub put_unless-requires : goal.put_unless-requires
put_unless-requires c =
    let cell : Slot = c.index-new-place.result in
    let le : c.cells.place + width_of_text cell.text ≤ length c.args.new.now =
    width_within c.args.pen.now.cols (replicate (length c.args.new.now) blank) c.args.new.now c.args.pen.now.at c.args.pen.now.style (string_bytes c.args.pen.now.out)
    c.cells.place c.cells.pen.at c.cells.pen.style (string_bytes c.cells.pen.out) c.cells.invariant.walk c.index-new-place.result
    (width_of_text c.index-new-place.result.text) c.cells-test.true (seen c) refl (length-replicate (length c.args.new.now) blank) in
    let some : 0 < c.args.pen.now.cols =
    cols_above c.args.pen.now.cols (replicate (length c.args.new.now) blank) c.args.new.now c.args.pen.now.at c.args.pen.now.style (string_bytes c.args.pen.now.out)
    c.cells.place c.cells.pen.at c.cells.pen.style (string_bytes c.cells.pen.out) c.cells.invariant.walk c.index-new-place.result
    (width_of_text c.index-new-place.result.text) c.cells-test.true (seen c) refl (length-replicate (length c.args.new.now) blank) in
    record {
      cols = omega (arith, some, c.cells.invariant.cols);
      place = let h : c.cells.place + 1 ≤ length c.args.new.now = omega (arith, c.cells-test.true) in search (rules, h);
      next = search (rules, le);
    }

pub overflow_add-place : goal.overflow_add-place
overflow_add-place c = let h : c.cells.place + c.width-place.result ≤ length c.args.new.now = within c in search (rules, h)

pub cells-smaller : goal.cells-smaller
cells-smaller c =
    let h : c.cells.place + c.width-place.result ≤ length c.args.new.now = within c in
    let w : 0 < c.width-place.result =
    width_above c.args.pen.now.cols (replicate (length c.args.new.now) blank) c.args.new.now c.args.pen.now.at c.args.pen.now.style (string_bytes c.args.pen.now.out)
    c.cells.place c.cells.pen.at c.cells.pen.style (string_bytes c.cells.pen.out) c.cells.invariant.walk c.index-new-place.result
    c.width-place.result c.cells-test.true (read c) c.width-place.ensures (length-replicate (length c.args.new.now) blank) in
    omega (arith, h, w)

pub cells-preserved : goal.cells-preserved
cells-preserved c =
    let old_read : slice_get (replicate (length c.args.new.now) blank) c.cells.place ≡ Some blank =
    blank_at (length c.args.new.now) c.cells.place c.cells-test.true in
    record {
      walk = walk_step c.args.pen.now.cols (replicate (length c.args.new.now) blank) c.args.new.now c.args.pen.now.at c.args.pen.now.style (string_bytes c.args.pen.now.out)
          c.cells.place c.cells.pen.at c.cells.pen.style (string_bytes c.cells.pen.out) c.cells.invariant.walk c.index-new-place.result
          c.width-place.result c.cells-test.true (read c) c.width-place.ensures (length-replicate (length c.args.new.now) blank) c.cells.pen.cols c.cells.invariant.cols c.is_blank.result
          (string_bytes c.put_unless.new.self.out) c.put_unless.new.self.at c.put_unless.new.self.style
          (λ yes. old_read ∙ ap Some (sym (c.is_blank.ensures.0 yes)))
          (λ yes. let e = c.in_ok-put_unless.ensures.known yes in (ap (λ p. string_bytes p.out) e, ap (λ p. p.at) e, ap (λ p. p.style) e))
          c.in_ok-put_unless.ensures.bytes c.in_ok-put_unless.ensures.at c.in_ok-put_unless.ensures.style;
      cols = c.in_ok-put_unless.ensures.cols ∙ c.cells.invariant.cols;
    }

pub returns : goal.returns
returns c = record {
  turns = walk_end c.args.pen.now.cols (replicate (length c.args.new.now) blank) c.args.new.now c.args.pen.now.at c.args.pen.now.style (string_bytes c.args.pen.now.out)
      c.cells.place c.cells.pen.at c.cells.pen.style (string_bytes c.cells.pen.out) c.cells.invariant.walk c.cells-test.false (length-replicate (length c.args.new.now) blank);
  cols = c.cells.invariant.cols;
}
