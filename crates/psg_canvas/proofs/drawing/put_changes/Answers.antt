use Rattle.std.proofs.Common.{◌≡◌, ◌+◌, ◌≤◌, ◌<◌, length, refl, ap, ◌∙◌, Some, arith, rules, string_bytes}
use Rattle.std.specs.Prelude.{slice_get}
use Rattle.std.proofs.lemmas.Option.{slice_get_read}
use Rattle.psg_canvas.specs.Cells.{Slot, width_of_text}
use Rattle.psg_canvas.proofs.WalkLaws.{walk_start, walk_step, walk_end, width_within, width_above, cols_above, old_rows}
use Rattle.psg_canvas.proofs.drawing.put_changes.Goals as goal

pub cells-init : goal.cells-init
cells-init c = record {
  walk = walk_start c.args.pen.now.cols c.args.old.now c.args.new.now c.args.pen.now.at c.args.pen.now.style (string_bytes c.args.pen.now.out)
      (old_rows c.args.pen.now.cols c.args.old.now c.requires.whole) c.requires.new_whole;
  cols = refl;
}

read : (c : goal.After-width-place) → slice_get c.args.new.now c.cells.place ≡ Some c.index-new-place.result
read c =
    slice_get_read c.args.new.now (length c.args.new.now) c.cells.place c.index-new-place.result refl c.cells-test.true c.index-new-place.is

within : (c : goal.After-width-place) → c.cells.place + c.width-place.result ≤ length c.args.new.now
within c =
    width_within c.args.pen.now.cols c.args.old.now c.args.new.now c.args.pen.now.at c.args.pen.now.style (string_bytes c.args.pen.now.out)
    c.cells.place c.cells.pen.at c.cells.pen.style (string_bytes c.cells.pen.out) c.cells.invariant.walk c.index-new-place.result
    c.width-place.result c.cells-test.true (read c) c.width-place.ensures c.requires.size

seen : (c : goal.After-put_unless-arg-1) → slice_get c.args.new.now c.cells.place ≡ Some c.index-new-place.result
seen c =
    slice_get_read c.args.new.now (length c.args.new.now) c.cells.place c.index-new-place.result refl c.cells-test.true c.index-new-place.is

pub put_unless-requires : goal.put_unless-requires
put_unless-requires c =
    let cell : Slot = c.index-new-place.result in
    let le : c.cells.place + width_of_text cell.text ≤ length c.args.new.now =
    width_within c.args.pen.now.cols c.args.old.now c.args.new.now c.args.pen.now.at c.args.pen.now.style (string_bytes c.args.pen.now.out)
    c.cells.place c.cells.pen.at c.cells.pen.style (string_bytes c.cells.pen.out) c.cells.invariant.walk c.index-new-place.result
    (width_of_text c.index-new-place.result.text) c.cells-test.true (seen c) refl c.requires.size in
    let some : 0 < c.args.pen.now.cols =
    cols_above c.args.pen.now.cols c.args.old.now c.args.new.now c.args.pen.now.at c.args.pen.now.style (string_bytes c.args.pen.now.out)
    c.cells.place c.cells.pen.at c.cells.pen.style (string_bytes c.cells.pen.out) c.cells.invariant.walk c.index-new-place.result
    (width_of_text c.index-new-place.result.text) c.cells-test.true (seen c) refl c.requires.size in
    record {
      cols = omega (arith, some, c.cells.invariant.cols);
      place = let h : c.cells.place + 1 ≤ length c.args.new.now = omega (arith, c.cells-test.true) in search (rules, h);
      next = search (rules, le);
    }

pub overflow_add-place : goal.overflow_add-place
overflow_add-place c = let h : c.cells.place + c.width-place.result ≤ length c.args.new.now = within c in search (rules, h)

pub cells-smaller : goal.cells-smaller
cells-smaller c =
    let h : c.cells.place + c.width-place.result ≤ length c.args.new.now = within c in
    let w : 0 < c.width-place.result =
    width_above c.args.pen.now.cols c.args.old.now c.args.new.now c.args.pen.now.at c.args.pen.now.style (string_bytes c.args.pen.now.out)
    c.cells.place c.cells.pen.at c.cells.pen.style (string_bytes c.cells.pen.out) c.cells.invariant.walk c.index-new-place.result
    c.width-place.result c.cells-test.true (read c) c.width-place.ensures c.requires.size in
    omega (arith, h, w)

pub cells-preserved : goal.cells-preserved
cells-preserved c =
    let old_read : slice_get c.args.old.now c.cells.place ≡ Some c.index-old-place.result =
    slice_get_read c.args.old.now (length c.args.old.now) c.cells.place c.index-old-place.result refl (omega (arith, c.cells-test.true, c.requires.size))
    c.index-old-place.is in
    record {
      walk = walk_step c.args.pen.now.cols c.args.old.now c.args.new.now c.args.pen.now.at c.args.pen.now.style (string_bytes c.args.pen.now.out)
          c.cells.place c.cells.pen.at c.cells.pen.style (string_bytes c.cells.pen.out) c.cells.invariant.walk c.index-new-place.result
          c.width-place.result c.cells-test.true (read c) c.width-place.ensures c.requires.size c.cells.pen.cols c.cells.invariant.cols c.shows_same-known.result
          (string_bytes c.put_unless.new.self.out) c.put_unless.new.self.at c.put_unless.new.self.style
          (λ yes. old_read ∙ ap Some (c.shows_same-known.ensures.0 yes))
          (λ yes. let e = c.in_ok-put_unless.ensures.known yes in (ap (λ p. string_bytes p.out) e, ap (λ p. p.at) e, ap (λ p. p.style) e))
          c.in_ok-put_unless.ensures.bytes c.in_ok-put_unless.ensures.at c.in_ok-put_unless.ensures.style;
      cols = c.in_ok-put_unless.ensures.cols ∙ c.cells.invariant.cols;
    }

pub returns : goal.returns
returns c = record {
  turns = walk_end c.args.pen.now.cols c.args.old.now c.args.new.now c.args.pen.now.at c.args.pen.now.style (string_bytes c.args.pen.now.out)
      c.cells.place c.cells.pen.at c.cells.pen.style (string_bytes c.cells.pen.out) c.cells.invariant.walk c.cells-test.false c.requires.size;
  cols = c.cells.invariant.cols;
}
