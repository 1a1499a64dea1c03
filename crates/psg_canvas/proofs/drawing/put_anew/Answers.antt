use Rattle.std.proofs.Common.{subst, ◌∙◌, string_bytes}
use Rattle.psg_canvas.specs.Cells.{plain}
use Rattle.psg_canvas.specs.Drawing.{Restyles}
use Rattle.psg_canvas.proofs.WalkLaws.{anew_turns, erased_turns, filled_same, same_rows}
use Rattle.psg_canvas.proofs.drawing.put_anew.Goals as goal

pub put_filled-requires : goal.put_filled-requires
put_filled-requires c = record {
  whole = same_rows c.args.new.now.cols c.erase.new.self.cols c.args.new.now.slots c.slots.result.now
      (c.in_ok-erase.ensures.cols ∙ c.requires.cols) c.slots.ensures.slots c.slots.ensures.picture.whole;
}

pub returns-clause-turns : goal.returns-clause-turns
returns-clause-turns c old other =
    let e = c.in_ok-erase.ensures.bytes in
    anew_turns old c.args.new.now (string_bytes c.args.pen.now.out) (string_bytes c.put_filled.new.pen.out) c.put_filled.new.pen.at
    c.put_filled.new.pen.style c.args.pen.now.cols c.requires.cols c.slots.ensures.picture other
    (erased_turns c.args.pen.now.cols c.args.new.now.slots e.0 (string_bytes c.args.pen.now.out) (string_bytes c.erase.new.self.out)
    (string_bytes c.put_filled.new.pen.out) c.erase.new.self.at c.erase.new.self.style c.put_filled.new.pen.at c.put_filled.new.pen.style
    (subst (λ s. Restyles s plain e.0) c.requires.style e.1) e.2 (c.in_ok-erase.ensures.at ∙ c.requires.place) c.in_ok-erase.ensures.style
    (filled_same c.args.pen.now.cols c.erase.new.self.cols c.args.new.now.slots c.slots.result.now (string_bytes c.erase.new.self.out)
    (string_bytes c.put_filled.new.pen.out) c.erase.new.self.at c.erase.new.self.style c.put_filled.new.pen.at c.put_filled.new.pen.style
    c.in_ok-erase.ensures.cols c.slots.ensures.slots c.in_ok-put_filled.ensures.turns))
