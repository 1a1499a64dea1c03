use Rattle.std.proofs.Common.{ap, sym, ◌∙◌, length, Some, string_bytes}
use Rattle.std.proofs.lemmas.Bool.{true≢false}
use Rattle.psg_canvas.proofs.WalkLaws.{same_turns, same_rows, same_size, changed_same}
use Rattle.psg_canvas.proofs.drawing.put_over.Goals as goal

pub put_changes-requires : goal.put_changes-requires
put_changes-requires c =
    let same = c.is_same_size.ensures.0 c.if-is_same_size.true in
    record {
      whole = same_rows c.args.old.now.cols c.args.pen.now.cols c.args.old.now.slots c.slots.result.now
          (c.requires.cols ∙ sym same.1) c.slots.ensures.slots c.slots.ensures.picture.whole;
      new_whole = same_rows c.args.new.now.cols c.args.pen.now.cols c.args.new.now.slots c.slots-then-is_same_size.result.now
          c.requires.cols c.slots-then-is_same_size.ensures.slots c.slots-then-is_same_size.ensures.picture.whole;
      size = ap length c.slots.ensures.slots
          ∙ same_size c.args.old.now c.args.new.now c.slots.ensures.picture c.slots-then-is_same_size.ensures.picture same.0 same.1
          ∙ ap length (sym c.slots-then-is_same_size.ensures.slots);
    }

pub returns-then-is_same_size-clause-turns : goal.returns-then-is_same_size-clause-turns
returns-then-is_same_size-clause-turns c =
    let same = c.is_same_size.ensures.0 c.if-is_same_size.true in
    same_turns c.args.old.now c.args.new.now (string_bytes c.args.pen.now.out) (string_bytes c.put_changes.new.pen.out)
    c.put_changes.new.pen.at c.put_changes.new.pen.style c.args.pen.now.cols c.args.pen.now.at c.args.pen.now.style c.requires.cols
    c.requires.place c.requires.style same.0 same.1 c.slots.ensures.picture
    (changed_same c.args.pen.now.cols c.args.old.now.slots c.args.new.now.slots c.slots.result.now c.slots-then-is_same_size.result.now
    (string_bytes c.args.pen.now.out) (string_bytes c.put_changes.new.pen.out) c.args.pen.now.at c.args.pen.now.style
    c.put_changes.new.pen.at c.put_changes.new.pen.style c.slots.ensures.slots c.slots-then-is_same_size.ensures.slots c.in_ok-put_changes.ensures.turns)

pub returns-clause-turns : goal.returns-clause-turns
returns-clause-turns c =
    c.in_ok-put_anew.ensures.turns (Some c.args.old.now) (λ k. true≢false (sym (c.is_same_size.ensures.1 (k.0, k.1)) ∙ c.if-is_same_size.false))
