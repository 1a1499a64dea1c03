use Rattle.std.proofs.Common.{ap, sym, ◌∙◌}
use Rattle.psg_protocol.specs.Frames.{first_of_all}
use Rattle.psg_protocol.proofs.WalkLaws.{finds_end, finds_stop, found_none, found_some, items_kept, reading_falls, reading_next}
use Rattle.psg_protocol.proofs.reader.next_frames.Goals as goal

pub returns-then-stops : goal.returns-then-stops
returns-then-stops c =
    finds_stop c.args.passing c.args.text.now c.frames.frames.items c.at_end.result.frames.items c.in-Some.first.frame c.frames.pass
    c.in-Some.first.size c.frames.rest.now c.without_front-rest.result.now _ _ _ c.frames.invariant c.without_front-rest.ensures
    (ap first_of_all (c.without_front-rest.ensures ∙ sym c.without_front.ensures)
    ∙ found_some c.in_ok-first.field-0 c.in-Some.first _ _ c.in-Some.is c.in_ok-first.ensures)
    (sym c.is_lost-stops.ensures ∙ c.if-stops.true) (c.at_end.ensures.frames ∙ c.in_ok-push.ensures.items) c.at_end.ensures.passing
    c.at_end.ensures.kept c.at_end.ensures.stopped

pub frames-smaller : goal.frames-smaller
frames-smaller c =
    reading_falls c.frames.pass c.in-Some.first.size c.frames.rest.now c.without_front-rest.result.now c.in-Some.first.frame
    c.without_front-rest.ensures
    (ap first_of_all (c.without_front-rest.ensures ∙ sym c.without_front.ensures)
    ∙ found_some c.in_ok-first.field-0 c.in-Some.first _ _ c.in-Some.is c.in_ok-first.ensures)
    (sym c.is_lost-stops.ensures ∙ c.if-stops.false)

pub frames-preserved : goal.frames-preserved
frames-preserved c =
    reading_next c.args.passing c.args.text.now c.frames.frames.items c.push.new.self.items c.in-Some.first.frame c.frames.pass
    c.in-Some.first.size c.frames.rest.now c.without_front-rest.result.now c.frames.invariant c.without_front-rest.ensures
    (ap first_of_all (c.without_front-rest.ensures ∙ sym c.without_front.ensures)
    ∙ found_some c.in_ok-first.field-0 c.in-Some.first _ _ c.in-Some.is c.in_ok-first.ensures)
    (sym c.is_lost-stops.ensures ∙ c.if-stops.false) c.in_ok-push.ensures.items

pub returns : goal.returns
returns c =
    finds_end c.args.passing c.args.text.now c.frames.frames.items c.frames.pass c.frames.rest.now c.without_front-2.result.now
    c.saturating_sub.result _ c.frames.invariant c.without_front-2.ensures
    (ap first_of_all (c.without_front-2.ensures ∙ sym c.without_front.ensures)
    ∙ found_none c.in_ok-first.field-0 _ _ c.in_default.not-Some c.in_ok-first.ensures)
    c.saturating_sub.ensures (items_kept c.in_ok-kept.kept _ c.without_front-2.result.now c.in_ok-kept.ensures)
