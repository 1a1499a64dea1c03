use Rattle.std.proofs.Common.{rules, ◌≡◌, List, [], length, sym, ap, subst}
use Rattle.std.specs.Prelude.{reverse}
use Rattle.psg_eval.specs.declared.frame.Frame.{Frame}
use Rattle.psg_cache.specs.Annotated.{note_at}
use Rattle.psg_cache.proofs.NoteFraming.{AreGathered, fixed, found_next, gathered_all, gathered_next, gathered_none, none_at, none_there, when_none, when_some}
use Rattle.psg_cache.proofs.note.Note.frames.Goals as goal

pub loop-step-init : goal.loop-step-init
loop-step-init c =
    let self = c.args.self.now in
    record {
      found = ap (note_at self) (sym c.steps-step-items.ensures);
      gathered = subst (λ (made : List Frame). AreGathered self self [] c.steps-step-items.result.now (reverse made)) (sym c.new-made.ensures.items)
          (gathered_none self c.steps-step-items.result.now);
    }

pub returns-in_default : goal.returns-in_default
returns-in_default c =
    let items = c.steps-step-items.result.now in
    none_there c.args.self.now c.loop-step.node.now c.args.path.now items c.loop-step.step-index _ c.loop-step-test.true
    (fixed items c.loop-step.step-index _ c.loop-step-test.true) c.loop-step.invariant.found (sym c.in_default.ensures)

pub returns-in_default-framed : goal.returns-in_default-framed
returns-in_default-framed c =
    let items = c.steps-step-items.result.now in
    none_at c.args.self.now c.loop-step.node.now c.in-Some.next.now c.args.path.now items c.loop-step.step-index _ (reverse c.loop-step.made.items) c.loop-step-test.true
    (fixed items c.loop-step.step-index _ c.loop-step-test.true) c.loop-step.invariant.gathered (sym c.in-Some.ensures)
    (when_none c.loop-step.node.now _ c.in_ok-framed.framed c.in_default-framed.is c.in_ok-framed.ensures)

pub loop-step-preserved : goal.loop-step-preserved
loop-step-preserved c =
    let items = c.steps-step-items.result.now in
    let lt = c.loop-step-test.true in
    record {
      found = found_next c.args.self.now c.loop-step.node.now c.in-Some.next.now c.args.path.now items c.loop-step.step-index _ lt
          (fixed items c.loop-step.step-index _ lt) c.loop-step.invariant.found (sym c.in-Some.ensures);
      gathered = gathered_next c.args.self.now c.loop-step.node.now c.in-Some.next.now items c.loop-step.step-index _ c.in-Some-framed.frame c.loop-step.made.items c.push.new.self.items lt
          (fixed items c.loop-step.step-index _ lt) c.loop-step.invariant.gathered (sym c.in-Some.ensures)
          (when_some c.loop-step.node.now _ c.in_ok-framed.framed c.in-Some-framed.frame c.in-Some-framed.is c.in_ok-framed.ensures) c.in_ok-push.ensures.items;
    }

pub returns : goal.returns
returns c =
    let items = c.steps-step-items.result.now in
    let end : c.loop-step.step-index ≡ length items = search rules in
    gathered_all c.args.self.now c.loop-step.node.now c.args.path.now items c.loop-step.step-index c.loop-step.made.items c.reverse.new.self.items end c.steps-step-items.ensures
    c.loop-step.invariant.gathered c.reverse.ensures.items
