use Rattle.std.proofs.Common.{rules, ◌≡◌, ◌+◌, ◌∙◌, ap, length, refl, sym, subst, arith}
use Rattle.std.specs.Prelude.{Err}
use Rattle.psg_eval.specs.declared.summary.SummaryParts.{SummaryParts}
use Rattle.psg_eval.specs.Climbing.{IsClimbed}
use Rattle.psg_eval.specs.Frames.{CanClimb}
use Rattle.psg_eval.specs.Summaries.{IsSummary}
use Rattle.psg_eval.proofs.FrameLaws.{can_next, climb_all, climb_fault, climb_first, climb_next, Climbs, not_empty, rungs_next, rungs_none}
use Rattle.psg_eval.proofs.climbing.climb_from.Goals as goal

pub loop-frame-init : goal.loop-frame-init
loop-frame-init g c =
    let def = c.args.definition.now in
    let around = c.args.frames.now in
    let e = c.in_ok-whole.ensures in
    record {
      climbs = subst (λ (w : SummaryParts). Climbs def around c.args.own.now w around) (sym e) (climb_first def around c.args.own.now);
      usual = subst (IsSummary def) (sym e) c.requires.own;
      can = subst (λ (w : SummaryParts). CanClimb def around w.kind) (sym e) c.requires.frames;
      seen = ap (λ (w : SummaryParts). w.seen) e;
      nothing = λ n. (n, e);
      counted = refl;
    }

pub raised-requires-clause-takes : goal.raised-requires-clause-takes
raised-requires-clause-takes g c =
    let inv = c.loop-frame.invariant in
    let h = can_next c.args.definition.now c.in-Some.frame.now c.loop-frame.left.now c.in-Some.more.now c.loop-frame.whole c.in-Some.ensures.cases.0 inv.usual inv.can in (h.0, h.1)

pub returns-in_err-next-clause-answer : goal.returns-in_err-next-clause-answer
returns-in_err-next-clause-answer g c = λ f t path stand of.
    let def = c.args.definition.now in
    let fault = c.in_err-next.field-0.0 in
    let d : c.from_residual-in_err-next.result ≡ Err fault = search rules in
    subst (IsClimbed def path f) (sym d)
    (climb_fault def c.args.frames.now c.args.own.now c.loop-frame.whole fault c.in-Some.frame.now c.loop-frame.left.now c.in-Some.more.now c.in-Some.ensures.cases.0
    c.loop-frame.invariant.climbs c.in_err-next.ensures.answer f t path stand of)

pub loop-frame-preserved : goal.loop-frame-preserved
loop-frame-preserved g c =
    let def = c.args.definition.now in
    let inv = c.loop-frame.invariant in
    let split = c.in-Some.ensures.cases.0 in
    let h = can_next def c.in-Some.frame.now c.loop-frame.left.now c.in-Some.more.now c.loop-frame.whole split inv.usual inv.can in
    let kind : c.in_ok-next.next.kind ≡ h.0 = c.in_ok-next.ensures.kind h.0 h.1 in
    let sum = rungs_next c.in-Some.frame.now c.loop-frame.left.now c.in-Some.more.now split in
    record {
      climbs =
          climb_next def c.args.frames.now c.args.own.now c.loop-frame.whole c.in_ok-next.next c.in-Some.frame.now c.loop-frame.left.now c.in-Some.more.now split inv.climbs
          c.in_ok-next.ensures.answer;
      usual = c.in_ok-next.ensures.summary;
      can = subst (CanClimb def c.in-Some.more.now) (sym kind) h.2;
      seen = c.in_ok-next.ensures.seen ∙ inv.seen;
      nothing = λ n. absurd (not_empty c.in-Some.frame.now c.loop-frame.left.now c.in-Some.more.now split (inv.nothing n).0);
      counted = omega (arith, sum, c.in_ok-next.ensures.ticks, inv.counted);
    }

pub returns-in_err-next-clause-most : goal.returns-in_err-next-clause-most
returns-in_err-next-clause-most g c =
    let sum = rungs_next c.in-Some.frame.now c.loop-frame.left.now c.in-Some.more.now c.in-Some.ensures.cases.0 in
    omega (arith, sum, c.raised.ensures.most, c.loop-frame.invariant.counted)

pub returns-clause-answer : goal.returns-clause-answer
returns-clause-answer g c =
    let none : length c.loop-frame.left.now ≡ 0 = search rules in
    climb_all c.args.definition.now c.args.frames.now c.args.own.now c.loop-frame.whole c.loop-frame.left.now none c.loop-frame.invariant.climbs

pub returns-clause-nothing : goal.returns-clause-nothing
returns-clause-nothing g c = λ n. (c.loop-frame.invariant.nothing n).1

pub returns-clause-ticks : goal.returns-clause-ticks
returns-clause-ticks g c =
    let none : length c.loop-frame.left.now ≡ 0 = search rules in
    let sum = rungs_none c.loop-frame.left.now none in
    omega (arith, sum, c.loop-frame.invariant.counted)

pub returns-clause-most : goal.returns-clause-most
returns-clause-most g c = omega (arith, c.loop-frame.invariant.counted)
