use Rattle.std.proofs.Common.{rules, ◌≡◌, ◌+◌, length, sym, subst, arith}
use Rattle.std.proofs.Math.Nat.{mul-add}
use Rattle.std.specs.Prelude.{Err}
use Rattle.psg_eval.specs.Frames.{rungs, rungs_in}
use Rattle.psg_eval.proofs.FrameLaws.{rungs_next}
use Rattle.psg_menu.specs.Sharing.{IsLevelAnswer, rises_of}
use Rattle.psg_menu.proofs.Climbing.{all_climbed, climbing_frame, first_climbing, frame_fault, frame_next, times_same}
use Rattle.psg_menu.proofs.sharing.climbed_together.Goals as goal

pub loop-frame-init : goal.loop-frame-init
loop-frame-init g c =
    record {
      level = λ o below kind apart can usual reach within.
          first_climbing c.args.definition.now c.args.frames.now o below c.args.star.now c.args.candidates.now kind c.args.own c.in_ok-first.first can usual reach within
          c.in_ok-first.ensures.entries c.in_ok-first.ensures.places;
      counted = omega arith;
    }

pub over_frame-requires-clause-level : goal.over_frame-requires-clause-level
over_frame-requires-clause-level g c =
    let def = c.args.definition.now in
    let (o, below, kind, apart, can, usual, reach, within) = c.requires.own in
    let h = c.loop-frame.invariant.level o below kind apart can usual reach within in
    let up = climbing_frame def c.args.frames.now o below c.args.star.now c.args.candidates.now c.in-Some.frame.now c.in-Some.more.now c.loop-frame.left.now c.loop-frame.whole c.in-Some.ensures.cases.0 h in
    (o, below, h.done, h.at, up.0, apart, up.1, h.is)

pub returns-in_err-next-clause-level : goal.returns-in_err-next-clause-level
returns-in_err-next-clause-level g c = λ o below kind apart can usual reach within.
    let def = c.args.definition.now in
    let star = c.args.star.now in
    let candidates = c.args.candidates.now in
    let frame = c.in-Some.frame.now in
    let more = c.in-Some.more.now in
    let left = c.loop-frame.left.now in
    let split = c.in-Some.ensures.cases.0 in
    let h = c.loop-frame.invariant.level o below kind apart can usual reach within in
    let up = climbing_frame def c.args.frames.now o below star candidates frame more left c.loop-frame.whole split h in
    let fault = c.in_err-next.field-0.0 in
    let d : c.from_residual-in_err-next.result ≡ Err fault = search rules in (
      up.0,
      subst (IsLevelAnswer def o below star candidates (rises_of c.args.frames.now) up.0) (sym d)
          (frame_fault def c.args.frames.now o below star candidates frame more left h.done up.0 up.0 fault split h.split
          (c.in_err-next.ensures.level o below h.done h.at up.0 apart up.1 h.is)),
    )

pub loop-frame-preserved : goal.loop-frame-preserved
loop-frame-preserved g c =
    let def = c.args.definition.now in
    let star = c.args.star.now in
    let candidates = c.args.candidates.now in
    let frame = c.in-Some.frame.now in
    let more = c.in-Some.more.now in
    let left = c.loop-frame.left.now in
    let split = c.in-Some.ensures.cases.0 in
    let sum = times_same (length candidates) (rungs left) (rungs_in frame + rungs more) (rungs_next frame left more split) in
    let parts = mul-add (length candidates) (rungs_in frame) (rungs more) in
    record {
      level = λ o below kind apart can usual reach within.
          let h = c.loop-frame.invariant.level o below kind apart can usual reach within in
          let up = climbing_frame def c.args.frames.now o below star candidates frame more left c.loop-frame.whole split h in
          frame_next def c.args.frames.now o below star candidates frame more left c.loop-frame.whole c.in_ok-next.next split h
          (c.in_ok-next.ensures.level o below h.done h.at up.0 apart up.1 h.is);
      counted = omega (arith, sum, parts, c.over_frame.ensures.ticks, c.loop-frame.invariant.counted);
    }

pub returns-in_err-next-clause-ticks : goal.returns-in_err-next-clause-ticks
returns-in_err-next-clause-ticks g c =
    let frame = c.in-Some.frame.now in
    let more = c.in-Some.more.now in
    let left = c.loop-frame.left.now in
    let many = length c.args.candidates.now in
    let sum = times_same many (rungs left) (rungs_in frame + rungs more) (rungs_next frame left more c.in-Some.ensures.cases.0) in
    let parts = mul-add many (rungs_in frame) (rungs more) in
    omega (arith, sum, parts, c.over_frame.ensures.ticks, c.loop-frame.invariant.counted)

pub returns-clause-level : goal.returns-clause-level
returns-clause-level g c = λ o below kind apart can usual reach within.
    let none : length c.loop-frame.left.now ≡ 0 = search rules in
    all_climbed c.args.definition.now c.args.frames.now o below c.args.star.now c.args.candidates.now c.loop-frame.left.now c.loop-frame.whole none
    (c.loop-frame.invariant.level o below kind apart can usual reach within)

pub returns-clause-ticks : goal.returns-clause-ticks
returns-clause-ticks g c = omega (arith, c.loop-frame.invariant.counted)
