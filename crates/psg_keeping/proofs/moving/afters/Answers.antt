use Rattle.std.proofs.Common.{◌≡◌, ◌+◌, ◌≤◌, length, take, rules, ap, arith}
use Rattle.std.proofs.lemmas.List.{length-take-le}
use Rattle.psg_keeping.proofs.LineLaws.{walk_step}
use Rattle.psg_keeping.proofs.MoveLaws.{new_small, news_within}
use Rattle.psg_keeping.proofs.moving.afters.Goals as goal

pub overflow_add-seen : goal.overflow_add-seen
overflow_add-seen c =
    let i = c.loop-place.place in
    let here : length (take i c.args.steps.now) ≡ i = length-take-le i c.args.steps.now (omega (arith, c.loop-place-test.true)) in
    let small : c.loop-place.seen + c.new_in-seen.result ≤ length c.args.steps.now =
    omega (
      arith,
      c.loop-place.invariant.seen_is,
      news_within (take i c.args.steps.now),
      here,
      c.loop-place-test.true,
      c.new_in-seen.ensures,
      new_small c.step_at-step.result,
    ) in
    search (rules, small)

pub loop-place-preserved : goal.loop-place-preserved
loop-place-preserved c =
    walk_step c.args.steps.now c.loop-place.place c.loop-place.places.items c.push_place.new.places.items c.step_at-step.result
    c.loop-place.seen (c.loop-place.seen + c.new_in-seen.result) c.loop-place.last c.last_after-last.result c.loop-place.invariant
    c.step_at-step.ensures (ap (λ k. c.loop-place.seen + k) c.new_in-seen.ensures) c.last_after-last.ensures
    c.in_ok-push_place.ensures
