use Rattle.std.proofs.Common.{◌^◌, ◌-◌, ◌<◌, length, refl, arith}
use Rattle.psg_explain.proofs.GivenLaws.{within_first, within_second}
use Rattle.psg_explain.proofs.SumLaws.{sum_end, sum_next, sum_start}
use Rattle.psg_explain.proofs.counting_pairs.pairs_in.Goals as goal

pub loop-i-init : goal.loop-i-init
loop-i-init c = (omega arith, λ def steps are. sum_start def steps c.args.rows.now (2 ^ 128 - 1))

pub loop-i-preserved : goal.loop-i-preserved
loop-i-preserved c =
    let i = c.loop-i.i in
    let lr : i < length c.args.rows.now = within_first i c.min-count.result _ _ c.min-count.ensures c.loop-i-test.true in
    let lt : i < length c.args.stages.now = within_second i c.min-count.result _ _ c.min-count.ensures c.loop-i-test.true in
    let e = c.saturating_add-pairs.ensures in (
      omega (arith, e),
      λ def steps are.
          sum_next def c.args.stages.now steps c.args.rows.now _ i c.loop-i.pairs c.saturating_add-pairs.result c.pairs_of_step-more.result _ (2 ^ 128 - 1) c.index-stages-i.result are lt lr c.index-stages-i.is refl
          (λ s is. c.pairs_of_step-more.ensures def s is) c.saturating_add-pairs.ensures (c.loop-i.invariant.1 def steps are),
    )

pub returns : goal.returns
returns c = λ def steps are.
    let e = c.min-count.ensures in
    let t = c.loop-i-test.false in
    let fits = c.loop-i.invariant.0 in
    sum_end def c.args.stages.now steps c.args.rows.now c.loop-i.i c.loop-i.pairs _ (2 ^ 128 - 1) are (omega (arith, e, t)) fits (c.loop-i.invariant.1 def steps are)
