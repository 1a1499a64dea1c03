use Rattle.std.proofs.Common.{max, ap, ◌∙◌, arith}
use Rattle.psg_explain.proofs.HighestLaws.{highest, highest_counts, highest_end, highest_next}
use Rattle.psg_explain.proofs.given.variable_count.Goals as goal

pub loop-term-preserved : goal.loop-term-preserved
loop-term-preserved c =
    let (one, now) = c.loop-term.invariant in
    let m = c.max-above.ensures in
    let a = c.above.ensures in
    (omega (arith, m, one), highest_next c.args.row.now c.loop-term.term-index c.term-item.result c.loop-term.above c.max-above.result (highest 1 c.args.row.now) c.loop-term-test.true c.term-item.is (m ∙ ap (λ n. max c.loop-term.above n) a) now)

pub returns : goal.returns
returns c =
    let (one, now) = c.loop-term.invariant in
    let e = highest_end c.args.row.now c.loop-term.term-index c.loop-term.above (highest 1 c.args.row.now) (omega arith) now in
    let k = highest_counts c.requires.0 c.args.row.now c.requires.1 in
    omega (arith, e, k)
