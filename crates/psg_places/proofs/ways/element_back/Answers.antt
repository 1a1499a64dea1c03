use Rattle.std.proofs.Common.{arith}
use Rattle.psg_places.proofs.WayLaws.{tried_last, tried_most, tried_next}
use Rattle.psg_places.proofs.ways.element_back.Goals as goal

pub counts-smaller : goal.counts-smaller
counts-smaller c =
    let most = tried_most c.args.opened.now c.args.at.now c.args.step c.counts.back c.counts.next c.counts.invariant in
    omega (arith, most, c.counts-test.true)

pub counts-preserved : goal.counts-preserved
counts-preserved c =
    tried_next c.args.opened.now c.args.at.now c.args.step c.counts.back c.counts.next c.in_ok-more.more c.earlier-count.result
    c.in_ok-sum.sum c.counts.invariant c.counts-test.true c.in_ok-more.ensures.sum c.earlier-count.ensures
    c.in_ok-sum.ensures.sum

pub returns : goal.returns
returns c =
    tried_last c.args.opened.now c.args.at.now c.args.step c.counts.back c.counts.next c.in_ok-found.found c.counts.invariant
    c.counts-test.false c.in_ok-found.ensures.step
