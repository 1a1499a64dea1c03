use Rattle.std.proofs.Common.{ap, length, arith}
use Rattle.psg_relation.proofs.Members.{in-at}
use Rattle.psg_focus.proofs.SeenRows.{terms_more}
use Rattle.psg_wanted.proofs.values.only_terms.Goals as goal

pub bounds-terms-0 : goal.bounds-terms-0
bounds-terms-0 c =
    let one = c.requires c.row-item.result (in-at c.row-item.result c.args.rows.now c.loop-row.row-index c.loop-row-test.true c.row-item.is) in
    let same = ap length c.terms-terms.ensures in
    omega (arith, one, same)

pub loop-row-preserved : goal.loop-row-preserved
loop-row-preserved c =
    terms_more c.loop-row.found.items c.push.new.self.items c.args.rows.now c.loop-row.row-index c.row-item.result c.terms-terms.result.now c.index-terms-0.result c.in_ok-term.term
    c.loop-row-test.true c.row-item.is c.loop-row.invariant
    (c.requires c.row-item.result (in-at c.row-item.result c.args.rows.now c.loop-row.row-index c.loop-row-test.true c.row-item.is))
    c.terms-terms.ensures c.index-terms-0.is c.in_ok-term.ensures c.in_ok-push.ensures.items
