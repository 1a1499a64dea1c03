use Rattle.std.proofs.Common.{[], arith}
use Rattle.psg_relation.proofs.Members.{in-at}
use Rattle.psg_covering.proofs.Adding.{rows_begin, rows_end, rows_more}
use Rattle.psg_covering.proofs.choosing.next_front.Goals as goal

pub loop-i-init : goal.loop-i-init
loop-i-init c ks fits = rows_begin c.args.definition.now c.args.kind c.args.slot ks c.new-next.result.rows.items c.new-next.ensures

pub add_choices-requires-clause-fits : goal.add_choices-requires-clause-fits
add_choices-requires-clause-fits c =
    let (ks, all) = c.requires.fits in
    (ks, all c.index-front-i.result (in-at c.index-front-i.result c.args.front.now c.loop-i.i c.loop-i-test.true c.index-front-i.is))

pub loop-i-preserved : goal.loop-i-preserved
loop-i-preserved c ks fits =
    rows_more c.args.definition.now c.args.kind c.args.slot ks [] c.loop-i.next.rows.items c.add_choices.new.next.rows.items c.args.front.now c.loop-i.i c.index-front-i.result c.loop-i-test.true c.index-front-i.is
    (c.loop-i.invariant ks fits)
    (c.in_ok-add_choices.ensures ks (fits c.index-front-i.result (in-at c.index-front-i.result c.args.front.now c.loop-i.i c.loop-i-test.true c.index-front-i.is)))

pub returns-clause-fits : goal.returns-clause-fits
returns-clause-fits c ks fits = (rows_end c.args.definition.now c.args.kind c.args.slot ks c.args.front.now c.loop-i.next.rows.items c.loop-i.i (omega (arith, c.loop-i-test.false)) (c.loop-i.invariant ks fits)).fit

pub returns-clause-bare : goal.returns-clause-bare
returns-clause-bare c =
    let (ks, fits) = c.requires.fits in
    (rows_end c.args.definition.now c.args.kind c.args.slot ks c.args.front.now c.loop-i.next.rows.items c.loop-i.i (omega (arith, c.loop-i-test.false)) (c.loop-i.invariant ks fits)).bare

pub returns-clause-covered : goal.returns-clause-covered
returns-clause-covered c ks fits = (rows_end c.args.definition.now c.args.kind c.args.slot ks c.args.front.now c.loop-i.next.rows.items c.loop-i.i (omega (arith, c.loop-i-test.false)) (c.loop-i.invariant ks fits)).covered
