use Rattle.std.proofs.Common.{◌∷◌, [], drop, ap, ◌∙◌, ◌+◌, arith}
use Rattle.psg_terms.proofs.Lists.{drop_item}
use Rattle.psg_explain.specs.Given.{hole_rows_of}
use Rattle.psg_explain.proofs.CasingLaws.{all_dropped, all_pushed, hole_rows_more}
use Rattle.psg_explain.proofs.GivenLaws.{all_there}
use Rattle.psg_explain.proofs.casing.hole_rows.Goals as goal

pub loop-row-preserved : goal.loop-row-preserved
loop-row-preserved c =
    let kind = c.args.kind in
    let i = c.loop-row.row-index in
    let hs = c.args.all.now in
    all_pushed c.loop-row.rows.items c.push_hole.new.rows.items (hole_rows_of kind hs) (hole_rows_of kind (drop i hs)) (hole_rows_of kind (c.row-item.result ∷ [])) (hole_rows_of kind (drop (i + 1) hs))
    c.in_ok-push_hole.ensures c.loop-row.invariant
    (ap (hole_rows_of kind) (drop_item hs i c.row-item.result c.loop-row-test.true c.row-item.is) ∙ hole_rows_more kind c.row-item.result (drop (i + 1) hs))

pub returns : goal.returns
returns c =
    all_there c.loop-row.rows.items (hole_rows_of c.args.kind (drop c.loop-row.row-index c.args.all.now)) (hole_rows_of c.args.kind c.args.all.now) c.loop-row.invariant
    (ap (hole_rows_of c.args.kind) (all_dropped c.args.all.now c.loop-row.row-index (omega arith)))
