use Rattle.std.proofs.Common.{get_or, length, slice_get, sym, ap, ◌∙◌, arith}
use Rattle.std.proofs.lemmas.List.{get_or_default}
use Rattle.psg_relation.proofs.Members.{in-at}
use Rattle.psg_covering.proofs.IndexLaws.{collect_more}
use Rattle.psg_covering.proofs.index.collect.Goals as goal

pub row_of-requires : goal.row_of-requires
row_of-requires c =
    let place = get_or c.args.places.now c.loop-i.i 0 in
    let lt = c.requires place (in-at place c.args.places.now c.loop-i.i c.loop-i-test.true (get_or_default c.args.places.now c.loop-i.i 0 place c.loop-i-test.true)) in
    let same = ap length c.as_slice-rows.ensures in omega (arith, lt, same)

pub loop-i-preserved : goal.loop-i-preserved
loop-i-preserved c =
    let place = get_or c.args.places.now c.loop-i.i 0 in
    collect_more c.args.definition.now c.args.kind c.args.places.now c.loop-i.i place c.row_of.result.now c.args.numbers.now.items c.loop-i.numbers.items c.note_row.new.numbers.items
    c.loop-i-test.true (get_or_default c.args.places.now c.loop-i.i 0 place c.loop-i-test.true) (ap (λ l. slice_get l place) (sym c.as_slice-rows.ensures) ∙ c.row_of.ensures)
    c.in_ok-note_row.ensures c.loop-i.invariant
