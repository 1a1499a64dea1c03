use Rattle.psg_specimen.proofs.ColumnLaws.{picked_next}
use Rattle.psg_terms.proofs.Lists.{get_or_fixed}
use Rattle.psg_specimen.proofs.showing.columns_of.Goals as goal

pub loop-number-preserved : goal.loop-number-preserved
loop-number-preserved c =
    picked_next c.args.terms.now c.args.keep.now c.loop-number.number _ c.loop-number.columns.items c.add_column.new.columns.items c.loop-number-test.true
    (get_or_fixed c.args.keep.now c.loop-number.number _ c.loop-number-test.true) c.in_ok-add_column.ensures c.loop-number.invariant
