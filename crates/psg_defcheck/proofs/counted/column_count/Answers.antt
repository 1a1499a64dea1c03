use Rattle.std.proofs.Common.{arith, sym, ◌∙◌}
use Rattle.psg_defcheck.specs.Meanings.{has_column}
use Rattle.psg_defcheck.proofs.CountedLaws.{count-more, count-same}
use Rattle.psg_defcheck.proofs.counted.column_count.Goals as goal
use Rattle.psg_defcheck.proofs.counted.column_count.Goals.{then-has_column, else-has_column}

pub loop-item-preserved : goal.loop-item-preserved
loop-item-preserved c =
    let i = c.loop-item.invariant in
    elim c.if-has_column.branch [
      | then-has_column w ↦ (omega arith, w.count-is ∙ count-more has_column c.args.items.now c.loop-item.item-index c.item-item.result c.loop-item.count c.loop-item-test.true c.item-item.is (sym c.has_column.ensures ∙ w.if-has_column.true) i.1)
      | else-has_column w ↦ (omega arith, w.count-is ∙ count-same has_column c.args.items.now c.loop-item.item-index c.item-item.result c.loop-item.count c.loop-item-test.true c.item-item.is (sym c.has_column.ensures ∙ w.if-has_column.false) i.1)
    ]
