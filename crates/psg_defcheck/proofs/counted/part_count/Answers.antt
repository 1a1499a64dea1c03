use Rattle.std.proofs.Common.{arith, sym, ◌∙◌}
use Rattle.psg_defcheck.specs.Meanings.{has_part}
use Rattle.psg_defcheck.proofs.CountedLaws.{count-more, count-same}
use Rattle.psg_defcheck.proofs.counted.part_count.Goals as goal
use Rattle.psg_defcheck.proofs.counted.part_count.Goals.{then-has_part, else-has_part}

pub loop-item-preserved : goal.loop-item-preserved
loop-item-preserved c =
    let i = c.loop-item.invariant in
    elim c.if-has_part.branch [
      | then-has_part w ↦ (omega arith, w.count-is ∙ count-more has_part c.args.items.now c.loop-item.item-index c.item-item.result c.loop-item.count c.loop-item-test.true c.item-item.is (sym c.has_part.ensures ∙ w.if-has_part.true) i.1)
      | else-has_part w ↦ (omega arith, w.count-is ∙ count-same has_part c.args.items.now c.loop-item.item-index c.item-item.result c.loop-item.count c.loop-item-test.true c.item-item.is (sym c.has_part.ensures ∙ w.if-has_part.false) i.1)
    ]
