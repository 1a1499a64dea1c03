use Rattle.std.proofs.Common.{◌+◌, drop, refl}
use Rattle.psg_defnumber.specs.Putting.{ReadsColumns}
use Rattle.psg_defnumber.proofs.PutLaws.{reads-next, reads-end}
use Rattle.psg_grammar.specs.Sound.{IsItem}
use Rattle.psg_defcheck.proofs.SortLaws.{all-at}
use Rattle.psg_defnumber.proofs.operators.columns.Goals as goal

pub put_column-requires : goal.put_column-requires
put_column-requires c = all-at (IsItem c.args.definition.now) c.args.items.now c.loop-item.item-index c.item-item.result c.requires c.loop-item-test.true c.item-item.is

pub loop-item-preserved : goal.loop-item-preserved
loop-item-preserved c =
    reads-next c.args.definition.now ReadsColumns c.args.items.now c.loop-item.item-index c.item-item.result c.loop-item.sorts.items c.put_column.new.sorts.items c.loop-item-test.true c.item-item.is c.loop-item.invariant
    (c.in_ok-put_column.ensures (drop (c.loop-item.item-index + 1) c.args.items.now))

pub returns : goal.returns
returns c = reads-end c.args.definition.now ReadsColumns c.args.items.now c.loop-item.item-index c.loop-item.sorts.items c.loop-item-test.false (λ full. refl) c.loop-item.invariant
