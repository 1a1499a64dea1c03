use Rattle.std.proofs.Common.{arith}
use Rattle.psg_explain.proofs.KindLaws.{slots_end, slots_next}
use Rattle.psg_explain.proofs.staging.add_kinds.Goals as goal

pub loop-item-preserved : goal.loop-item-preserved
loop-item-preserved c = λ def.
    slots_next def c.args.items.now c.loop-item.item-index c.item-item.result c.loop-item.kinds.items c.add_kind.new.kinds.items _ c.loop-item.skip c.in_ok-left.left c.loop-item-test.true c.item-item.is
    (c.in_ok-left.ensures def _) (c.loop-item.invariant def)

pub returns : goal.returns
returns c = λ def. slots_end def c.args.items.now c.loop-item.item-index c.loop-item.kinds.items _ c.loop-item.skip (omega arith) (c.loop-item.invariant def)
