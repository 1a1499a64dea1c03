use Rattle.std.proofs.Common.{reverse}
use Rattle.psg_session.proofs.NameOrder.{next_once}
use Rattle.psg_session.proofs.gathering.each_once.Goals as goal

pub loop-name-preserved : goal.loop-name-preserved
loop-name-preserved c =
    next_once c.args.falling.now c.loop-name.name-index c.name-item.result (reverse c.loop-name.names.items) _ c.requires
    c.loop-name-test.true c.name-item.is c.loop-name.invariant c.in_ok-push_new.ensures
