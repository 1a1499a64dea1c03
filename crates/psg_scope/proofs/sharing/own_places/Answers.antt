use Rattle.std.proofs.Common.{arith}
use Rattle.psg_scope.proofs.SharedLaws.{own_step}
use Rattle.psg_scope.proofs.sharing.own_places.Goals as goal

pub loop-place-preserved : goal.loop-place-preserved
loop-place-preserved c =
    own_step c.args.cols.now c.loop-place.places.items c.push.new.self.items c.loop-place.place (omega arith)
    c.loop-place.invariant c.in_ok-push.ensures.items
