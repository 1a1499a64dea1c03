use Rattle.psg_scope.proofs.SpaceLaws.{union_step}
use Rattle.psg_scope.proofs.spaces.union.Goals as goal

pub loop-found-preserved : goal.loop-found-preserved
loop-found-preserved c = union_step c.loop-found.invariant c.in-Some.ensures c.in_ok-push.ensures.items
