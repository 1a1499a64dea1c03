use Rattle.std.proofs.Common.{◌+◌, length}
use Rattle.psg_scope.proofs.SpaceLaws.{IsUnionSoFar}
use Rattle.psg_scope.proofs.spaces.union.Given as goal

abbrev pub invariant-loop-found : goal.invariant-loop-found
invariant-loop-found l = IsUnionSoFar l.left l.right l.a l.b l.all.items

abbrev pub decreases-loop-found : goal.decreases-loop-found
decreases-loop-found l = length l.a + length l.b
