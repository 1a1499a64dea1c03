use Rattle.std.proofs.Common.{◌+◌, length}
use Rattle.psg_scope.specs.Headers.{AreRising, keys}
use Rattle.psg_scope.specs.Merging.{IsUpTo}
use Rattle.psg_scope.proofs.merging.merged.Given as goal

abbrev pub invariant-loop-all : goal.invariant-loop-all
invariant-loop-all l = record {
  up_to : IsUpTo l.left l.right l.a l.b l.all;
  left_rises : AreRising (keys l.a);
  right_rises : AreRising (keys l.b);
}

abbrev pub decreases-loop-all : goal.decreases-loop-all
decreases-loop-all l = length l.a + length l.b
