use Rattle.std.proofs.Common.{◌≤◌, ◌-◌, length, take}
use Rattle.psg_scope.specs.Headers.{key_of}
use Rattle.psg_scope.proofs.RunLaws.{AreUnder}
use Rattle.psg_scope.proofs.merging.below.Given as goal

abbrev pub invariant-loop-low : goal.invariant-loop-low
invariant-loop-low l = record {
  in_order : l.low ≤ l.high;
  within : l.high ≤ length l.cols;
  under : AreUnder (key_of l.key) (take l.low l.cols);
}

abbrev pub decreases-loop-low : goal.decreases-loop-low
decreases-loop-low l = l.high - l.low
