use Rattle.std.proofs.Common.{◌≡◌, ◌≤◌, drop, length, map}
use Rattle.psg_cache.specs.Annotated.{whole_in}
use Rattle.psg_cache.proofs.renoting.settled.Given as goal

abbrev pub invariant-loop-left : goal.invariant-loop-left
invariant-loop-left l = record {
  nearer : l.left ≤ l.last;
  within : l.left ≤ length l.news;
  same : drop l.left (map whole_in l.news) ≡ drop l.left (map whole_in l.olds);
}

abbrev pub decreases-loop-left : goal.decreases-loop-left
decreases-loop-left l = l.left
