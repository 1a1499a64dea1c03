use Rattle.std.proofs.Common.{◌≤◌}
use Rattle.psg_cache.specs.Alike.{IsBack}
use Rattle.psg_cache.proofs.pairing.common_back.Given as goal

-- the last children so far are the same
abbrev pub invariant-loop-back : goal.invariant-loop-back
invariant-loop-back l = record {
  same : IsBack l.old l.new l.back;
  small : l.back ≤ l.most;
}
