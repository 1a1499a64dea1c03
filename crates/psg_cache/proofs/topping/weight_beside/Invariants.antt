use Rattle.std.proofs.Common.{◌≡◌, ◌+◌, drop}
use Rattle.psg_cache.specs.Noted.{own_weight, summed}
use Rattle.psg_cache.proofs.topping.weight_beside.Given as goal

abbrev pub invariant-loop-summary : goal.invariant-loop-summary
invariant-loop-summary l =
    l.sum + summed own_weight (drop l.summary-index l.summaries) ≡ summed own_weight l.summaries
