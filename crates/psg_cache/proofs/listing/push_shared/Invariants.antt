use Rattle.std.proofs.Common.{◌≡◌, ◌++◌, take}
use Rattle.psg_cache.proofs.listing.push_shared.Given as goal

abbrev pub invariant-loop-summary : goal.invariant-loop-summary
invariant-loop-summary l = l.made.items ≡ l.initial.made.items ++ take l.summary-index l.summaries
