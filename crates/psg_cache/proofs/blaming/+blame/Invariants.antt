use Rattle.std.proofs.Common.{◌≡◌, ◌++◌, take}
use Rattle.psg_cache.specs.Annotated.{nested}
use Rattle.psg_cache.proofs.NoteCulprits.{blamed_each}
use Rattle.psg_cache.proofs.blaming.+blame.Given as goal

-- the culprits of the children so far
abbrev pub invariant-loop-i : goal.invariant-loop-i
invariant-loop-i l = l.found.items ≡ l.fn.found.items ++ blamed_each l.path 0 (take l.i l.below)

abbrev pub decreases-blame : goal.decreases-blame
decreases-blame l = nested l.note.now
