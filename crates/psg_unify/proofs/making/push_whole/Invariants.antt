use Rattle.std.proofs.Common.{◌≡◌, ◌++◌, reverse, map, length}
use Rattle.psg_terms.specs.Terms.{Term}
use Rattle.psg_unify.specs.declared.making.Task.TheVariants.{Whole}
use Rattle.psg_unify.proofs.making.push_whole.Given as goal

abbrev pub invariant-loop-term : goal.invariant-loop-term
invariant-loop-term l = l.tasks.items ++ reverse (map (λ (t : Term). Whole t) l.rest) ≡ l.initial.tasks.items ++ reverse (map (λ (t : Term). Whole t) l.initial.rest)

abbrev pub decreases-loop-term : goal.decreases-loop-term
decreases-loop-term l = length l.rest
