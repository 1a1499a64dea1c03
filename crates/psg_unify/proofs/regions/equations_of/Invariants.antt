use Rattle.std.proofs.Common.{◌≤◌, length, reverse, drop}
use Rattle.psg_unify.specs.Asking.{AskFor}
use Rattle.psg_unify.proofs.regions.equations_of.Given as goal

abbrev pub invariant-loop-k : goal.invariant-loop-k
invariant-loop-k l = (l.k ≤ length l.pairs) × AskFor l.lefts l.rights (drop l.k l.pairs) (reverse l.equations.items)

abbrev pub decreases-loop-k : goal.decreases-loop-k
decreases-loop-k l = l.k
