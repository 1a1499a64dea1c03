use Rattle.std.proofs.Common.{reverse}
use Rattle.psg_unify.specs.Circles.{AreVisits}
use Rattle.psg_unify.proofs.circles.visits.Given as goal

abbrev pub invariant-loop-id : goal.invariant-loop-id
invariant-loop-id l = AreVisits l.base l.id (reverse l.stack.items)
