use Rattle.psg_unify.specs.Covering.{StaysFit, CanMatch, weigh}
use Rattle.psg_unify.proofs.covering.match_all.Given as goal

abbrev pub invariant-loop-next : goal.invariant-loop-next
invariant-loop-next l =
    StaysFit l.sig l.pool l.fn.state l.fn.state.left.items l.state
    × CanMatch l.pool l.state

abbrev pub decreases-loop-next : goal.decreases-loop-next
decreases-loop-next l = weigh l.state.left.items
