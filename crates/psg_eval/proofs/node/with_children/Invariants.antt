use Rattle.psg_eval.proofs.NodeSteps.{IsGoneUpTo}
use Rattle.psg_eval.proofs.node.with_children.Given as goal

abbrev pub invariant-loop-i : goal.invariant-loop-i
invariant-loop-i l = IsGoneUpTo l.definition l.children l.from l.fn.first l.partial l.i
