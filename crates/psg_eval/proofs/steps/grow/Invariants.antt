use Rattle.psg_eval.proofs.StepLists.{IsGrownTo}
use Rattle.psg_eval.proofs.steps.grow.Given as goal

abbrev pub invariant-loop-i : goal.invariant-loop-i
invariant-loop-i l = IsGrownTo l.definition l.children l.fn.first l.before.items l.last l.i
