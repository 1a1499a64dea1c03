use Rattle.std.proofs.Common.{◌≡◌, length}
use Rattle.psg_eval.specs.Starts.{AreOperatorStarts}
use Rattle.psg_eval.proofs.starts.operator_starts.Given as goal

abbrev pub invariant-loop-op : goal.invariant-loop-op
invariant-loop-op l = (length l.made.items ≡ l.op) × AreOperatorStarts l.definition l.made.items
