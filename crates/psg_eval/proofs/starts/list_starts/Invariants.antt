use Rattle.std.proofs.Common.{◌≡◌, length}
use Rattle.psg_eval.specs.Starts.{AreListStarts}
use Rattle.psg_eval.proofs.starts.list_starts.Given as goal

abbrev pub invariant-loop-list : goal.invariant-loop-list
invariant-loop-list l = (length l.made.items ≡ l.list) × AreListStarts l.definition l.made.items
