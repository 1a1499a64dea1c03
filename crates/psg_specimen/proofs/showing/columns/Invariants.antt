use Rattle.std.proofs.Common.{◌≡◌}
use Rattle.psg_eval.specs.Walks.{run}
use Rattle.psg_specimen.proofs.showing.columns.Given as goal

abbrev pub invariant-loop-number : goal.invariant-loop-number
invariant-loop-number l = l.numbers.items ≡ run 0 l.number
