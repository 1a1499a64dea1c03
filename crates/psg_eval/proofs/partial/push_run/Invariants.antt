use Rattle.std.proofs.Common.{◌≡◌, ◌++◌}
use Rattle.psg_eval.specs.Walks.{run}
use Rattle.psg_eval.proofs.partial.push_run.Given as goal

abbrev pub invariant-loop-step : goal.invariant-loop-step
invariant-loop-step l = l.numbers.items ≡ l.initial.numbers.items ++ run l.from l.step
