use Rattle.std.proofs.Common.{◌≡◌, map, take}
use Rattle.psg_explain.specs.Relations.{rel_of}
use Rattle.psg_explain.proofs.relating.rows_of_steps.Given as goal

abbrev pub invariant-loop-step : goal.invariant-loop-step
invariant-loop-step l = l.all.items ≡ map rel_of (take l.step-index l.steps)
