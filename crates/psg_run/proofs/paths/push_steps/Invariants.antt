use Rattle.std.proofs.Common.{◌≡◌, ◌++◌, take}
use Rattle.std.specs.String.{string_bytes}
use Rattle.psg_script.specs.Forms.{steps_text}
use Rattle.psg_run.proofs.paths.push_steps.Given as goal

abbrev pub invariant-loop-step : goal.invariant-loop-step
invariant-loop-step l = string_bytes l.line ≡ string_bytes l.initial.line ++ steps_text (take l.step-index l.steps)
