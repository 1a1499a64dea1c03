use Rattle.std.proofs.Common.{◌≡◌, ◌++◌, take}
use Rattle.std.specs.String.{string_bytes}
use Rattle.psg_script.specs.Forms.{steps_text}
use Rattle.psg_script.proofs.text.push_steps.Given as goal

abbrev pub invariant-loop-step : goal.invariant-loop-step
invariant-loop-step l = string_bytes l.line ≡ string_bytes l.fn.line ++ steps_text (take l.step-index l.steps)
