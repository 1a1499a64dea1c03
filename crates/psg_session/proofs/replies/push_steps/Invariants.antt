use Rattle.std.proofs.Common.{◌≡◌, ◌++◌, take, string_bytes}
use Rattle.psg_script.specs.Forms.{steps_text}
use Rattle.psg_session.proofs.replies.push_steps.Given as goal

abbrev pub invariant-loop-step : goal.invariant-loop-step
invariant-loop-step l = string_bytes l.text ≡ string_bytes l.initial.text ++ steps_text (take l.step-index l.steps)
