use Rattle.std.proofs.Common.{◌≡◌, ◌-◌}
use Rattle.psg_prompt.specs.Prompts.{pressed_times}
use Rattle.psg_prompt.proofs.prompt.press_times.Given as goal

abbrev pub invariant-loop-turn : goal.invariant-loop-turn
invariant-loop-turn l = pressed_times (l.count - l._turn) l.key l.lines ≡ pressed_times l.count l.key l.initial.lines
