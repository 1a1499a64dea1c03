use Rattle.psg_tui.proofs.RunningLaws.{over_so, pressed_so, said_so}
use Rattle.psg_tui.proofs.running.press_one.Goals as goal

pub returns-then-is_ended-clause-taken : goal.returns-then-is_ended-clause-taken
returns-then-is_ended-clause-taken g c =
    over_so _ _ _ c.is_ended.result c.is_ended.ensures c.if-is_ended.true

pub returns-in-Ok-clause-taken : goal.returns-in-Ok-clause-taken
returns-in-Ok-clause-taken g c =
    pressed_so _ _ _ _ _ c.is_ended.result c.is_ended.ensures c.if-is_ended.false c.in-Ok.ensures.same
    c.in-Ok.ensures.pressed

pub returns-in-Err-clause-taken : goal.returns-in-Err-clause-taken
returns-in-Err-clause-taken g c =
    said_so _ _ _ _ _ _ c.is_ended.result c.is_ended.ensures c.if-is_ended.false c.in-Err.ensures.memory.0
    c.in-Err.ensures.memory.1 c.say_no_memory.ensures
