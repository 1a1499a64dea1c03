use Rattle.psg_tui.proofs.RunningLaws.{left_so, run_not_entered, run_not_left, run_so}
use Rattle.psg_tui.proofs.running.run.Goals as goal

pub returns-in-Ok-put-clause-ran : goal.returns-in-Ok-put-clause-ran
returns-in-Ok-put-clause-ran g c =
    run_so _ _ _ _ _ _ _ _ _ _ c.in-Ok.ensures.all c.enter.ensures.bytes c.turns-ending.ensures.ran
    c.in-Ok-put.ensures.all c.leave.ensures.bytes

pub returns-in-Ok-put-clause-left : goal.returns-in-Ok-put-clause-left
returns-in-Ok-put-clause-left g c =
    left_so c.turns-ending.result _ _ _ _ c.enter.result.now c.leave.result.now c.in-Ok.ensures.all
    c.enter.ensures.bytes c.turns-ending.ensures.ran.0 c.turns-ending.ensures.ran.2 c.in-Ok-put.ensures.all
    c.leave.ensures.bytes

pub returns-in-Err-put-clause-ran : goal.returns-in-Err-put-clause-ran
returns-in-Err-put-clause-ran g c =
    run_not_left _ _ _ _ _ _ _ _ _ _ c.in-Ok.ensures.all c.enter.ensures.bytes c.turns-ending.ensures.ran
    _ c.in-Err-put.ensures.fault c.in-Err-put.ensures.front c.leave.ensures.bytes

pub returns-in-Err-clause-ran : goal.returns-in-Err-clause-ran
returns-in-Err-clause-ran g c =
    run_not_entered _ _ _ _ _ c.in-Err.ensures.fault c.in-Err.ensures.front c.enter.ensures.bytes
