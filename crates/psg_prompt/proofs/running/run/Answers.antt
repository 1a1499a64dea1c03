use Rattle.std.proofs.Common.{rules}
use Rattle.psg_prompt.specs.Running.{not_drawn}
use Rattle.psg_prompt.proofs.RunningLaws.{run_not_begun, run_so}
use Rattle.psg_prompt.proofs.running.run.Goals as goal

pub returns-in-Ok-put : goal.returns-in-Ok-put
returns-in-Ok-put g c = run_so _ _ _ _ _ _ (search rules) c.in-Ok-put.ensures.all c.turns.ensures

pub returns-in-Ok : goal.returns-in-Ok
returns-in-Ok g c =
    run_not_begun _ _ _ c.as_str.result.now _ (search rules) c.in-Err-put.ensures.fault c.in-Err-put.ensures.front

pub returns : goal.returns
returns g c = not_drawn
