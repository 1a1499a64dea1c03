use Rattle.psg_script.proofs.LineLemmas.{more_steps, all_steps, no_steps_yet}
use Rattle.psg_run.proofs.paths.push_steps.Goals as goal

pub loop-step-init : goal.loop-step-init
loop-step-init c = no_steps_yet _

pub loop-step-preserved : goal.loop-step-preserved
loop-step-preserved c = more_steps _ _ _ c.args.steps.now c.loop-step.step-index c.loop-step-test.true c.loop-step.invariant c.in_ok-write.ensures.bytes

pub returns : goal.returns
returns c = all_steps _ _ c.args.steps.now c.loop-step.step-index c.loop-step-test.false c.loop-step.invariant
