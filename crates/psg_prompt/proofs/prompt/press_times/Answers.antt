use Rattle.psg_prompt.proofs.PromptLaws.{times_next}
use Rattle.psg_prompt.proofs.prompt.press_times.Goals as goal

pub loop-turn-preserved : goal.loop-turn-preserved
loop-turn-preserved c =
    times_next c.args.count c.loop-turn._turn c.loop-turn-test.true c.args.key _ _ _ c.in_ok-press.ensures.pressed
    c.loop-turn.invariant
