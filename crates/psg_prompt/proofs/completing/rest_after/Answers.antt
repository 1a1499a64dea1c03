use Rattle.psg_prompt.proofs.CompletingLaws.{rest_none}
use Rattle.psg_prompt.proofs.completing.rest_after.Goals as goal

pub returns-in_default : goal.returns-in_default
returns-in_default c =
    rest_none c.args.typed.now c.args.word.now c.loop-place.rest.now c.loop-place.place c.loop-place-test.true
    c.in_default.ensures.cases c.loop-place.invariant
