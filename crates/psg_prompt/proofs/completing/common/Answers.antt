use Rattle.psg_prompt.proofs.CompletingLaws.{common_end}
use Rattle.psg_prompt.proofs.completing.common.Goals as goal

pub returns-else-count-other-clause-value : goal.returns-else-count-other-clause-value
returns-else-count-other-clause-value c =
    common_end c.args.one.now c.args.other.now c.same.count c.same.invariant.same c.if-count-other.false
