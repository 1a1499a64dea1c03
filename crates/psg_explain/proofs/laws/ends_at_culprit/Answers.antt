use Rattle.psg_explain.proofs.OwnEnds.{ends_at_culprit}
use Rattle.psg_explain.proofs.laws.ends_at_culprit.Goals as goal

pub returns : goal.returns
returns c = λ def f path node claims last sound same formed culprit claim.
    ends_at_culprit def sound same f formed path node culprit claims last claim
