use Rattle.psg_explain.proofs.OneReason.{one}
use Rattle.psg_explain.proofs.laws.one_reason.Goals as goal

pub returns : goal.returns
returns c = λ equations r s p q. one equations r s p q
