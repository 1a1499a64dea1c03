use Rattle.psg_explain.proofs.PlanFormed.{claims_planned, walked_of}
use Rattle.psg_explain.proofs.laws.planned_claims.Goals as goal

pub returns : goal.returns
returns c = λ def path f claims last (kind, (fits, plain)). claims_planned def path f claims last (walked_of def f kind fits plain)
