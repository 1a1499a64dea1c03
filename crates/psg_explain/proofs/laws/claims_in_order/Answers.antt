use Rattle.psg_explain.proofs.PlanFormed.{claims_planned, walked_of}
use Rattle.psg_explain.proofs.PlanPlaces.{claims_first}
use Rattle.psg_explain.proofs.laws.claims_in_order.Goals as goal

pub returns : goal.returns
returns c = λ def path f claims last (kind, (fits, plain)) h.
    let walked = walked_of def f kind fits plain in
    claims_first def path f claims last walked ((claims_planned def path f claims last walked).0 h)
