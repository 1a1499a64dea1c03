use Rattle.psg_run.proofs.EndingWell.{not_refused, one_accepted}
use Rattle.psg_run.proofs.laws.one_definition.Goals as goal

pub returns-clause-one : goal.returns-clause-one
returns-clause-one c = λ bytes def other a b. one_accepted bytes def other a b

pub returns-clause-not_both : goal.returns-clause-not_both
returns-clause-not_both c = λ bytes line def a refusal. not_refused bytes line def a refusal
