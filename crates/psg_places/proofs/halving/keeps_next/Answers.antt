use Rattle.psg_places.specs.Answers.{IsBlameFault}
use Rattle.psg_places.proofs.AnswerLaws.{passed}
use Rattle.psg_places.proofs.halving.keeps_next.Goals as goal

pub returns-in_err-trial-clause-fault : goal.returns-in_err-trial-clause-fault
returns-in_err-trial-clause-fault g c =
    passed (IsBlameFault c.args.definition.now c.args.tree.now) _ c.in_err-trial.field-0.0 c.from_residual.ensures.1
    c.in_err-trial.ensures.fault
