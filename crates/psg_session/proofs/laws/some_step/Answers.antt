use Rattle.psg_grammar.specs.Legal.{IsCompletable}
use Rattle.psg_session.specs.Good.{IsGoodIn}
use Rattle.psg_session.proofs.NextSteps.{has_some_step}
use Rattle.psg_session.proofs.laws.some_step.Goals as goal

pub returns-clause-legal : goal.returns-clause-legal
returns-clause-legal c =
    has_some_step c.args.definition.now c.requires.sound c.requires.words c.requires.class
    (IsCompletable c.args.definition.now)

pub returns-clause-open : goal.returns-clause-open
returns-clause-open c =
    has_some_step c.args.definition.now c.requires.sound c.requires.words c.requires.class
    (IsGoodIn c.args.definition.now)
