use Rattle.psg_grammar.specs.Legal.{IsCompletable}
use Rattle.psg_session.proofs.OneStep.{has_one_step}
use Rattle.psg_session.proofs.laws.one_step.Goals as goal

pub returns : goal.returns
returns c = has_one_step c.args.definition.now (IsCompletable c.args.definition.now) c.requires.sound c.requires.class
