use Rattle.psg_grammar.specs.Legal.{IsCompletable}
use Rattle.psg_grammar.specs.Open.{IsOpen}
use Rattle.psg_places.proofs.BlameLaws.{keeps_all}
use Rattle.psg_places.proofs.laws.keeps_all.Goals as goal

pub returns-clause-open : goal.returns-clause-open
returns-clause-open c = λ fresh f. keeps_all c.args.definition.now fresh f (IsOpen c.args.definition.now)

pub returns-clause-completable : goal.returns-clause-completable
returns-clause-completable c = λ fresh f. keeps_all c.args.definition.now fresh f (IsCompletable c.args.definition.now)
