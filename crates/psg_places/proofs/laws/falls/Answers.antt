use Rattle.psg_places.proofs.FallingLaws.{completable_falls, open_falls}
use Rattle.psg_places.proofs.laws.falls.Goals as goal

pub returns-clause-open : goal.returns-clause-open
returns-clause-open c = λ rows f formed fresh new. open_falls c.args.definition.now c.requires.sound rows f formed.0 formed.1 fresh new

pub returns-clause-completable : goal.returns-clause-completable
returns-clause-completable c = λ rows f formed fresh new.
    completable_falls c.args.definition.now c.requires.sound rows f formed.0 formed.1 fresh new
