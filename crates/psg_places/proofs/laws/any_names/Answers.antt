use Rattle.psg_places.proofs.ForAllNames.{completable_for_all, open_for_all}
use Rattle.psg_places.proofs.laws.any_names.Goals as goal

pub returns-clause-open : goal.returns-clause-open
returns-clause-open c = λ f. open_for_all c.args.definition.now f

pub returns-clause-completable : goal.returns-clause-completable
returns-clause-completable c = λ rows f formed.
    completable_for_all c.args.definition.now f c.requires.sound rows formed.0 formed.1
