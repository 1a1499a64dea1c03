use Rattle.psg_grammar.specs.Legal.{IsCompletable}
use Rattle.psg_grammar.specs.Open.{IsOpen}
use Rattle.psg_places.proofs.FallingLaws.{completable_falls, open_falls}
use Rattle.psg_places.proofs.SearchLaws.{none_if_good}
use Rattle.psg_places.proofs.laws.none_where_good.Goals as goal

pub returns-clause-open : goal.returns-clause-open
returns-clause-open c = λ rows f formed fresh new.
    none_if_good (IsOpen c.args.definition.now) c.args.definition.now fresh f
    (open_falls c.args.definition.now c.requires.sound rows f formed.0 formed.1 fresh new)

pub returns-clause-completable : goal.returns-clause-completable
returns-clause-completable c = λ rows f formed fresh new.
    none_if_good (IsCompletable c.args.definition.now) c.args.definition.now fresh f
    (completable_falls c.args.definition.now c.requires.sound rows f formed.0 formed.1 fresh new)
