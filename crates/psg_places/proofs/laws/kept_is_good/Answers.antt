use Rattle.psg_grammar.specs.Legal.{IsCompletable}
use Rattle.psg_grammar.specs.Open.{IsOpen}
use Rattle.psg_places.proofs.BlameLaws.{good_if_kept, leaves}
use Rattle.psg_places.proofs.laws.kept_is_good.Goals as goal

pub returns-clause-open : goal.returns-clause-open
returns-clause-open c = λ fresh f. leaves c.args.definition.now fresh f (IsOpen c.args.definition.now)

pub returns-clause-completable : goal.returns-clause-completable
returns-clause-completable c = λ fresh f. leaves c.args.definition.now fresh f (IsCompletable c.args.definition.now)

pub returns-clause-whole_open : goal.returns-clause-whole_open
returns-clause-whole_open c = λ fresh f. good_if_kept c.args.definition.now fresh f (IsOpen c.args.definition.now)

pub returns-clause-whole_completable : goal.returns-clause-whole_completable
returns-clause-whole_completable c = λ fresh f.
    good_if_kept c.args.definition.now fresh f (IsCompletable c.args.definition.now)
