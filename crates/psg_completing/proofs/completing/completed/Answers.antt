use Rattle.std.proofs.Common.{subst}
use Rattle.psg_completing.specs.Fillings.{Fits, IsFirst, fillings}
use Rattle.psg_completing.specs.Fitted.{IsFitted, filling_in}
use Rattle.psg_completing.proofs.Completions.{completed_none}
use Rattle.psg_pointing.proofs.Walks.{some_in}
use Rattle.psg_completing.proofs.completing.completed.Goals as goal

pub completed_by-requires : goal.completed_by-requires
completed_by-requires g c = record {
  order = c.requires.order;
  within = c.requires.within;
  fitted = some_in (λ fit. IsFitted c.args.language.now c.args.kind c.args.own.now c.args.target.word fit.filling fit)
      c.in_ok-found.found c.in-Some.fit c.in-Some.is c.in_ok-found.ensures.fitted;
  first = subst (λ o. IsFirst (Fits c.args.language.now c.args.kind c.args.own.now c.args.target.word)
      (fillings c.args.language.now) (filling_in o)) c.in-Some.is c.in_ok-found.ensures.first;
}

pub returns-in_ok-empty-in-None : goal.returns-in_ok-empty-in-None
returns-in_ok-empty-in-None g c =
    completed_none c.args.language.now c.args.kind c.args.own.now c.args.target.word c.args.target.from c.args.target.to
    c.in_ok-empty-in-None.empty
    (subst (λ o. IsFirst (Fits c.args.language.now c.args.kind c.args.own.now c.args.target.word)
    (fillings c.args.language.now) (filling_in o)) c.in-None.is c.in_ok-found.ensures.first)
    c.in_ok-empty-in-None.ensures
