use Rattle.std.proofs.Common.{ap, ◌∷◌, [], ◌∙◌}
use Rattle.psg_terms.proofs.Recognising.{substitute-closed}
use Rattle.psg_relation.proofs.forcing.force_closed.Goals as goal

pub returns-in_ok-force-clause-fit : goal.returns-in_ok-force-clause-fit
returns-in_ok-force-clause-fit c = c.in_ok-force.ensures.fit

pub returns-in_ok-force-clause-forced : goal.returns-in_ok-force-clause-forced
returns-in_ok-force-clause-forced c = λ f g forced e.
    c.in_ok-force.ensures.forced f forced (ap (λ t. t ∷ []) (e ∙ substitute-closed g c.args.closed.now (c.is_open_alone.ensures c.if-is_open_alone.true)))
