use Rattle.std.proofs.Common.{ap, sym, ◌∙◌}
use Rattle.psg_links.specs.Spots.{declared_spot}
use Rattle.psg_links.proofs.linked.spot_of_declared.Goals as goal

pub returns-in-Some : goal.returns-in-Some
returns-in-Some c = λ f h.
    c.spot_of.ensures f h ∙ ap (λ o. declared_spot c.args.sheet.tokens.now f o) (sym c.in-Some.is)

pub returns-in-None : goal.returns-in-None
returns-in-None c = λ f h. ap (λ o. declared_spot c.args.sheet.tokens.now f o) (sym c.in-None.is)
