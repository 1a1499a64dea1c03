use Rattle.std.proofs.Common.{sym, ◌∙◌}
use Rattle.psg_pointing.specs.Pointing.{nowhere, pointed}
use Rattle.psg_pointing.proofs.pointing.pointed.Goals as goal

pub returns-then-on : goal.returns-then-on
returns-then-on c = λ f e.
    pointed c.in_ok-path.path (sym (c.is_on-on.ensures f e) ∙ c.if-on.true) (c.in_ok-path.ensures f e)

pub returns : goal.returns
returns c = λ f e. nowhere (sym (c.is_on-on.ensures f e) ∙ c.if-on.false)
