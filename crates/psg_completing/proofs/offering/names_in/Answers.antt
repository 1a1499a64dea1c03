use Rattle.std.proofs.Common.{ap, ◌∙◌}
use Rattle.psg_completing.specs.Offering.{begun_or_all}
use Rattle.psg_completing.proofs.Offers.{told_nothing, told_some}
use Rattle.psg_completing.proofs.offering.names_in.Goals as goal

pub returns-in_ok-names-in-Some : goal.returns-in_ok-names-in-Some
returns-in_ok-names-in-Some c =
    c.in_ok-names-in-Some.ensures ∙ ap (begun_or_all c.args.prefix.now) (told_some c.args.read c.in-Some.told c.in-Some.is)

pub returns-in-None : goal.returns-in-None
returns-in-None c = c.new.ensures.items ∙ ap (begun_or_all c.args.prefix.now) (told_nothing c.args.read c.in-None.is)
