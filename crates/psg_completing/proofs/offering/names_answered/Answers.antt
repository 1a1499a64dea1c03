use Rattle.std.proofs.Common.{ap, map, ◌∙◌}
use Rattle.std.specs.Prelude.{string_bytes}
use Rattle.psg_completing.specs.Offering.{begun_or_all}
use Rattle.psg_completing.proofs.Offers.{answered_err, answered_ok}
use Rattle.psg_completing.proofs.offering.names_answered.Goals as goal

pub returns-in_ok-kept-in-Ok : goal.returns-in_ok-kept-in-Ok
returns-in_ok-kept-in-Ok c =
    c.in_ok-kept-in-Ok.ensures
    ∙ ap (begun_or_all c.args.prefix.now)
    (ap (map string_bytes) c.as_slice-row.ensures.value ∙ answered_ok c.args.told c.in-Ok.names c.in-Ok.is)

pub returns-in-Err : goal.returns-in-Err
returns-in-Err c =
    c.new.ensures.items ∙ ap (begun_or_all c.args.prefix.now) (answered_err c.args.told _ c.in-Err.is)
