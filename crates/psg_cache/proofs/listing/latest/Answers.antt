use Rattle.std.proofs.Common.{◌∙◌, sym, ap}
use Rattle.std.specs.Prelude.{option_copied}
use Rattle.psg_cache.proofs.CellLaws.{latest_none, latest_some}
use Rattle.psg_cache.proofs.listing.latest.Goals as goal

pub returns-in-Some : goal.returns-in-Some
returns-in-Some c =
    latest_some c.args.behind.now c.args.made.now _ (sym c.last.ensures.value ∙ ap option_copied c.in-Some.is)

pub returns-in-None : goal.returns-in-None
returns-in-None c =
    latest_none c.args.behind.now c.args.made.now (sym c.last.ensures.value ∙ ap option_copied c.in-None.is)
