use Rattle.std.proofs.Common.{◌∙◌, ap, sym}
use Rattle.std.specs.Prelude.{option_copied}
use Rattle.psg_explain.proofs.RelatingLaws.{over_iff, over_none}
use Rattle.psg_explain.proofs.claiming.is_over.Goals as goal

pub returns-in-Some : goal.returns-in-Some
returns-in-Some c =
    over_iff c.args.rows.now c.in-Some.last.now c.as_slice.result.now c.is_none-none.result (sym c.last.ensures.value ∙ ap option_copied c.in-Some.is) c.as_slice.ensures c.is_none-none.ensures

pub returns-in-None : goal.returns-in-None
returns-in-None c = over_none c.args.rows.now (sym c.last.ensures.value ∙ ap option_copied c.in-None.is)
