use Rattle.std.proofs.Common.{sym, ◌∙◌}
use Rattle.psg_terms.proofs.Lists.{got_none, got_some}
use Rattle.psg_explain.proofs.CasingLaws.{no_rows, rows_there}
use Rattle.psg_explain.proofs.casing.rows_of.Goals as goal

pub returns-in-Some : goal.returns-in-Some
returns-in-Some c =
    c.as_slice.ensures ∙ sym (rows_there c.args.claims.now c.args.place c.in-Some.claim.now (got_some c.args.claims.now c.args.place c.get.result c.in-Some.claim c.get.ensures.lookup c.in-Some.is))

pub returns-in-None : goal.returns-in-None
returns-in-None c = sym (no_rows c.args.claims.now c.args.place (got_none c.args.claims.now c.args.place c.get.result c.get.ensures.lookup c.in-None.is))
