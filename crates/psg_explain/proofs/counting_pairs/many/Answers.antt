use Rattle.std.proofs.Common.{length, ap, ◌∙◌}
use Rattle.psg_terms.proofs.Lists.{got_none, got_some}
use Rattle.psg_explain.proofs.SumLaws.{many_none, many_some}
use Rattle.psg_explain.proofs.counting_pairs.many.Goals as goal

pub returns-in-Some : goal.returns-in-Some
returns-in-Some c =
    ap length c.as_slice.ensures ∙ many_some c.args.rows.now c.args.place c.in-Some.own.now (got_some c.args.rows.now c.args.place c.get.result c.in-Some.own c.get.ensures.lookup c.in-Some.is)

pub returns-in-None : goal.returns-in-None
returns-in-None c = many_none c.args.rows.now c.args.place (got_none c.args.rows.now c.args.place c.get.result c.get.ensures.lookup c.in-None.is)
