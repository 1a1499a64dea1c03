use Rattle.std.proofs.Common.{sym, ◌∙◌}
use Rattle.psg_terms.proofs.Lists.{got_some}
use Rattle.psg_layout.proofs.OwnLaws.{own_found}
use Rattle.psg_layout.proofs.deciding.own_at.Goals as goal

pub returns : goal.returns
returns c =
    own_found c.args.plan.now c.args.place c.in-Some.node.now c.in-Some-width.width c.in_ok-found.found
    (got_some c.args.plan.now.plain.now c.args.place c.get.result c.in-Some.node c.get.ensures.lookup c.in-Some.is) c.in-Some-width.is
    (sym c.is_mark.ensures ∙ c.if-not-is_mark.false) c.in_ok-found.ensures
