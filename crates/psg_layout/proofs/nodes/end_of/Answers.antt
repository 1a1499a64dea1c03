use Rattle.std.proofs.Common.{◌-◌, ◌∙◌}
use Rattle.psg_terms.proofs.Lists.{got_none, got_some}
use Rattle.psg_layout.proofs.PartLaws.{end_found, end_past, one_before}
use Rattle.psg_layout.proofs.nodes.end_of.Goals as goal

pub returns-in-Some : goal.returns-in-Some
returns-in-Some c = λ puts e f.
    end_found c.args.tokens.now puts e (c.args.count - 1) c.args.count c.in-Some.token.now
    (got_some c.args.tokens.now (c.args.count - 1) c.get.result c.in-Some.token c.get.ensures.lookup c.in-Some.is) (one_before c.args.count c.if-count-eq0.false)

pub returns-in-None : goal.returns-in-None
returns-in-None c = λ puts e f.
    f ∙ end_past c.args.tokens.now puts e (c.args.count - 1) c.args.count
    (got_none c.args.tokens.now (c.args.count - 1) c.get.result c.get.ensures.lookup c.in-None.is) (one_before c.args.count c.if-count-eq0.false)
