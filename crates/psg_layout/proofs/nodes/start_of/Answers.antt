use Rattle.std.proofs.Common.{◌∙◌}
use Rattle.psg_terms.proofs.Lists.{got_none, got_some}
use Rattle.psg_layout.proofs.PartLaws.{no_own, start_found, start_past}
use Rattle.psg_layout.proofs.nodes.start_of.Goals as goal

pub returns-then-own-eq0 : goal.returns-then-own-eq0
returns-then-own-eq0 c = λ puts e f. c.end_of.ensures puts e f ∙ no_own puts c.args.before c.args.own c.if-own-eq0.true

pub returns-in-Some : goal.returns-in-Some
returns-in-Some c = λ puts e f.
    start_found c.args.tokens.now puts e c.args.before c.args.own c.in-Some.token.now
    (got_some c.args.tokens.now c.args.before c.get.result c.in-Some.token c.get.ensures.lookup c.in-Some.is) c.if-own-eq0.false

pub returns-in-None : goal.returns-in-None
returns-in-None c = λ puts e f.
    c.end_of-in-None.ensures puts e f
    ∙ start_past c.args.tokens.now puts e c.args.before c.args.own (got_none c.args.tokens.now c.args.before c.get.result c.get.ensures.lookup c.in-None.is)
