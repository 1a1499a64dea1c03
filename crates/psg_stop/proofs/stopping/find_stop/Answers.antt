use Rattle.std.proofs.Common.{◌≡◌, ◌↔◌, sym, subst, true}
use Rattle.psg_parse.specs.Stops.{Begins, MayEnd}
use Rattle.psg_stop.specs.Wanted.{AreWanted, wanted_terminals}
use Rattle.psg_stop.proofs.Rows.{tokens_take}
use Rattle.psg_stop.proofs.stopping.find_stop.Goals as goal

pub returns-clause-ends : goal.returns-clause-ends
returns-clause-ends c =
    subst (λ ts. (c.in_ok-own.own.whole ≡ true) ↔ MayEnd c.args.definition.now c.args.goal.kind c.args.goal.least ts)
    (tokens_take c.in_ok-front.front.tokens c.args.tokens.now) c.in_ok-own.ensures.whole

pub returns-clause-wanted : goal.returns-clause-wanted
returns-clause-wanted c all b =
    let def = c.args.definition.now in
    let same = tokens_take c.in_ok-front.front.tokens c.args.tokens.now in
    subst (λ ts. AreWanted def c.args.goal.kind c.args.goal.least ts (wanted_terminals c.in_ok-wanted.wanted.items)) same
    (c.in_ok-wanted.ensures all (subst (Begins def c.args.goal.kind c.args.goal.least) (sym same) (c.in_ok-front.ensures.stop all b).front))
