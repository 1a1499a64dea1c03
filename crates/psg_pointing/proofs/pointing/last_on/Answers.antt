use Rattle.std.proofs.Common.{◌+◌, refl, arith}
use Rattle.psg_pointing.proofs.Walks.{if_none, if_some, looking_first, looking_last, looking_next, looking_none}
use Rattle.psg_pointing.proofs.pointing.last_on.Goals as goal

pub nodes-init : goal.nodes-init
nodes-init c = looking_first c.args.tokens.now c.args.byte _ refl c.args.ranges.now refl

pub nodes-preserved : goal.nodes-preserved
nodes-preserved c =
    looking_next c.args.tokens.now c.args.byte c.args.ranges.now c.nodes.next _ c.nodes.found c.found_with-found.result
    c.nodes.invariant (c.has_some.ensures.yes c.nodes-test.true) c.found_with-found.ensures.so_far
    c.found_with-found.ensures.either (omega arith) c.beside-rest.ensures.shorter c.beside-rest.ensures.nodes

pub returns-clause-none : goal.returns-clause-none
returns-clause-none c =
    if_none _ c.nodes.found (looking_none c.args.tokens.now c.args.byte c.args.ranges.now c.nodes.next c.nodes.found
    c.nodes.invariant (c.has_some.ensures.no c.nodes-test.false))

pub returns-clause-last : goal.returns-clause-last
returns-clause-last c =
    if_some _ c.nodes.found (looking_last c.args.tokens.now c.args.byte c.args.ranges.now c.nodes.next c.nodes.found
    c.nodes.invariant (c.has_some.ensures.no c.nodes-test.false))

pub returns-clause-shorter : goal.returns-clause-shorter
returns-clause-shorter c = if_some _ c.nodes.found c.nodes.invariant.short
