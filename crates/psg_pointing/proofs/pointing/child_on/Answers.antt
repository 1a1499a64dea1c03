use Rattle.psg_pointing.proofs.Walks.{child_last, child_none, child_shorter}
use Rattle.psg_pointing.proofs.pointing.child_on.Goals as goal

pub returns-clause-none : goal.returns-clause-none
returns-clause-none c =
    child_none c.args.tokens.now c.args.byte c.args.ranges.now c.below-children.result.now c.below-children.ensures.nodes
    c.last_on.result c.last_on.ensures.none

pub returns-clause-last : goal.returns-clause-last
returns-clause-last c =
    child_last c.args.tokens.now c.args.byte c.args.ranges.now c.below-children.result.now c.below-children.ensures.nodes
    c.last_on.result c.last_on.ensures.last

pub returns-clause-shorter : goal.returns-clause-shorter
returns-clause-shorter c =
    child_shorter c.args.tokens.now c.args.byte c.last_on.result c.args.ranges.now c.below-children.result.now
    c.below-children.ensures.shorter c.last_on.ensures.shorter
