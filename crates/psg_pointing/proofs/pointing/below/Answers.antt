use Rattle.psg_pointing.proofs.Walks.{below_is, take_shorter}
use Rattle.psg_pointing.proofs.pointing.below.Goals as goal

pub returns-clause-shorter : goal.returns-clause-shorter
returns-clause-shorter c = take_shorter c.args.ranges.now _ _ _ c.behind_first-rest.ensures c.front.ensures

pub returns-clause-nodes : goal.returns-clause-nodes
returns-clause-nodes c =
    below_is c.args.ranges.now _ _ _ _ c.behind_first-rest.ensures c.first_nodes-nodes.ensures
    c.one_less-count.ensures c.front.ensures
