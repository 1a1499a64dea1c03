use Rattle.psg_pointing.proofs.Walks.{beside_is, drop_shorter}
use Rattle.psg_pointing.proofs.pointing.beside.Goals as goal

pub returns-clause-shorter : goal.returns-clause-shorter
returns-clause-shorter c = drop_shorter c.args.ranges.now _ _ _ c.behind_first-rest.ensures c.after.ensures

pub returns-clause-nodes : goal.returns-clause-nodes
returns-clause-nodes c =
    beside_is c.args.ranges.now _ _ _ _ c.behind_first-rest.ensures c.first_nodes-nodes.ensures
    c.one_less-count.ensures c.after.ensures
