use Rattle.std.proofs.Common.{◌≤◌, length}
use Rattle.psg_explain.proofs.StagingLaws.{ListedTo}
use Rattle.psg_explain.proofs.adding.add_list.Given as goal

abbrev pub invariant-cells : goal.invariant-cells
invariant-cells l =
    (l.left ≤ length l.last)
    × ListedTo l.known.definition.now l.path l.node.list l.node.elements.now l.node.unfinished l.last l.fn.stages.items l.stages.items l.left

abbrev pub decreases-cells : goal.decreases-cells
decreases-cells l = l.left
