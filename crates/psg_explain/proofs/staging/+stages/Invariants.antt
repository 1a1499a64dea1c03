use Rattle.std.proofs.Common.{◌+◌, ◌*◌, false}
use Rattle.psg_tree.specs.Shapes.{height, list_of}
use Rattle.psg_explain.proofs.StagingLaws.{BelowTo}
use Rattle.psg_explain.proofs.staging.+stages.Given as goal

abbrev pub decreases-add_below : goal.decreases-add_below
decreases-add_below l = 2 * height (list_of 0 l.trees.now false)

abbrev pub decreases-add_stages : goal.decreases-add_stages
decreases-add_stages l = 2 * height l.tree.now + 1

abbrev pub invariant-add_below-loop-i : goal.invariant-add_below-loop-i
invariant-add_below-loop-i l = BelowTo l.known.definition.now l.path l.trees l.fn.stages.items l.stages.items l.i l.places.items
