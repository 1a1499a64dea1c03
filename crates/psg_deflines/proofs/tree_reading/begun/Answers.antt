use Rattle.std.proofs.Common.{subst}
use Rattle.psg_deflines.specs.TreePieces.{ShowsBegin}
use Rattle.psg_deflines.proofs.TreeMoves.{tree-moved}
use Rattle.psg_deflines.proofs.tree_reading.begun.Goals as goal

pub returns-in_ok-walk-in-Tree : goal.returns-in_ok-walk-in-Tree
returns-in_ok-walk-in-Tree c = λ fs b h shown. tree-moved c.args.trees.deep c.in-Tree.tree fs b c.in_ok-walk-in-Tree.walk (subst (λ x. ShowsBegin x b) c.in-Tree.is shown) (λ t. c.in_ok-walk-in-Tree.ensures fs t h)
