use Rattle.std.proofs.Common.{refl}
use Rattle.psg_deflines.proofs.TreeMoves.{no-close, close-moved}
use Rattle.psg_deflines.proofs.tree_reading.closed.Goals as goal

pub returns-in_default-as_operator : goal.returns-in_default-as_operator
returns-in_default-as_operator c = λ fs h.
    no-close c.args.trees (record { frames = c.pop.new.self; deep = c.args.trees.deep }) c.in-Some.frame fs h c.in-Some.ensures.items refl c.in_default-as_operator.ensures

pub returns : goal.returns
returns c = λ fs h.
    close-moved c.args.trees (record { frames = c.pop.new.self; deep = c.args.trees.deep }) c.in-Some.frame fs h c.in-Some.ensures.items refl _ _ c.in_ok-walk.walk c.in-Some-as_operator.ensures c.operator_tree-tree.ensures c.in_ok-walk.ensures
