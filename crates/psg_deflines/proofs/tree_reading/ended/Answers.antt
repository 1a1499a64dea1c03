use Rattle.std.proofs.Common.{refl}
use Rattle.psg_deflines.proofs.TreeMoves.{no-list, list-moved}
use Rattle.psg_deflines.proofs.tree_reading.ended.Goals as goal

pub returns-in_default-as_list : goal.returns-in_default-as_list
returns-in_default-as_list c = λ fs e h shown.
    no-list c.args.trees (record { frames = c.pop.new.self; deep = c.args.trees.deep }) c.in-Some.frame fs h c.in-Some.ensures.items refl e c.in_default-as_list.ensures

pub returns : goal.returns
returns c = λ fs e h shown.
    list-moved c.args.trees (record { frames = c.pop.new.self; deep = c.args.trees.deep }) c.in-Some.frame fs h c.in-Some.ensures.items refl _ c.args.end e _ c.in_ok-walk.walk c.in-Some-as_list.ensures shown c.list_tree-tree.ensures c.in_ok-walk.ensures
