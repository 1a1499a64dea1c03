use Rattle.std.proofs.Common.{arith}
use Rattle.psg_tree.proofs.Lists.{is_list_node, not_list_node, count_node, longer}
use Rattle.psg_tree.proofs.edits.inserted.Goals as goal

pub returns-then-place-elements-clause-err : goal.returns-then-place-elements-clause-err
returns-then-place-elements-clause-err c =
    let n = count_node _ _ _ _ _ _ c.in-List.is c.shape.ensures c.as_slice-elements.ensures in
    (is_list_node _ _ _ _ _ c.in-List.is c.shape.ensures, omega arith)

pub returns-in_ok-list_tree-in-List-clause-ok : goal.returns-in_ok-list_tree-in-List-clause-ok
returns-in_ok-list_tree-in-List-clause-ok c =
    longer _ _ _ _ _ _ _ _ _ _ c.in-List.is c.shape.ensures c.as_slice-elements.ensures c.if-place-elements.false c.in_ok-more-in-List.ensures c.in_ok-list_tree-in-List.ensures

pub returns-in-Op-clause-err : goal.returns-in-Op-clause-err
returns-in-Op-clause-err c = not_list_node _ _ _ _ c.in-Op.is c.shape.ensures
