use Rattle.std.proofs.Common.{◌∙◌, ap, ◌++◌}
use Rattle.psg_tree.proofs.Lists.{not_list_node, newly_ended}
use Rattle.psg_tree.proofs.edits.ended.Goals as goal

pub returns-in_ok-list_tree-in-List-clause-ok : goal.returns-in_ok-list_tree-in-List-clause-ok
returns-in_ok-list_tree-in-List-clause-ok c =
    newly_ended _ _ _ _ _ _ _ _ c.in-List.is c.shape.ensures
    (c.in_ok-push_shared-in-List.ensures ∙ ap (λ xs. xs ++ c.as_slice-in-List.result.now) c.in_ok-same-in-List.ensures.items ∙ c.as_slice-in-List.ensures) c.in_ok-list_tree-in-List.ensures

pub returns-in-Op-clause-err : goal.returns-in-Op-clause-err
returns-in-Op-clause-err c = not_list_node _ _ _ _ c.in-Op.is c.shape.ensures
