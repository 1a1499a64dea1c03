use Rattle.psg_lint.proofs.messages.tree_before.Goals as goal

pub returns : goal.returns
returns c = c.in_ok-tree.ensures
