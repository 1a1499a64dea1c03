use Rattle.std.proofs.lemmas.Result.{IfOk-weaker}
use Rattle.psg_tree.proofs.Lists.{is_removed}
use Rattle.psg_tree.proofs.edits.remove.Goals as goal

pub returns-in_ok-changed-in-Some-clause-ok : goal.returns-in_ok-changed-in-Some-clause-ok
returns-in_ok-changed-in-Some-clause-ok c =
    IfOk-weaker c.replace.result _ _ (is_removed c.args.tree.now c.in-Some.node.now c.in_ok-changed-in-Some.changed c.args.path.now c.args.place c.in-Some.ensures c.in_ok-changed-in-Some.ensures.ok) c.replace.ensures.ok
