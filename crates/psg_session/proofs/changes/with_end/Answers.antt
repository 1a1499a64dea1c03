use Rattle.std.proofs.Common.{refl, ap, ◌∙◌}
use Rattle.std.proofs.lemmas.Result.{IfOk-at_ok}
use Rattle.psg_grammar.specs.Paths.{change_at, ended, node_at}
use Rattle.psg_tree.specs.Edits.{IsSet}
use Rattle.psg_session.proofs.OnlyMemory.{ends}
use Rattle.psg_session.proofs.changes.with_end.Goals as goal

pub tree_of-requires : goal.tree_of-requires
tree_of-requires c =
    ends c.args.list.now c.args.list.now refl c.in_ok-top.top c.args.list.now
    (ap (node_at c.args.list.now) c.in_ok-top.ensures) c.requires c.set_unfinished.result c.set_unfinished.ensures.err

pub returns : goal.returns
returns c =
    let done = IfOk-at_ok (IsSet c.args.list.now c.in_ok-top.top c.args.unfinished)
    c.in_ok-tree.ensures c.set_unfinished.ensures.ok in
    done.made_is ∙ ap (λ p. change_at (ended c.args.unfinished) p c.args.list.now) c.in_ok-top.ensures
