use Rattle.std.proofs.Common.{[], false, true, ap, ◌++◌, ◌∙◌}
use Rattle.psg_uses.specs.Naming.{names_below}
use Rattle.psg_uses.proofs.free.used_names.Goals as goal

pub returns : goal.returns
returns c =
    c.in_ok-gather.ensures
    ∙ ap (λ l. l ++ names_below c.args.linking.known.definition.now false true [] 0 c.args.linking.tree.now) c.new-used.ensures.items
