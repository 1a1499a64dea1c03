use Rattle.std.proofs.Common.{true, false, ap, ◌++◌, ◌∙◌}
use Rattle.psg_uses.specs.Naming.{names_below}
use Rattle.psg_links.proofs.AroundLaws.{region_is}
use Rattle.psg_links.proofs.around.region_at.Goals as goal

pub returns : goal.returns
returns c =
    region_is c.args.definition.now c.args.tree.now c.args.path c.args.node.now c.of.result c.requires.there c.requires.begins
    (c.of.ensures ∙ c.in_ok-gather.ensures
    ∙ ap (λ l. l ++ names_below c.args.definition.now true false c.steps.result.now 0 c.args.node.now) c.new-declared.ensures.items
    ∙ ap (λ q. names_below c.args.definition.now true false q 0 c.args.node.now) c.steps.ensures)
