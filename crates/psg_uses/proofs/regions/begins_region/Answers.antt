use Rattle.std.proofs.Common.{ap, option_copied, sym, ◌∙◌}
use Rattle.psg_grammar.specs.Paths.{node_at}
use Rattle.psg_uses.proofs.RegionLaws.{begins_not, begins_there}
use Rattle.psg_uses.proofs.regions.begins_region.Goals as goal

pub returns-in-Some : goal.returns-in-Some
returns-in-Some c =
    begins_there c.args.definition.now c.args.tree.now c.args.path.now c.in-Some.node.now c.begins_with-begins.result
    (ap (node_at c.args.tree.now) (sym c.in_ok-own.ensures) ∙ sym c.at.ensures ∙ ap option_copied c.in-Some.is)
    c.begins_with-begins.ensures

pub returns : goal.returns
returns c =
    begins_not c.args.definition.now c.args.tree.now c.args.path.now
    (ap (node_at c.args.tree.now) (sym c.in_ok-own.ensures) ∙ sym c.at.ensures ∙ ap option_copied c.in-None.is)
