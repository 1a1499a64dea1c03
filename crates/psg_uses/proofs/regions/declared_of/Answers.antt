use Rattle.std.proofs.Common.{◌++◌, true, false, option_copied, ap, sym, ◌∙◌}
use Rattle.psg_grammar.specs.Paths.{node_at}
use Rattle.psg_uses.specs.Naming.{names_below}
use Rattle.psg_uses.proofs.RegionLaws.{begun, none_declared, not_begun}
use Rattle.psg_uses.proofs.regions.declared_of.Goals as goal

pub returns-in_default : goal.returns-in_default
returns-in_default c =
    c.new-found.ensures.items
    ∙ none_declared c.args.definition.now c.args.tree.now c.args.path.now
    (ap (node_at c.args.tree.now) (sym c.in_ok-own.ensures) ∙ sym c.at.ensures ∙ ap option_copied c.in_default.is)

pub returns-then-not-begins : goal.returns-then-not-begins
returns-then-not-begins c =
    c.new-found.ensures.items
    ∙ not_begun c.args.definition.now c.args.tree.now c.args.path.now c.in-Some.node.now c.begins_with-begins.result
    (ap (node_at c.args.tree.now) (sym c.in_ok-own.ensures) ∙ sym c.at.ensures ∙ ap option_copied c.in-Some.is)
    c.begins_with-begins.ensures c.if-not-begins.true

pub returns : goal.returns
returns c =
    c.in_ok-gather.ensures
    ∙ ap (λ l. l ++ names_below c.args.definition.now true false c.args.path.now 0 c.in-Some.node.now) c.new-found.ensures.items
    ∙ begun c.args.definition.now c.args.tree.now c.args.path.now c.in-Some.node.now c.begins_with-begins.result
    (ap (node_at c.args.tree.now) (sym c.in_ok-own.ensures) ∙ sym c.at.ensures ∙ ap option_copied c.in-Some.is)
    c.begins_with-begins.ensures c.if-not-begins.false
