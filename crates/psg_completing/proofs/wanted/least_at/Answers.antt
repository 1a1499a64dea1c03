use Rattle.std.proofs.Common.{ap, sym, ◌∙◌}
use Rattle.std.specs.Prelude.{option_copied}
use Rattle.psg_grammar.specs.Paths.{node_at}
use Rattle.psg_completing.proofs.Levels.{at_root, below_node, below_nothing, no_steps}
use Rattle.psg_completing.proofs.wanted.least_at.Goals as goal

pub returns-in_default : goal.returns-in_default
returns-in_default c =
    at_root c.args.definition.now c.args.tree.now c.args.path.now
    (sym c.steps.ensures ∙ no_steps c.steps.result.now c.in_default.ensures.cases)

pub returns-in-Some-at : goal.returns-in-Some-at
returns-in-Some-at c =
    below_node c.args.definition.now c.in-Some.number.now c.args.tree.now c.in-Some-at.node.now c.args.path.now
    c.in-Some.front.now c.least_under.result (sym c.steps.ensures ∙ c.in-Some.ensures.cases.0)
    (ap (node_at c.args.tree.now) (sym c.in_ok-above.ensures) ∙ sym c.at.ensures ∙ ap option_copied c.in-Some-at.is)
    c.least_under.ensures

pub returns : goal.returns
returns c =
    below_nothing c.args.definition.now c.in-Some.number.now c.args.tree.now c.args.path.now c.in-Some.front.now
    (sym c.steps.ensures ∙ c.in-Some.ensures.cases.0)
    (ap (node_at c.args.tree.now) (sym c.in_ok-above.ensures) ∙ sym c.at.ensures ∙ ap option_copied c.in-None.is)
