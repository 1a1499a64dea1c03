use Rattle.std.proofs.Common.{rules, refl, ◌∙◌}
use Rattle.psg_class.specs.Texts.{tokens_of}
use Rattle.psg_ranges.proofs.Walks.{top_read}
use Rattle.psg_ranges.proofs.ranges.ranges_of.Goals as goal

pub returns : goal.returns
returns c = λ level nesting y.
    c.of-nodes.ensures
    ∙ top_read c.args.definition.now (tokens_of c.args.tokens.now) c.args.tree.now c.args.kind c.has_brackets-bracketed.result _ _ c.read_node.new.reader c.has_brackets-bracketed.ensures c.in_ok-read_node.ensures level nesting y refl
    (search rules)
