use Rattle.std.proofs.Common.{None, Some, ap, option_copied, sym, ◌∙◌}
use Rattle.psg_terms.proofs.Lists.{got_none, got_some}
use Rattle.psg_keymap.proofs.RangeLaws.{no_separator, separator_is}
use Rattle.psg_keymap.proofs.ranges.separator_of.Goals as goal

pub returns-in-Some-get : goal.returns-in-Some-get
returns-in-Some-get c =
    c.as_str.ensures
    ∙ separator_is c.args.definition.now c.args.tree.now c.in-Some.node.now c.args.path.now c.shape.result.now
    (sym c.at.ensures ∙ ap option_copied c.in-Some.is) c.shape.ensures c.in-List.list c.in-List.elements
    c.in-List.unfinished c.as_slice.result.now
    (Some c.in-Some-get.kind.now) c.in-List.is c.as_slice.ensures
    (got_some c.as_slice.result.now c.in-List.list c.get.result c.in-Some-get.kind c.get.ensures.lookup
    c.in-Some-get.is)

pub returns-in-None-get : goal.returns-in-None-get
returns-in-None-get c =
    separator_is c.args.definition.now c.args.tree.now c.in-Some.node.now c.args.path.now c.shape.result.now
    (sym c.at.ensures ∙ ap option_copied c.in-Some.is) c.shape.ensures c.in-List.list c.in-List.elements
    c.in-List.unfinished c.as_slice.result.now
    None c.in-List.is c.as_slice.ensures
    (got_none c.as_slice.result.now c.in-List.list c.get.result c.get.ensures.lookup c.in-None-get.is)

pub returns-in-Op : goal.returns-in-Op
returns-in-Op c =
    no_separator c.args.definition.now c.args.tree.now c.in-Some.node.now c.args.path.now c.shape.result.now
    (sym c.at.ensures ∙ ap option_copied c.in-Some.is) c.shape.ensures c.in-Op.op c.in-Op.parts c.in-Op.is
