use Rattle.std.proofs.Common.{sym, ◌∙◌}
use Rattle.psg_layout.proofs.RuleLaws.{group_some, group_none}
use Rattle.psg_layout.proofs.rule.group_of.Goals as goal

pub returns-then-is_op_name : goal.returns-then-is_op_name
returns-then-is_op_name c =
    group_some c.args.behind.now c.skip_spaces-name.result.now c.skip_spaces-name.ensures.spaces.0 c.requires c.skip_spaces-name.ensures.spaces.1
    (sym c.is_op_name.ensures ∙ c.if-is_op_name.true)

pub returns-else-is_op_name : goal.returns-else-is_op_name
returns-else-is_op_name c =
    group_none c.args.behind.now c.skip_spaces-name.result.now c.skip_spaces-name.ensures.spaces.0 c.skip_spaces-name.ensures.spaces.1 c.skip_spaces-name.ensures.rest
    (sym c.is_op_name.ensures ∙ c.if-is_op_name.false)
