use Rattle.std.proofs.Common.{sym, ◌∙◌}
use Rattle.psg_layout.proofs.RuleLaws.{break_some, break_no_number, break_no_name}
use Rattle.psg_layout.proofs.rule.break_of.Goals as goal

pub returns-in-Some : goal.returns-in-Some
returns-in-Some c =
    break_some c.args.behind.now c.skip_spaces-text.result.now c.split_word-parts.result.0.now c.split_word-parts.result.1.now c.skip_spaces-text.ensures.spaces.0
    c.skip_spaces-text.ensures.spaces.1 c.skip_spaces-text.ensures.rest c.split_word-parts.ensures.parts c.split_word-parts.ensures.word c.split_word-parts.ensures.behind
    c.skip_spaces-word.result.now c.skip_spaces-word.ensures.spaces.0 c.skip_spaces-word.ensures.spaces.1 c.skip_spaces-word.ensures.rest
    c.in-Some.place c.requires (sym c.is_op_name.ensures ∙ c.if-is_op_name.true) c.in-Some.ensures

pub returns-in-None : goal.returns-in-None
returns-in-None c =
    break_no_number c.args.behind.now c.skip_spaces-text.result.now c.split_word-parts.result.0.now c.split_word-parts.result.1.now c.skip_spaces-text.ensures.spaces.0
    c.skip_spaces-text.ensures.spaces.1 c.skip_spaces-text.ensures.rest c.split_word-parts.ensures.parts c.split_word-parts.ensures.word c.split_word-parts.ensures.behind
    c.skip_spaces-word.result.now c.skip_spaces-word.ensures.spaces.0 c.skip_spaces-word.ensures.spaces.1 c.skip_spaces-word.ensures.rest c.in-None.ensures

pub returns-else-is_op_name : goal.returns-else-is_op_name
returns-else-is_op_name c =
    break_no_name c.args.behind.now c.skip_spaces-text.result.now c.split_word-parts.result.0.now c.split_word-parts.result.1.now c.skip_spaces-text.ensures.spaces.0
    c.skip_spaces-text.ensures.spaces.1 c.skip_spaces-text.ensures.rest c.split_word-parts.ensures.parts c.split_word-parts.ensures.word c.split_word-parts.ensures.behind
    (sym c.is_op_name.ensures ∙ c.if-is_op_name.false)
