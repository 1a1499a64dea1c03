use Rattle.std.proofs.Common.{sym, ◌∙◌}
use Rattle.psg_messages.proofs.MessageLaws.{list_none, list_some}
use Rattle.psg_messages.proofs.message.params_of_list.Goals as goal

pub returns-then-is_empty : goal.returns-then-is_empty
returns-then-is_empty c = list_none c.args.items.now (sym c.is_empty.ensures ∙ c.if-is_empty.true)

pub returns-else-is_empty : goal.returns-else-is_empty
returns-else-is_empty c = list_some c.args.items.now (sym c.is_empty.ensures ∙ c.if-is_empty.false)
