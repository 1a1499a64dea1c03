use Rattle.std.proofs.Common.{sym, ◌∙◌}
use Rattle.psg_keymap.proofs.RepairLaws.{by_limit}
use Rattle.psg_keymap.proofs.repair.not_known.Goals as goal

pub returns-else-memory : goal.returns-else-memory
returns-else-memory c = λ def tree h.
    by_limit def tree c.args.fault (sym c.is_memory-memory.ensures ∙ c.if-memory.false) h
