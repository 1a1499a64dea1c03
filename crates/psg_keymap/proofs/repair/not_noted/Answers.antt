use Rattle.std.proofs.Common.{sym, ◌∙◌}
use Rattle.psg_keymap.proofs.RepairLaws.{no_note}
use Rattle.psg_keymap.proofs.repair.not_noted.Goals as goal

pub returns-else-memory : goal.returns-else-memory
returns-else-memory c = λ def tree blamed h.
    no_note def tree blamed c.args.fault (sym c.is_out-memory.ensures ∙ c.if-memory.false) h
