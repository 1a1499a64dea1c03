use Rattle.std.proofs.Common.{sym, ◌∙◌}
use Rattle.psg_pointing.proofs.Judgements.{no_program_by}
use Rattle.psg_pointing.proofs.judging.check_read.Goals as goal

pub returns-else-memory : goal.returns-else-memory
returns-else-memory c = λ def kind text h.
    no_program_by def kind text c.args.fault (sym c.is_memory-memory.ensures ∙ c.if-memory.false) h
