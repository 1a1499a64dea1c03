use Rattle.std.proofs.Common.{sym, ◌∙◌}
use Rattle.psg_pointing.proofs.Judgements.{limited_by}
use Rattle.psg_pointing.proofs.judging.check_noted.Goals as goal

pub returns-else-memory : goal.returns-else-memory
returns-else-memory c = λ def tree h.
    limited_by def tree c.args.fault (sym c.is_out-memory.ensures ∙ c.if-memory.false) h
