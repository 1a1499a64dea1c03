use Rattle.psg_deflines.proofs.FormLaws.{neither}
use Rattle.psg_deflines.proofs.forms.is_marked.Goals as goal

pub returns-in_default-2 : goal.returns-in_default-2
returns-in_default-2 c = neither c.args.parts.now c.args.word.now c.in_default.len_at_least
