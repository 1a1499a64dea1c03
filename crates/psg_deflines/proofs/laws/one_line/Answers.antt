use Rattle.psg_deflines.proofs.OnceLines.{spell_once}
use Rattle.psg_deflines.proofs.laws.one_line.Goals as goal

pub returns : goal.returns
returns c = spell_once
