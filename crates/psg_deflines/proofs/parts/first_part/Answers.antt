use Rattle.psg_deflines.proofs.PartLaws.{word_first-text}
use Rattle.psg_deflines.proofs.parts.first_part.Goals as goal

pub returns-then-len-gt0 : goal.returns-then-len-gt0
returns-then-len-gt0 c = word_first-text c.args.text.now c.word_len-len.result c.word_len-len.ensures c.if-len-gt0.true
