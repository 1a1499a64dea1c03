use Rattle.psg_unparse.proofs.SpacedBack.{spaced_reads_back}
use Rattle.psg_unparse.proofs.reading_back.spaced_reads_back.Goals as goal

pub returns : goal.returns
returns c = spaced_reads_back c.args._definition.now c.requires.sound c.requires.words c.requires.class
