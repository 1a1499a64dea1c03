use Rattle.psg_unparse.proofs.PrintedTree.{printed_reads_back}
use Rattle.psg_unparse.proofs.reading_back.reads_back.Goals as goal

pub returns : goal.returns
returns c = printed_reads_back c.args._definition.now c.requires.sound c.requires.words c.requires.class
