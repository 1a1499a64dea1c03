use Rattle.psg_unparse.proofs.NodesBack.{nodes_read_back}
use Rattle.psg_unparse.proofs.reading_back.nodes_read_back.Goals as goal

pub returns : goal.returns
returns c = nodes_read_back c.args._definition.now c.requires.sound c.requires.words c.requires.class
