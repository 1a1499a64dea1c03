use Rattle.psg_textedit.proofs.TypedNode.{typed}
use Rattle.psg_textedit.proofs.region_laws.clean_is_typed.Goals as goal

pub returns : goal.returns
returns c = typed c.args._definition.now c.requires.sound c.requires.words c.requires.class
