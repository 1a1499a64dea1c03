use Rattle.psg_class.proofs.ClassFacts.{facts}
use Rattle.psg_textedit.proofs.Nested.{nested}
use Rattle.psg_textedit.proofs.region_laws.nested.Goals as goal

pub returns : goal.returns
returns c = nested c.args._definition.now (facts c.args._definition.now c.requires.class)
