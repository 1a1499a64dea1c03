use Rattle.psg_textedit.proofs.Surrounded.{surrounded}
use Rattle.psg_textedit.proofs.region_laws.surrounded.Goals as goal

pub returns : goal.returns
returns c = λ f. surrounded c.args._definition.now f
