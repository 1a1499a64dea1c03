use Rattle.psg_library.proofs.Written.{written_is_kept}
use Rattle.psg_library.proofs.laws.written_is_kept.Goals as goal

pub returns : goal.returns
returns c = λ s. written_is_kept c.args._definition.now c.requires.sound c.requires.words c.requires.class s
