use Rattle.psg_library.proofs.OneReading.{one_reading}
use Rattle.psg_library.proofs.laws.one_reading.Goals as goal

pub returns : goal.returns
returns c = λ bytes. one_reading c.args._definition.now c.requires.sound c.requires.class bytes
