use Rattle.psg_textedit.proofs.SomeReading.{some_reading}
use Rattle.psg_textedit.proofs.region_laws.some_reading.Goals as goal

pub returns : goal.returns
returns c = some_reading c.args._definition.now
