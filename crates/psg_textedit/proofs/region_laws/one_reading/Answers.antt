use Rattle.psg_textedit.proofs.Readings.{one_reading}
use Rattle.psg_textedit.proofs.region_laws.one_reading.Goals as goal

pub returns : goal.returns
returns c = one_reading c.args._definition.now
