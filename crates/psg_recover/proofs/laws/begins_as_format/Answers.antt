use Rattle.psg_recover.proofs.FormatLaws.{begins_as_format}
use Rattle.psg_recover.proofs.laws.begins_as_format.Goals as goal

pub returns : goal.returns
returns c = begins_as_format c.args._definition.now c.requires.can_end c.requires.class
