use Rattle.psg_run.proofs.FormattedBack.{formats_once}
use Rattle.psg_run.proofs.laws.formats_once.Goals as goal

pub returns : goal.returns
returns c = formats_once c.args.definition.now c.requires.sound c.requires.words c.requires.accepted.of_class
