use Rattle.psg_run.proofs.OneExport.{has_one_export}
use Rattle.psg_run.proofs.laws.one_export.Goals as goal

pub returns : goal.returns
returns c = has_one_export c.one_fault.ensures c.args.definition.now c.requires.sound c.requires.class
