use Rattle.psg_run.proofs.ArrangedRuns.{has_arranged_back}
use Rattle.psg_run.proofs.laws.arranged_reads_back.Goals as goal

pub returns : goal.returns
returns c = has_arranged_back c.args.definition.now c.requires.sound c.requires.words c.requires.accepted
