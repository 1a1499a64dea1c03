use Rattle.psg_run.proofs.OtherFiles.{writes_no_other}
use Rattle.psg_run.proofs.laws.self_writes_no_other.Goals as goal

pub returns : goal.returns
returns c = writes_no_other
