use Rattle.psg_run.proofs.GenFiles.{leaves_files}
use Rattle.psg_run.proofs.laws.gen_leaves_files.Goals as goal

pub returns : goal.returns
returns c = leaves_files
