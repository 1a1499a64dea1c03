use Rattle.psg_self.specs.Export.{exported}
use Rattle.psg_run.proofs.WholeDefinitions.{read_only}
use Rattle.psg_run.proofs.exporting.prepared.Goals as goal

pub returns-clause-line : goal.returns-clause-line
returns-clause-line c =
    c.in_ok-line.ensures (exported c.args.tree.now)
    (read_only (exported c.args.tree.now) c.in_ok-read.read c.in_ok-read.ensures.checked c.in_ok-read.ensures.only)
