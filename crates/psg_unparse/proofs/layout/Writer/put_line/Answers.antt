use Rattle.psg_unparse.proofs.Adding.{adds-line}
use Rattle.psg_unparse.proofs.layout.Writer.put_line.Goals as goal

pub returns : goal.returns
returns c = adds-line c.args.self.now
