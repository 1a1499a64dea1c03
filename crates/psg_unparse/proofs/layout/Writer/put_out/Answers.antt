use Rattle.psg_unparse.proofs.Adding.{adds-out}
use Rattle.psg_unparse.proofs.layout.Writer.put_out.Goals as goal

pub returns : goal.returns
returns c = adds-out c.args.self.now _ c.saturating_sub-self.ensures
