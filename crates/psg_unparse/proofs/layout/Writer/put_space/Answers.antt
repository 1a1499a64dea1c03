use Rattle.psg_unparse.proofs.Adding.{adds-space}
use Rattle.psg_unparse.proofs.layout.Writer.put_space.Goals as goal

pub returns : goal.returns
returns c = adds-space c.args.self.now c.stays_plain-self.result c.stays_plain-self.ensures
