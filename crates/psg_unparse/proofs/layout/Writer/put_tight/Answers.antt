use Rattle.psg_unparse.proofs.Adding.{adds-tight}
use Rattle.psg_unparse.proofs.layout.Writer.put_tight.Goals as goal

pub returns : goal.returns
returns c = adds-tight c.args.self.now c.stays_plain-self.result c.stays_plain-self.ensures
