use Rattle.psg_unparse.proofs.Adding.{adds-other}
use Rattle.psg_unparse.proofs.layout.Writer.put_mark.Goals as goal

pub returns-in_default : goal.returns-in_default
returns-in_default c = adds-other c.args.item.now c.args.self.now c.in_default.not-Tight c.in_default.not-Space c.in_default.not-Line c.in_default.not-In c.in_default.not-Out
