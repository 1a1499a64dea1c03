use Rattle.psg_unparse.proofs.PlainRows.{not_plain}
use Rattle.psg_unparse.proofs.layout.Writer.is_plain.Goals as goal

pub returns-clause-no : goal.returns-clause-no
returns-clause-no c = λ e. not_plain c.args.self.now c.stays_plain.result c.stays_plain.ensures e
