use Rattle.std.proofs.Common.{arith}
use Rattle.psg_deflines.proofs.FormLaws.{phylum-long}
use Rattle.psg_deflines.proofs.forms.line_phylum.Goals as goal

pub returns-in_default : goal.returns-in_default
returns-in_default c = λ line h. omega (arith, phylum-long c.args.parts.now line h)
