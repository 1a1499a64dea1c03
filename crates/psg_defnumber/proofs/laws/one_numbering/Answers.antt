use Rattle.psg_defnumber.proofs.laws.one_numbering.Goals as goal
use Rattle.psg_defnumber.proofs.OnceWhole.{one-definition}

-- src/laws.rt:5:1
pub returns : goal.returns
returns c = one-definition
