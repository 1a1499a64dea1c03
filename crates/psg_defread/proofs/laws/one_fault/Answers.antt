use Rattle.psg_defread.proofs.OneFault.{fault_once}
use Rattle.psg_defread.proofs.laws.one_fault.Goals as goal

pub returns : goal.returns
returns c = fault_once c.one_line.ensures
