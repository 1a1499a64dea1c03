use Rattle.psg_terms.proofs.OneFault as faults
use Rattle.psg_terms.proofs.laws.one_fault.Goals as goal

pub returns : goal.returns
returns c = faults.one_fault
