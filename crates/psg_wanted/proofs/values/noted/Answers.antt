use Rattle.psg_wanted.proofs.ValueLaws.{fault_told}
use Rattle.psg_wanted.proofs.values.noted.Goals as goal

pub returns-in_ok-none-in-Err-clause-none : goal.returns-in_ok-none-in-Err-clause-none
returns-in_ok-none-in-Err-clause-none g c = λ e. fault_told c.args.definition.now c.args.tree.now c.in-Err.fault c.in_ok-none-in-Err.ensures.some c.in-Err.ensures.fault
