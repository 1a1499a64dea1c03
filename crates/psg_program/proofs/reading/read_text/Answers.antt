use Rattle.std.proofs.Common.{chars, subst}
use Rattle.psg_lexis.specs.Faults.{HasFault, OrMemory}
use Rattle.psg_program.proofs.reading.read_text.Goals as goal

pub returns-in-Err-clause-fault : goal.returns-in-Err-clause-fault
returns-in-Err-clause-fault g c =
    c.lexical_fault.ensures c.args.language.now c.args.kind
    (subst (λ ws. OrMemory (HasFault ws (chars c.args.text.now) 0) c.in-Err.fault) c.lexis.ensures c.in-Err.ensures.err)
