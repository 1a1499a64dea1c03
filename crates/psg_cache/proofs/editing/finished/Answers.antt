use Rattle.psg_cache.specs.Notes.{IsNoteFault}
use Rattle.psg_cache.proofs.Passing.{passed}
use Rattle.psg_cache.proofs.WalkLaws.{size_fault}
use Rattle.psg_cache.proofs.editing.finished.Goals as goal

pub returns-in_err-small-clause-fault : goal.returns-in_err-small-clause-fault
returns-in_err-small-clause-fault g c =
    let def = c.args.language.definition.now in
    let made = c.args.made.now in
    passed (IsNoteFault def made) _ c.in_err-small.field-0.0 c.from_residual.ensures.1
    (size_fault def made c.in_err-small.field-0.0 c.in_err-small.ensures.err)

pub returns-in_err-all-clause-fault : goal.returns-in_err-all-clause-fault
returns-in_err-all-clause-fault g c =
    passed (IsNoteFault c.args.language.definition.now c.args.made.now) _ c.in_err-all.field-0.0
    c.from_residual-in_err-all.ensures.1 c.in_err-all.ensures.fault
