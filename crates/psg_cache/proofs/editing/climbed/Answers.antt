use Rattle.psg_cache.specs.Notes.{IsNoteFault}
use Rattle.psg_cache.proofs.Passing.{passed}
use Rattle.psg_cache.proofs.WalkLaws.{fault_noted, heavy_fault, note_of}
use Rattle.psg_cache.proofs.editing.climbed.Goals as goal

pub returns-in_err-all-clause-fault : goal.returns-in_err-all-clause-fault
returns-in_err-all-clause-fault g c =
    let def = c.args.language.definition.now in
    let made = c.args.made.now in
    let small = c.requires.small in
    passed (IsNoteFault def made) _ c.in_err-all.field-0.0 c.from_residual.ensures.1
    (fault_noted def made c.in_err-all.field-0.0 small.0 small.1 c.in_err-all.ensures.err)

pub returns-in_err-light-clause-fault : goal.returns-in_err-light-clause-fault
returns-in_err-light-clause-fault g c =
    let def = c.args.language.definition.now in
    let made = c.args.made.now in
    passed (IsNoteFault def made) _ c.in_err-light.field-0.0 c.from_residual-in_err-light.ensures.1
    (heavy_fault def made c.in_ok-all.all c.weight.result c.in_err-light.field-0.0 c.requires.place.formed
    c.in_ok-all.ensures.ok c.requires.small c.weight.ensures c.in_err-light.ensures.err)

pub returns-clause-note : goal.returns-clause-note
returns-clause-note g c =
    note_of c.args.language.definition.now c.requires.language.sound c.args.made.now c.in_ok-all.all c.weight.result
    c.requires.place.formed c.in_ok-all.ensures.ok c.requires.small c.weight.ensures c.in_ok-light.ensures.ok
