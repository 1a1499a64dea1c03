use Rattle.psg_cache.specs.Notes.{IsNoteFault}
use Rattle.psg_cache.proofs.Completed.{noted_completable}
use Rattle.psg_cache.proofs.NoteOpen.{noted_open}
use Rattle.psg_cache.proofs.Passing.{passed}
use Rattle.psg_cache.proofs.WalkLaws.{fault_noted, heavy_fault, note_of, size_fault}
use Rattle.psg_cache.proofs.building.build.Goals as goal

pub returns-in_err-small-clause-fault : goal.returns-in_err-small-clause-fault
returns-in_err-small-clause-fault g c =
    let def = c.args.definition.now in
    let tree = c.args.tree.now in
    passed (IsNoteFault def tree) _ c.in_err-small.field-0.0 c.from_residual.ensures.1
    (size_fault def tree c.in_err-small.field-0.0 c.in_err-small.ensures.err)

pub returns-in_err-note-clause-fault : goal.returns-in_err-note-clause-fault
returns-in_err-note-clause-fault g c =
    let def = c.args.definition.now in
    let tree = c.args.tree.now in
    let small = c.in_ok-small.ensures.ok in
    passed (IsNoteFault def tree) _ c.in_err-note.field-0.0 c.from_residual-in_err-note.ensures.1
    (fault_noted def tree c.in_err-note.field-0.0 small.0 small.1 c.in_err-note.ensures.err)

pub returns-in_err-light-clause-fault : goal.returns-in_err-light-clause-fault
returns-in_err-light-clause-fault g c =
    let def = c.args.definition.now in
    let tree = c.args.tree.now in
    passed (IsNoteFault def tree) _ c.in_err-light.field-0.0 c.from_residual-in_err-light.ensures.1
    (heavy_fault def tree c.in_ok-note.note c.weight.result c.in_err-light.field-0.0 c.requires.formed
    c.in_ok-note.ensures.ok c.in_ok-small.ensures.ok c.weight.ensures c.in_err-light.ensures.err)

pub returns-clause-note : goal.returns-clause-note
returns-clause-note g c =
    note_of c.args.definition.now c.requires.sound c.args.tree.now c.in_ok-note.note c.weight.result
    c.requires.formed c.in_ok-note.ensures.ok c.in_ok-small.ensures.ok c.weight.ensures c.in_ok-light.ensures.ok

pub returns-clause-good : goal.returns-clause-good
returns-clause-good g c =
    noted_open c.args.definition.now c.args.tree.now c.in_ok-note.note
    (note_of c.args.definition.now c.requires.sound c.args.tree.now c.in_ok-note.note c.weight.result
    c.requires.formed c.in_ok-note.ensures.ok c.in_ok-small.ensures.ok c.weight.ensures c.in_ok-light.ensures.ok)

pub returns-clause-completions : goal.returns-clause-completions
returns-clause-completions g c =
    noted_completable c.args.definition.now c.requires.sound c.args.tree.now c.in_ok-note.note
    (note_of c.args.definition.now c.requires.sound c.args.tree.now c.in_ok-note.note c.weight.result
    c.requires.formed c.in_ok-note.ensures.ok c.in_ok-small.ensures.ok c.weight.ensures c.in_ok-light.ensures.ok)
