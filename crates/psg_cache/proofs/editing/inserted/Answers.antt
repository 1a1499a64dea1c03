use Rattle.std.proofs.Common.{sym, subst}
use Rattle.std.specs.Prelude.{Result, IfErr, IfOk}
use Rattle.psg_grammar.specs.Fragments.{Fragment}
use Rattle.psg_grammar.specs.Paths.{change_at, inserted as inserted_at}
use Rattle.psg_tree.specs.Edits.{IsInserted, IsInsertFault}
use Rattle.psg_tree.specs.declared.places.TreeFault.{TreeFault}
use Rattle.psg_cache.specs.declared.editing.Edit.TheVariants as edits
use Rattle.psg_cache.specs.Annotated.{tree_in}
use Rattle.psg_cache.specs.Changes.{IsPlace}
use Rattle.psg_cache.specs.Notes.{IsNoteFault, IsNoteOf}
use Rattle.psg_cache.proofs.ChangeLaws.{memory_add, place_add}
use Rattle.psg_cache.proofs.Completed.{noted_completable}
use Rattle.psg_cache.proofs.NoteOpen.{noted_open}
use Rattle.psg_cache.proofs.Passing.{passed}
use Rattle.psg_cache.proofs.editing.inserted.Goals as goal

pub finished-requires-clause-place : goal.finished-requires-clause-place
finished-requires-clause-place g c =
    let def = c.args.definition.now in
    let note = c.args.note.now in
    let tree = tree_in note in
    let path = c.args.path.now in
    let place = c.args.place in
    let new = c.args.new.now in
    let made = c.in_ok-made.made in
    let P : Result Fragment TreeFault → Type 0 = λ r. IfOk r (IsInserted tree path place new) in
    let told : P c.insert-changed.result =
    subst (λ t. IfOk c.insert-changed.result (IsInserted t path place new)) c.tree.ensures c.insert-changed.ensures.ok in
    let is : IsInserted tree path place new made = subst P c.in_ok-made.ensures.ok told in
    subst (λ t. IsPlace def note path (edits.Add place t) made) (sym c.in_ok-share.ensures)
    (place_add def note path place new made c.requires.note c.requires.place is)

pub returns-in_err-all-clause-fault : goal.returns-in_err-all-clause-fault
returns-in_err-all-clause-fault g c =
    let def = c.args.definition.now in
    let note = c.args.note.now in
    let tree = tree_in note in
    let path = c.args.path.now in
    let place = c.args.place in
    let new = c.args.new.now in
    let made = c.in_ok-made.made in
    let P : Result Fragment TreeFault → Type 0 = λ r. IfOk r (IsInserted tree path place new) in
    let told : P c.insert-changed.result =
    subst (λ t. IfOk c.insert-changed.result (IsInserted t path place new)) c.tree.ensures c.insert-changed.ensures.ok in
    let is : IsInserted tree path place new made = subst P c.in_ok-made.ensures.ok told in
    passed (IsNoteFault def (change_at (inserted_at place new) path tree)) _ c.in_err-all.field-0.0 c.from_residual-in_err-all.ensures.1
    (subst (λ x. IsNoteFault def x c.in_err-all.field-0.0) is.made_is c.in_err-all.ensures.fault)

pub returns-clause-note : goal.returns-clause-note
returns-clause-note g c =
    let def = c.args.definition.now in
    let note = c.args.note.now in
    let tree = tree_in note in
    let path = c.args.path.now in
    let place = c.args.place in
    let new = c.args.new.now in
    let made = c.in_ok-made.made in
    let P : Result Fragment TreeFault → Type 0 = λ r. IfOk r (IsInserted tree path place new) in
    let told : P c.insert-changed.result =
    subst (λ t. IfOk c.insert-changed.result (IsInserted t path place new)) c.tree.ensures c.insert-changed.ensures.ok in
    let is : IsInserted tree path place new made = subst P c.in_ok-made.ensures.ok told in
    subst (λ x. IsNoteOf def x c.in_ok-all.all) is.made_is c.in_ok-all.ensures.note

pub returns-clause-good : goal.returns-clause-good
returns-clause-good g c =
    let def = c.args.definition.now in
    let note = c.args.note.now in
    let tree = tree_in note in
    let path = c.args.path.now in
    let place = c.args.place in
    let new = c.args.new.now in
    let made = c.in_ok-made.made in
    let P : Result Fragment TreeFault → Type 0 = λ r. IfOk r (IsInserted tree path place new) in
    let told : P c.insert-changed.result =
    subst (λ t. IfOk c.insert-changed.result (IsInserted t path place new)) c.tree.ensures c.insert-changed.ensures.ok in
    let is : IsInserted tree path place new made = subst P c.in_ok-made.ensures.ok told in
    noted_open def (change_at (inserted_at place new) path tree) c.in_ok-all.all
    (subst (λ x. IsNoteOf def x c.in_ok-all.all) is.made_is c.in_ok-all.ensures.note)

pub returns-clause-completions : goal.returns-clause-completions
returns-clause-completions g c =
    let def = c.args.definition.now in
    let note = c.args.note.now in
    let tree = tree_in note in
    let path = c.args.path.now in
    let place = c.args.place in
    let new = c.args.new.now in
    let made = c.in_ok-made.made in
    let P : Result Fragment TreeFault → Type 0 = λ r. IfOk r (IsInserted tree path place new) in
    let told : P c.insert-changed.result =
    subst (λ t. IfOk c.insert-changed.result (IsInserted t path place new)) c.tree.ensures c.insert-changed.ensures.ok in
    let is : IsInserted tree path place new made = subst P c.in_ok-made.ensures.ok told in
    noted_completable def c.requires.sound (change_at (inserted_at place new) path tree) c.in_ok-all.all
    (subst (λ x. IsNoteOf def x c.in_ok-all.all) is.made_is c.in_ok-all.ensures.note)

pub tree_of-requires : goal.tree_of-requires
tree_of-requires g c =
    let tree = tree_in c.args.note.now in
    let path = c.args.path.now in
    let place = c.args.place in
    let new = c.args.new.now in
    memory_add c.args.definition.now path place tree new c.requires.note.formed c.requires.place c.insert-changed.result
    (subst (λ t. IfErr c.insert-changed.result (IsInsertFault t path place)) c.tree.ensures c.insert-changed.ensures.err)
