use Rattle.std.proofs.Common.{subst}
use Rattle.std.specs.Prelude.{Result, IfErr, IfOk}
use Rattle.psg_grammar.specs.Fragments.{Fragment}
use Rattle.psg_grammar.specs.Paths.{change_at, removed as removed_at}
use Rattle.psg_tree.specs.Edits.{IsRemoved, IsRemoveFault}
use Rattle.psg_tree.specs.declared.places.TreeFault.{TreeFault}
use Rattle.psg_cache.specs.Annotated.{tree_in}
use Rattle.psg_cache.specs.Notes.{IsNoteFault, IsNoteOf}
use Rattle.psg_cache.proofs.ChangeLaws.{memory_take, place_take}
use Rattle.psg_cache.proofs.Completed.{noted_completable}
use Rattle.psg_cache.proofs.NoteOpen.{noted_open}
use Rattle.psg_cache.proofs.Passing.{passed}
use Rattle.psg_cache.proofs.editing.removed.Goals as goal

pub finished-requires-clause-place : goal.finished-requires-clause-place
finished-requires-clause-place g c =
    let def = c.args.definition.now in
    let note = c.args.note.now in
    let tree = tree_in note in
    let path = c.args.path.now in
    let place = c.args.place in
    let made = c.in_ok-made.made in
    let P : Result Fragment TreeFault → Type 0 = λ r. IfOk r (IsRemoved tree path place) in
    let told : P c.remove-changed.result =
    subst (λ t. IfOk c.remove-changed.result (IsRemoved t path place)) c.tree.ensures c.remove-changed.ensures.ok in
    let is : IsRemoved tree path place made = subst P c.in_ok-made.ensures.ok told in
    place_take def note path place made c.requires.note c.requires.place is

pub returns-in_err-all-clause-fault : goal.returns-in_err-all-clause-fault
returns-in_err-all-clause-fault g c =
    let def = c.args.definition.now in
    let note = c.args.note.now in
    let tree = tree_in note in
    let path = c.args.path.now in
    let place = c.args.place in
    let made = c.in_ok-made.made in
    let P : Result Fragment TreeFault → Type 0 = λ r. IfOk r (IsRemoved tree path place) in
    let told : P c.remove-changed.result =
    subst (λ t. IfOk c.remove-changed.result (IsRemoved t path place)) c.tree.ensures c.remove-changed.ensures.ok in
    let is : IsRemoved tree path place made = subst P c.in_ok-made.ensures.ok told in
    passed (IsNoteFault def (change_at (removed_at place) path tree)) _ c.in_err-all.field-0.0 c.from_residual-in_err-all.ensures.1
    (subst (λ x. IsNoteFault def x c.in_err-all.field-0.0) is.made_is c.in_err-all.ensures.fault)

pub returns-clause-note : goal.returns-clause-note
returns-clause-note g c =
    let def = c.args.definition.now in
    let note = c.args.note.now in
    let tree = tree_in note in
    let path = c.args.path.now in
    let place = c.args.place in
    let made = c.in_ok-made.made in
    let P : Result Fragment TreeFault → Type 0 = λ r. IfOk r (IsRemoved tree path place) in
    let told : P c.remove-changed.result =
    subst (λ t. IfOk c.remove-changed.result (IsRemoved t path place)) c.tree.ensures c.remove-changed.ensures.ok in
    let is : IsRemoved tree path place made = subst P c.in_ok-made.ensures.ok told in
    subst (λ x. IsNoteOf def x c.in_ok-all.all) is.made_is c.in_ok-all.ensures.note

pub returns-clause-good : goal.returns-clause-good
returns-clause-good g c =
    let def = c.args.definition.now in
    let note = c.args.note.now in
    let tree = tree_in note in
    let path = c.args.path.now in
    let place = c.args.place in
    let made = c.in_ok-made.made in
    let P : Result Fragment TreeFault → Type 0 = λ r. IfOk r (IsRemoved tree path place) in
    let told : P c.remove-changed.result =
    subst (λ t. IfOk c.remove-changed.result (IsRemoved t path place)) c.tree.ensures c.remove-changed.ensures.ok in
    let is : IsRemoved tree path place made = subst P c.in_ok-made.ensures.ok told in
    noted_open def (change_at (removed_at place) path tree) c.in_ok-all.all
    (subst (λ x. IsNoteOf def x c.in_ok-all.all) is.made_is c.in_ok-all.ensures.note)

pub returns-clause-completions : goal.returns-clause-completions
returns-clause-completions g c =
    let def = c.args.definition.now in
    let note = c.args.note.now in
    let tree = tree_in note in
    let path = c.args.path.now in
    let place = c.args.place in
    let made = c.in_ok-made.made in
    let P : Result Fragment TreeFault → Type 0 = λ r. IfOk r (IsRemoved tree path place) in
    let told : P c.remove-changed.result =
    subst (λ t. IfOk c.remove-changed.result (IsRemoved t path place)) c.tree.ensures c.remove-changed.ensures.ok in
    let is : IsRemoved tree path place made = subst P c.in_ok-made.ensures.ok told in
    noted_completable def c.requires.sound (change_at (removed_at place) path tree) c.in_ok-all.all
    (subst (λ x. IsNoteOf def x c.in_ok-all.all) is.made_is c.in_ok-all.ensures.note)

pub tree_of-requires : goal.tree_of-requires
tree_of-requires g c =
    let tree = tree_in c.args.note.now in
    let path = c.args.path.now in
    let place = c.args.place in
    memory_take c.args.definition.now path place tree c.requires.place c.remove-changed.result
    (subst (λ t. IfErr c.remove-changed.result (IsRemoveFault t path place)) c.tree.ensures c.remove-changed.ensures.err)
