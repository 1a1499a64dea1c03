use Rattle.std.proofs.Common.{ap, arith, subst}
use Rattle.std.specs.Prelude.{Result, IfErr, IfOk}
use Rattle.psg_grammar.specs.Fragments.{Fragment}
use Rattle.psg_grammar.specs.Paths.{replaced as replaced_at}
use Rattle.psg_tree.specs.Faults.{IsReplaced, IsReplaceFault}
use Rattle.psg_tree.specs.declared.places.TreeFault.{TreeFault}
use Rattle.psg_cache.specs.Annotated.{tree_in}
use Rattle.psg_cache.specs.Diff.{diff_of}
use Rattle.psg_cache.specs.Notes.{IsNoteFault, IsNoteOf}
use Rattle.psg_cache.proofs.ChangeLaws.{memory_put}
use Rattle.psg_cache.proofs.ExchangeLaws.{exchange_asked}
use Rattle.psg_cache.proofs.Completed.{noted_completable}
use Rattle.psg_cache.proofs.NoteOpen.{noted_open}
use Rattle.psg_cache.proofs.Passing.{passed}
use Rattle.psg_cache.proofs.editing.replaced.Goals as goal

pub exchanged-requires-clause-place : goal.exchanged-requires-clause-place
exchanged-requires-clause-place g c =
    let def = c.args.definition.now in
    let note = c.args.note.now in
    let tree = tree_in note in
    let path = c.args.path.now in
    let new = c.args.new.now in
    let made = c.in_ok-made.made in
    let P : Result Fragment TreeFault → Type 0 = λ r. IfOk r (IsReplaced tree path new) in
    let told : P c.replace-changed.result =
    subst (λ t. IfOk c.replace-changed.result (IsReplaced t path new)) c.tree.ensures c.replace-changed.ensures.ok in
    let is : IsReplaced tree path new made = subst P c.in_ok-made.ensures.ok told in
    exchange_asked def note path new made c.requires.note c.requires.place is

pub returns-in_err-all-clause-fault : goal.returns-in_err-all-clause-fault
returns-in_err-all-clause-fault g c =
    let def = c.args.definition.now in
    let note = c.args.note.now in
    let tree = tree_in note in
    let path = c.args.path.now in
    let new = c.args.new.now in
    let made = c.in_ok-made.made in
    let P : Result Fragment TreeFault → Type 0 = λ r. IfOk r (IsReplaced tree path new) in
    let told : P c.replace-changed.result =
    subst (λ t. IfOk c.replace-changed.result (IsReplaced t path new)) c.tree.ensures c.replace-changed.ensures.ok in
    let is : IsReplaced tree path new made = subst P c.in_ok-made.ensures.ok told in
    passed (IsNoteFault def (replaced_at path new tree)) _ c.in_err-all.field-0.0 c.from_residual-in_err-all.ensures.1
    (subst (λ x. IsNoteFault def x c.in_err-all.field-0.0) is.1 c.in_err-all.ensures.fault)

pub returns-clause-note : goal.returns-clause-note
returns-clause-note g c =
    let def = c.args.definition.now in
    let note = c.args.note.now in
    let tree = tree_in note in
    let path = c.args.path.now in
    let new = c.args.new.now in
    let made = c.in_ok-made.made in
    let P : Result Fragment TreeFault → Type 0 = λ r. IfOk r (IsReplaced tree path new) in
    let told : P c.replace-changed.result =
    subst (λ t. IfOk c.replace-changed.result (IsReplaced t path new)) c.tree.ensures c.replace-changed.ensures.ok in
    let is : IsReplaced tree path new made = subst P c.in_ok-made.ensures.ok told in
    subst (λ x. IsNoteOf def x c.in_ok-all.all) is.1 c.in_ok-all.ensures.note

pub returns-in_err-all-clause-ticks : goal.returns-in_err-all-clause-ticks
returns-in_err-all-clause-ticks g c =
    let def = c.args.definition.now in
    let note = c.args.note.now in
    let tree = tree_in note in
    let path = c.args.path.now in
    let new = c.args.new.now in
    let made = c.in_ok-made.made in
    let P : Result Fragment TreeFault → Type 0 = λ r. IfOk r (IsReplaced tree path new) in
    let told : P c.replace-changed.result =
    subst (λ t. IfOk c.replace-changed.result (IsReplaced t path new)) c.tree.ensures c.replace-changed.ensures.ok in
    let is : IsReplaced tree path new made = subst P c.in_ok-made.ensures.ok told in
    let same = ap (diff_of tree) is.1 in
    omega (arith, same, c.exchanged.ensures.ticks)

pub returns-clause-ticks : goal.returns-clause-ticks
returns-clause-ticks g c =
    let def = c.args.definition.now in
    let note = c.args.note.now in
    let tree = tree_in note in
    let path = c.args.path.now in
    let new = c.args.new.now in
    let made = c.in_ok-made.made in
    let P : Result Fragment TreeFault → Type 0 = λ r. IfOk r (IsReplaced tree path new) in
    let told : P c.replace-changed.result =
    subst (λ t. IfOk c.replace-changed.result (IsReplaced t path new)) c.tree.ensures c.replace-changed.ensures.ok in
    let is : IsReplaced tree path new made = subst P c.in_ok-made.ensures.ok told in
    let same = ap (diff_of tree) is.1 in
    omega (arith, same, c.exchanged.ensures.ticks)

pub returns-clause-good : goal.returns-clause-good
returns-clause-good g c =
    let def = c.args.definition.now in
    let note = c.args.note.now in
    let tree = tree_in note in
    let path = c.args.path.now in
    let new = c.args.new.now in
    let made = c.in_ok-made.made in
    let P : Result Fragment TreeFault → Type 0 = λ r. IfOk r (IsReplaced tree path new) in
    let told : P c.replace-changed.result =
    subst (λ t. IfOk c.replace-changed.result (IsReplaced t path new)) c.tree.ensures c.replace-changed.ensures.ok in
    let is : IsReplaced tree path new made = subst P c.in_ok-made.ensures.ok told in
    noted_open def (replaced_at path new tree) c.in_ok-all.all
    (subst (λ x. IsNoteOf def x c.in_ok-all.all) is.1 c.in_ok-all.ensures.note)

pub returns-clause-completions : goal.returns-clause-completions
returns-clause-completions g c =
    let def = c.args.definition.now in
    let note = c.args.note.now in
    let tree = tree_in note in
    let path = c.args.path.now in
    let new = c.args.new.now in
    let made = c.in_ok-made.made in
    let P : Result Fragment TreeFault → Type 0 = λ r. IfOk r (IsReplaced tree path new) in
    let told : P c.replace-changed.result =
    subst (λ t. IfOk c.replace-changed.result (IsReplaced t path new)) c.tree.ensures c.replace-changed.ensures.ok in
    let is : IsReplaced tree path new made = subst P c.in_ok-made.ensures.ok told in
    noted_completable def c.requires.sound (replaced_at path new tree) c.in_ok-all.all
    (subst (λ x. IsNoteOf def x c.in_ok-all.all) is.1 c.in_ok-all.ensures.note)

pub tree_of-requires : goal.tree_of-requires
tree_of-requires g c =
    let tree = tree_in c.args.note.now in
    let path = c.args.path.now in
    let new = c.args.new.now in
    memory_put c.args.definition.now path tree new c.requires.place c.replace-changed.result
    (subst (λ t. IfErr c.replace-changed.result (IsReplaceFault t path)) c.tree.ensures c.replace-changed.ensures.err)
