use Rattle.std.proofs.Common.{◌∙◌, ◌≤◌, [], ◌∷◌, ◌++◌, ap, arith, drop, length, subst, sym, take}
use Rattle.psg_grammar.specs.Steps.{steps_of}
use Rattle.psg_cache.specs.Annotated.{below_in}
use Rattle.psg_cache.specs.Walks.{IsStepFault}
use Rattle.psg_cache.proofs.ChangeLaws.{added_fault, added_kept, added_notes, added_ticks, added_within}
use Rattle.psg_cache.proofs.Passing.{passed}
use Rattle.psg_cache.proofs.WalkLaws.{top_fault}
use Rattle.psg_cache.proofs.editing.added.Goals as goal

pub spliced-requires : goal.spliced-requires
spliced-requires g c =
    let def = c.args.language.definition.now in
    let note = c.args.note.now in
    let made = c.args.made.now in
    let small = added_within def note c.args.place c.args.new.now made c.requires.place in
    let both : (c.args.place ≤ length (below_in note)) × (c.args.place ≤ length (below_in note)) =
    (omega (arith, small), omega (arith, small)) in
    subst (λ ns. (c.args.place ≤ length ns) × (c.args.place ≤ length ns)) (sym c.below-notes.ensures) both

pub remade-requires-clause-below : goal.remade-requires-clause-below
remade-requires-clause-below g c =
    let def = c.args.language.definition.now in
    let note = c.args.note.now in
    let made = c.args.made.now in
    let below = c.in_ok-below.below.items in
    let is = c.in_ok-below.ensures
    ∙ ap (λ ns. (take c.args.place ns ++ c.in_ok-child.child ∷ []) ++ drop (c.args.place) ns) c.below-notes.ensures in
    added_notes def note c.args.place c.args.new.now made c.in_ok-child.child below c.requires.place c.in_ok-child.ensures.ok is

pub remade-requires-clause-kept : goal.remade-requires-clause-kept
remade-requires-clause-kept g c =
    let def = c.args.language.definition.now in
    let note = c.args.note.now in
    let made = c.args.made.now in
    let below = c.in_ok-below.below.items in
    let is = c.in_ok-below.ensures
    ∙ ap (λ ns. (take c.args.place ns ++ c.in_ok-child.child ∷ []) ++ drop (c.args.place) ns) c.below-notes.ensures in
    added_kept def note c.args.place c.args.new.now made c.in_ok-child.child below c.requires.place is

pub returns-in_err-all-clause-err : goal.returns-in_err-all-clause-err
returns-in_err-all-clause-err g c =
    let def = c.args.language.definition.now in
    let note = c.args.note.now in
    let made = c.args.made.now in
    let path = c.args.path.now in
    let below = c.in_ok-below.below.items in
    let is = c.in_ok-below.ensures
    ∙ ap (λ ns. (take c.args.place ns ++ c.in_ok-child.child ∷ []) ++ drop (c.args.place) ns) c.below-notes.ensures in
    passed (IsStepFault def (steps_of def path made)) _ c.in_err-all.field-0.0
    c.from_residual-in_err-all.ensures.1
    (top_fault def path made c.requires.place.formed below c.in_err-all.field-0.0
    (added_notes def note c.args.place c.args.new.now made c.in_ok-child.child below c.requires.place c.in_ok-child.ensures.ok is) c.in_err-all.ensures.err)

pub returns-in_err-all-clause-bounded : goal.returns-in_err-all-clause-bounded
returns-in_err-all-clause-bounded g c =
    let def = c.args.language.definition.now in
    let note = c.args.note.now in
    let made = c.args.made.now in
    let ticks = added_ticks def note c.args.place c.args.new.now made c.requires.place in
    omega (arith, ticks, c.remade.ensures.bounded)

pub returns-clause-bounded : goal.returns-clause-bounded
returns-clause-bounded g c =
    let def = c.args.language.definition.now in
    let note = c.args.note.now in
    let made = c.args.made.now in
    let ticks = added_ticks def note c.args.place c.args.new.now made c.requires.place in
    omega (arith, ticks, c.remade.ensures.bounded)

pub returns-in_err-child-clause-err : goal.returns-in_err-child-clause-err
returns-in_err-child-clause-err g c =
    let def = c.args.language.definition.now in
    let note = c.args.note.now in
    let path = c.args.path.now in
    let made = c.args.made.now in
    let new = c.args.new.now in
    passed (IsStepFault def (steps_of def path made)) _ c.in_err-child.field-0.0
    c.from_residual-in_err-child.ensures.1
    (added_fault def path c.in_ok-inside.inside.items note c.args.place new made c.in_err-child.field-0.0
    c.requires.place c.in_ok-inside.ensures
    (subst (λ q. IsStepFault def (steps_of def q new) c.in_err-child.field-0.0) c.as_slice.ensures.value
    c.in_err-child.ensures.err))
