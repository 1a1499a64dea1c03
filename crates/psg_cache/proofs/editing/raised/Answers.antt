use Rattle.std.proofs.Common.{◌∙◌, ◌+◌, ◌<◌, ◌≤◌, [], ◌∷◌, ◌++◌, ap, arith, drop, get_or, length, subst, sym, take}
use Rattle.psg_grammar.specs.Steps.{steps_of}
use Rattle.psg_cache.specs.Annotated.{below_in}
use Rattle.psg_cache.specs.Changes.{IsKept}
use Rattle.psg_cache.specs.Walks.{IsStepFault}
use Rattle.psg_cache.proofs.ChangeLaws.{put_kept, put_notes, put_ticks, put_within}
use Rattle.psg_cache.proofs.Passing.{passed}
use Rattle.psg_cache.proofs.WalkLaws.{top_fault}
use Rattle.psg_cache.proofs.editing.raised.Goals as goal

pub spliced-requires : goal.spliced-requires
spliced-requires g c =
    let def = c.args.language.definition.now in
    let note = c.args.note.now in
    let made = c.args.made.now in
    let small = put_within def note c.args.number c.args.child made c.requires.put in
    let both : (c.args.number ≤ length (below_in note)) × (c.args.number + 1 ≤ length (below_in note)) =
    (omega (arith, small), omega (arith, small)) in
    subst (λ ns. (c.args.number ≤ length ns) × (c.args.number + 1 ≤ length ns)) (sym c.below-notes.ensures) both

pub remade-requires-clause-below : goal.remade-requires-clause-below
remade-requires-clause-below g c =
    let def = c.args.language.definition.now in
    let note = c.args.note.now in
    let made = c.args.made.now in
    let below = c.in_ok-below.below.items in
    let is = c.in_ok-below.ensures
    ∙ ap (λ ns. (take c.args.number ns ++ c.args.child ∷ []) ++ drop (c.args.number + 1) ns) c.below-notes.ensures in
    put_notes def note c.args.number c.args.child made below c.requires.put is

pub remade-requires-clause-kept : goal.remade-requires-clause-kept
remade-requires-clause-kept g c =
    let def = c.args.language.definition.now in
    let note = c.args.note.now in
    let made = c.args.made.now in
    let below = c.in_ok-below.below.items in
    let is = c.in_ok-below.ensures
    ∙ ap (λ ns. (take c.args.number ns ++ c.args.child ∷ []) ++ drop (c.args.number + 1) ns) c.below-notes.ensures in
    subst (λ k. IsKept def note k c.first_changed-front.result c.first_changed-front.result made below)
    (sym c.saturating_sub-same.ensures)
    (put_kept def note c.args.number c.first_changed-front.result c.args.child c.index-notes-place.result made below
    c.requires.put is
    (c.index-notes-place.is ∙ ap (λ ns. get_or ns c.args.number c.index-notes-place.result) c.below-notes.ensures)
    c.first_changed-front.ensures)

pub returns-in_err-all-clause-err : goal.returns-in_err-all-clause-err
returns-in_err-all-clause-err g c =
    let def = c.args.language.definition.now in
    let note = c.args.note.now in
    let made = c.args.made.now in
    let path = c.args.path.now in
    let below = c.in_ok-below.below.items in
    let is = c.in_ok-below.ensures
    ∙ ap (λ ns. (take c.args.number ns ++ c.args.child ∷ []) ++ drop (c.args.number + 1) ns) c.below-notes.ensures in
    passed (IsStepFault def (steps_of def path made)) _ c.in_err-all.field-0.0
    c.from_residual-in_err-all.ensures.1
    (top_fault def path made c.requires.put.formed below c.in_err-all.field-0.0
    (put_notes def note c.args.number c.args.child made below c.requires.put is) c.in_err-all.ensures.err)

pub returns-in_err-all-clause-bounded : goal.returns-in_err-all-clause-bounded
returns-in_err-all-clause-bounded g c =
    let def = c.args.language.definition.now in
    let note = c.args.note.now in
    let made = c.args.made.now in
    let ticks = put_ticks def note c.args.number c.first_changed-front.result c.args.child c.index-notes-place.result made
    c.requires.put c.first_changed-front.ensures in
    omega (arith, ticks, c.remade.ensures.bounded)

pub returns-clause-bounded : goal.returns-clause-bounded
returns-clause-bounded g c =
    let def = c.args.language.definition.now in
    let note = c.args.note.now in
    let made = c.args.made.now in
    let ticks = put_ticks def note c.args.number c.first_changed-front.result c.args.child c.index-notes-place.result made
    c.requires.put c.first_changed-front.ensures in
    omega (arith, ticks, c.remade.ensures.bounded)

pub bounds-notes-place : goal.bounds-notes-place
bounds-notes-place g c =
    let small = put_within c.args.language.definition.now c.args.note.now c.args.number c.args.child c.args.made.now
    c.requires.put in
    subst (λ ns. c.args.number < length ns) (sym c.below-notes.ensures) small
