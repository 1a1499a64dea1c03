use Rattle.std.proofs.Common.{◌∙◌, ◌+◌, ◌≤◌, [], ◌++◌, ap, arith, drop, length, subst, sym, take}
use Rattle.psg_grammar.specs.Steps.{steps_of}
use Rattle.psg_cache.specs.Annotated.{below_in}
use Rattle.psg_cache.specs.Walks.{IsStepFault}
use Rattle.psg_cache.proofs.ChangeLaws.{taken_kept, taken_notes, taken_ticks, taken_within}
use Rattle.psg_cache.proofs.Passing.{passed}
use Rattle.psg_cache.proofs.WalkLaws.{top_fault}
use Rattle.psg_cache.proofs.editing.taken.Goals as goal

pub spliced-requires : goal.spliced-requires
spliced-requires g c =
    let def = c.args.language.definition.now in
    let note = c.args.note.now in
    let made = c.args.made.now in
    let small = taken_within def note c.args.place made c.requires.place in
    let both : (c.args.place ≤ length (below_in note)) × (c.args.place + 1 ≤ length (below_in note)) =
    (omega (arith, small), omega (arith, small)) in
    subst (λ ns. (c.args.place ≤ length ns) × (c.args.place + 1 ≤ length ns)) (sym c.below-notes.ensures) both

pub remade-requires-clause-below : goal.remade-requires-clause-below
remade-requires-clause-below g c =
    let def = c.args.language.definition.now in
    let note = c.args.note.now in
    let made = c.args.made.now in
    let below = c.in_ok-below.below.items in
    let is = c.in_ok-below.ensures
    ∙ ap (λ ns. (take c.args.place ns ++ []) ++ drop (c.args.place + 1) ns) c.below-notes.ensures in
    taken_notes def note c.args.place made below c.requires.place is

pub remade-requires-clause-kept : goal.remade-requires-clause-kept
remade-requires-clause-kept g c =
    let def = c.args.language.definition.now in
    let note = c.args.note.now in
    let made = c.args.made.now in
    let below = c.in_ok-below.below.items in
    let is = c.in_ok-below.ensures
    ∙ ap (λ ns. (take c.args.place ns ++ []) ++ drop (c.args.place + 1) ns) c.below-notes.ensures in
    taken_kept def note c.args.place made below c.requires.place is

pub returns-in_err-all-clause-err : goal.returns-in_err-all-clause-err
returns-in_err-all-clause-err g c =
    let def = c.args.language.definition.now in
    let note = c.args.note.now in
    let made = c.args.made.now in
    let path = c.args.path.now in
    let below = c.in_ok-below.below.items in
    let is = c.in_ok-below.ensures
    ∙ ap (λ ns. (take c.args.place ns ++ []) ++ drop (c.args.place + 1) ns) c.below-notes.ensures in
    passed (IsStepFault def (steps_of def path made)) _ c.in_err-all.field-0.0
    c.from_residual-in_err-all.ensures.1
    (top_fault def path made c.requires.place.formed below c.in_err-all.field-0.0
    (taken_notes def note c.args.place made below c.requires.place is) c.in_err-all.ensures.err)

pub returns-in_err-all-clause-bounded : goal.returns-in_err-all-clause-bounded
returns-in_err-all-clause-bounded g c =
    let def = c.args.language.definition.now in
    let note = c.args.note.now in
    let made = c.args.made.now in
    let ticks = taken_ticks def note c.args.place made c.requires.place in
    omega (arith, ticks, c.remade.ensures.bounded)

pub returns-clause-bounded : goal.returns-clause-bounded
returns-clause-bounded g c =
    let def = c.args.language.definition.now in
    let note = c.args.note.now in
    let made = c.args.made.now in
    let ticks = taken_ticks def note c.args.place made c.requires.place in
    omega (arith, ticks, c.remade.ensures.bounded)
