use Rattle.std.proofs.Common.{◌≡◌, ◌∙◌, ◌<◌, ap, arith, get_or, length, subst, sym}
use Rattle.psg_grammar.specs.Steps.{steps_of}
use Rattle.psg_cache.specs.Walks.{IsStepFault}
use Rattle.psg_cache.proofs.ChangeLaws.{shorter, split_path, step_climb, step_fault, step_made, step_place, step_put, step_within}
use Rattle.psg_cache.proofs.Passing.{passed}
use Rattle.psg_cache.proofs.editing.+changed.Goals as goal

pub bounds-notes-number : goal.bounds-notes-number
bounds-notes-number g t c =
    let k = c.head-number.result in
    let is = split_path c.args.left.now k c.tail-rest.result.now c.head-number.ensures c.tail-rest.ensures in
    let small = step_within c.args.language.definition.now c.args.note.now k c.args.left.now c.tail-rest.result.now
    c.args.edit.now c.args.made.now is c.requires.place in
    subst (λ ns. k < length ns) (sym c.below-notes.ensures) small

pub changed-requires : goal.changed-requires
changed-requires g t c κs within =
    let k = c.head-number.result in
    let rest = c.tail-rest.result.now in
    let def = c.args.language.definition.now in
    let old = c.index-notes-number.result in
    let is = split_path c.args.left.now k rest c.head-number.ensures c.tail-rest.ensures in
    let small = step_within def c.args.note.now k c.args.left.now rest c.args.edit.now c.args.made.now is
    c.requires.place in
    let place = step_place def c.args.note.now k c.args.left.now rest c.args.edit.now c.args.made.now old
    c.child_of-inner.result.now is c.requires.place small
    (c.index-notes-number.is ∙ ap (λ ns. get_or ns k old) c.below-notes.ensures) c.child_of-inner.ensures in
    let fewer = shorter c.args.left.now k rest is in
    let d : length c.args.left.now ≡ t = c.decreases in
    (omega (arith, fewer, d), (within, (c.requires.language, place)))

pub returns-in_err-child-clause-bounded : goal.returns-in_err-child-clause-bounded
returns-in_err-child-clause-bounded g t c =
    let k = c.head-number.result in
    let rest = c.tail-rest.result.now in
    let def = c.args.language.definition.now in
    let old = c.index-notes-number.result in
    let is = split_path c.args.left.now k rest c.head-number.ensures c.tail-rest.ensures in
    let small = step_within def c.args.note.now k c.args.left.now rest c.args.edit.now c.args.made.now is
    c.requires.place in
    let climb = step_climb def c.args.note.now k c.args.left.now rest c.args.edit.now c.args.made.now old is
    c.requires.place small (c.index-notes-number.is ∙ ap (λ ns. get_or ns k old) c.below-notes.ensures) in
    omega (arith, climb, c.changed.ensures.bounded)

pub returns-in_err-child-clause-err : goal.returns-in_err-child-clause-err
returns-in_err-child-clause-err g t c =
    let k = c.head-number.result in
    let rest = c.tail-rest.result.now in
    let def = c.args.language.definition.now in
    let path = c.args.path.now in
    let made = c.args.made.now in
    let inner = c.child_of-inner.result.now in
    let old = c.index-notes-number.result in
    let is = split_path c.args.left.now k rest c.head-number.ensures c.tail-rest.ensures in
    let small = step_within def c.args.note.now k c.args.left.now rest c.args.edit.now made is c.requires.place in
    passed (IsStepFault def (steps_of def path made)) _ c.in_err-child.field-0.0
    c.from_residual-in_err-child.ensures.1
    (step_fault def path c.in_ok-place.place.items c.args.note.now k c.args.left.now rest c.args.edit.now made old inner
    c.in_err-child.field-0.0 is c.requires.place small
    (c.index-notes-number.is ∙ ap (λ ns. get_or ns k old) c.below-notes.ensures) c.child_of-inner.ensures
    c.in_ok-place.ensures
    (subst (λ q. IsStepFault def (steps_of def q inner) c.in_err-child.field-0.0) c.as_slice.ensures.value
    c.in_err-child.ensures.err))

pub raised-requires-clause-put : goal.raised-requires-clause-put
raised-requires-clause-put g t c =
    let k = c.head-number.result in
    let rest = c.tail-rest.result.now in
    let def = c.args.language.definition.now in
    let old = c.index-notes-number.result in
    let is = split_path c.args.left.now k rest c.head-number.ensures c.tail-rest.ensures in
    let small = step_within def c.args.note.now k c.args.left.now rest c.args.edit.now c.args.made.now is
    c.requires.place in
    step_put def c.args.note.now k c.args.left.now rest c.args.edit.now c.args.made.now old c.child_of-inner.result.now
    c.in_ok-child.child is c.requires.place small
    (c.index-notes-number.is ∙ ap (λ ns. get_or ns k old) c.below-notes.ensures) c.child_of-inner.ensures
    c.in_ok-child.ensures.ok

pub returns-in_err-all-clause-bounded : goal.returns-in_err-all-clause-bounded
returns-in_err-all-clause-bounded g t c =
    let k = c.head-number.result in
    let rest = c.tail-rest.result.now in
    let def = c.args.language.definition.now in
    let old = c.index-notes-number.result in
    let is = split_path c.args.left.now k rest c.head-number.ensures c.tail-rest.ensures in
    let small = step_within def c.args.note.now k c.args.left.now rest c.args.edit.now c.args.made.now is
    c.requires.place in
    let climb = step_climb def c.args.note.now k c.args.left.now rest c.args.edit.now c.args.made.now old is
    c.requires.place small (c.index-notes-number.is ∙ ap (λ ns. get_or ns k old) c.below-notes.ensures) in
    omega (arith, climb, c.changed.ensures.bounded, c.raised.ensures.bounded)

pub returns-clause-bounded : goal.returns-clause-bounded
returns-clause-bounded g t c =
    let k = c.head-number.result in
    let rest = c.tail-rest.result.now in
    let def = c.args.language.definition.now in
    let old = c.index-notes-number.result in
    let is = split_path c.args.left.now k rest c.head-number.ensures c.tail-rest.ensures in
    let small = step_within def c.args.note.now k c.args.left.now rest c.args.edit.now c.args.made.now is
    c.requires.place in
    let climb = step_climb def c.args.note.now k c.args.left.now rest c.args.edit.now c.args.made.now old is
    c.requires.place small (c.index-notes-number.is ∙ ap (λ ns. get_or ns k old) c.below-notes.ensures) in
    omega (arith, climb, c.changed.ensures.bounded, c.raised.ensures.bounded)

pub child_of-inner-requires : goal.child_of-inner-requires
child_of-inner-requires g t c =
    let k = c.head-number.result in
    let rest = c.tail-rest.result.now in
    let is = split_path c.args.left.now k rest c.head-number.ensures c.tail-rest.ensures in
    step_made c.args.language.definition.now c.args.note.now k c.args.left.now rest c.args.edit.now c.args.made.now is
    c.requires.place
