use Rattle.std.proofs.Common.{◌≡◌, arith, subst, sym}
use Rattle.psg_grammar.specs.Steps.{steps_of}
use Rattle.psg_cache.specs.Annotated.{tree_in}
use Rattle.psg_cache.specs.Notes.{IsNoteFault, IsNoteOf}
use Rattle.psg_cache.specs.Walks.{IsStepFault}
use Rattle.psg_cache.proofs.ExchangeLaws.{exchange_fault, exchange_least, exchange_old, exchange_put, exchange_same, exchange_there, exchange_whole, none_equal, some_noted}
use Rattle.psg_cache.proofs.Passing.{passed}
use Rattle.psg_cache.proofs.WalkLaws.{fault_noted, size_fault}
use Rattle.psg_cache.proofs.editing.exchanged.Goals as goal

pub returns-in_err-small-clause-fault : goal.returns-in_err-small-clause-fault
returns-in_err-small-clause-fault g c =
    let def = c.args.language.definition.now in
    let made = c.args.made.now in
    passed (IsNoteFault def made) _ c.in_err-small.field-0.0 c.from_residual.ensures.1
    (size_fault def made c.in_err-small.field-0.0 c.in_err-small.ensures.err)

pub there-old-requires : goal.there-old-requires
there-old-requires g c =
    exchange_there c.args.language.definition.now c.args.note.now c.args.path.now c.args.new.now c.args.made.now
    c.requires.place

pub renoted-requires-clause-noted : goal.renoted-requires-clause-noted
renoted-requires-clause-noted g c =
    (exchange_old c.args.language.definition.now c.args.note.now c.args.path.now c.args.new.now c.args.made.now
    c.requires.place c.there-old.result.now c.there-old.ensures).1

pub renoted-requires-clause-formed_old : goal.renoted-requires-clause-formed_old
renoted-requires-clause-formed_old g c =
    (exchange_old c.args.language.definition.now c.args.note.now c.args.path.now c.args.new.now c.args.made.now
    c.requires.place c.there-old.result.now c.there-old.ensures).2

pub returns-in_err-inner-clause-ticks : goal.returns-in_err-inner-clause-ticks
returns-in_err-inner-clause-ticks g c =
    let least = exchange_least c.args.language.definition.now c.args.note.now c.args.path.now c.args.new.now
    c.args.made.now c.requires.place c.there-old.result.now c.there-old.ensures in
    omega (arith, least, c.renoted.ensures.bounded)

pub returns-in_err-inner-clause-fault : goal.returns-in_err-inner-clause-fault
returns-in_err-inner-clause-fault g c =
    let def = c.args.language.definition.now in
    let made = c.args.made.now in
    let small = c.in_ok-small.ensures.ok in
    passed (IsNoteFault def made) _ c.in_err-inner.field-0.0 c.from_residual-in_err-inner.ensures.1
    (fault_noted def made c.in_err-inner.field-0.0 small.0 small.1
    (exchange_fault def c.args.note.now c.args.path.now c.args.new.now made c.requires.place c.in_err-inner.field-0.0
    (subst (λ q. IsStepFault def (steps_of def q c.args.new.now) c.in_err-inner.field-0.0) c.steps.ensures
    c.in_err-inner.ensures.err)))

pub returns-in_err-same-clause-ticks : goal.returns-in_err-same-clause-ticks
returns-in_err-same-clause-ticks g c =
    let def = c.args.language.definition.now in
    let note = c.args.note.now in
    let path = c.args.path.now in
    let new = c.args.new.now in
    let made = c.args.made.now in
    let least = exchange_least def note path new made c.requires.place c.there-old.result.now c.there-old.ensures in
    omega (arith, least, c.renoted.ensures.bounded)

pub returns-in_default-clause-ticks : goal.returns-in_default-clause-ticks
returns-in_default-clause-ticks g c =
    let def = c.args.language.definition.now in
    let note = c.args.note.now in
    let path = c.args.path.now in
    let new = c.args.new.now in
    let made = c.args.made.now in
    let least = exchange_least def note path new made c.requires.place c.there-old.result.now c.there-old.ensures in
    omega (arith, least, c.renoted.ensures.bounded)

pub returns-in_default-clause-note : goal.returns-in_default-clause-note
returns-in_default-clause-note g c =
    let def = c.args.language.definition.now in
    let note = c.args.note.now in
    let path = c.args.path.now in
    let new = c.args.new.now in
    let made = c.args.made.now in
    let equal : tree_in c.there-old.result.now ≡ new =
    none_equal def (tree_in c.there-old.result.now) new c.in_ok-inner.inner c.in_default.not-Some c.in_ok-inner.ensures.ok in
    subst (IsNoteOf def made) (sym c.in_ok-same.ensures)
    (exchange_same def note path new made c.requires.place c.there-old.result.now c.there-old.ensures equal)

pub climbed-requires-clause-place : goal.climbed-requires-clause-place
climbed-requires-clause-place g c =
    let def = c.args.language.definition.now in
    let note = c.args.note.now in
    let path = c.args.path.now in
    let new = c.args.new.now in
    let made = c.args.made.now in
    exchange_put def note path new made c.requires.place c.in-Some.child
    (some_noted def (tree_in c.there-old.result.now) new c.in_ok-inner.inner c.in-Some.child c.in-Some.is
    c.in_ok-inner.ensures.ok).1

pub returns-in_err-all-clause-ticks : goal.returns-in_err-all-clause-ticks
returns-in_err-all-clause-ticks g c =
    let def = c.args.language.definition.now in
    let note = c.args.note.now in
    let path = c.args.path.now in
    let new = c.args.new.now in
    let made = c.args.made.now in
    let some = some_noted def (tree_in c.there-old.result.now) new c.in_ok-inner.inner c.in-Some.child c.in-Some.is
    c.in_ok-inner.ensures.ok in
    let whole = exchange_whole def note path new made c.requires.place c.there-old.result.now c.there-old.ensures some.0 in
    omega (arith, whole, c.renoted.ensures.bounded, c.climbed.ensures.ticks)

pub returns-clause-ticks : goal.returns-clause-ticks
returns-clause-ticks g c =
    let def = c.args.language.definition.now in
    let note = c.args.note.now in
    let path = c.args.path.now in
    let new = c.args.new.now in
    let made = c.args.made.now in
    let some = some_noted def (tree_in c.there-old.result.now) new c.in_ok-inner.inner c.in-Some.child c.in-Some.is
    c.in_ok-inner.ensures.ok in
    let whole = exchange_whole def note path new made c.requires.place c.there-old.result.now c.there-old.ensures some.0 in
    omega (arith, whole, c.renoted.ensures.bounded, c.climbed.ensures.ticks)
