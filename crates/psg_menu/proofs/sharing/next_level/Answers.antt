use Rattle.std.proofs.Common.{rules, ◌≡◌, ◌<◌, ◌∷◌, ℕ, List, get_or, length, sym, subst, arith}
use Rattle.std.specs.Prelude.{Ok, Err}
use Rattle.std.specs.List.{AllByRecursion}
use Rattle.psg_terms.specs.Names.{Name}
use Rattle.psg_menu.specs.declared.entries.Entry.{Entry}
use Rattle.psg_menu.specs.Sharing.{IsLevelAnswer, IsMove, IsUsual, rise_of}
use Rattle.psg_menu.proofs.Levels.{all_so_far, more_so_far, none_so_far, place_within, placed_length, said_fault, said_of}
use Rattle.psg_menu.proofs.sharing.next_level.Goals as goal

pub loop-i-init : goal.loop-i-init
loop-i-init g c =
    let def = c.args.way.definition.now in
    let rise = rise_of c.args.way.rung in
    record {
      level = none_so_far def rise c.args.way.star.now c.args.candidates.now c.args.level.now c.new-entries.result.all.items c.in_ok-places.places.items c.new-entries.ensures c.in_ok-places.ensures.items;
      moves = subst (AllByRecursion (IsMove def rise c.args.level.now.entries.items c.new-entries.result.all.items)) (sym c.in_ok-moves.ensures) tt;
      counted = omega arith;
    }

pub bounds-old-i : goal.bounds-old-i
bounds-old-i g c =
    let def = c.args.way.definition.now in
    let (o, below, done, kind, up, apart, can, is) = c.requires.level in
    let within : c.loop-i.i < length c.args.candidates.now = search rules in
    let many = placed_length def o below c.args.way.star.now done c.args.level.now.entries.items c.args.candidates.now c.args.level.now.places.items is.placed in
    subst (λ (ks : List ℕ). c.loop-i.i < length ks) (sym c.as_slice-old.ensures.value) (omega (arith, within, many))

pub raised_from-requires-clause-place : goal.raised_from-requires-clause-place
raised_from-requires-clause-place g c =
    let def = c.args.way.definition.now in
    let (o, below, done, kind, up, apart, can, is) = c.requires.level in
    let within : c.loop-i.i < length c.args.candidates.now = search rules in
    subst (λ (ks : List ℕ). get_or ks c.loop-i.i 0 < length c.as_slice-below.result.now) (sym c.as_slice-old.ensures.value)
    (subst (λ (es : List Entry). get_or c.args.level.now.places.items c.loop-i.i 0 < length es) (sym c.as_slice-below.ensures.value)
    (place_within def o below c.args.way.star.now done c.args.level.now.entries.items c.args.candidates.now c.args.level.now.places.items c.loop-i.i within is.placed))

pub raised_from-requires-clause-usual : goal.raised_from-requires-clause-usual
raised_from-requires-clause-usual g c =
    let def = c.args.way.definition.now in
    let (o, below, done, kind, up, apart, can, is) = c.requires.level in (
      kind,
      up,
      can,
      subst (AllByRecursion (λ (e : Entry). IsUsual def kind e.own)) (sym c.as_slice-below.ensures.value) is.usual,
    )

pub raised_from-requires-clause-moves : goal.raised_from-requires-clause-moves
raised_from-requires-clause-moves g c =
    let def = c.args.way.definition.now in
    subst (λ (es : List Entry). AllByRecursion (IsMove def (rise_of c.args.way.rung) es c.loop-i.entries.all.items) c.loop-i.moves.all.items) (sym c.as_slice-below.ensures.value) c.loop-i.invariant.moves

pub returns-in_err-to-clause-level : goal.returns-in_err-to-clause-level
returns-in_err-to-clause-level g c = λ o below done kind up apart can is.
    let def = c.args.way.definition.now in
    let rise = rise_of c.args.way.rung in
    let star = c.args.way.star.now in
    let candidates = c.args.candidates.now in
    let level = c.args.level.now in
    let within : c.loop-i.i < length candidates = search rules in
    let n : Name = c.index-candidates-i.result in
    let fault = c.in_err-to.field-0.0 in
    let d : c.from_residual-in_err-to.result ≡ Err fault = search rules in
    subst (IsLevelAnswer def o below star candidates (rise ∷ done) up) (sym d)
    (said_fault def c.requires.sound rise star candidates level c.loop-i.i n within c.index-candidates-i.is c.raised_from.new.above.all.items fault
    (said_of def rise star candidates level c.loop-i.i n c.raised_from.new.above.all.items (Err fault) c.as_slice-below.result.now c.as_slice-old.result.now c.as_slice-below.ensures.value c.as_slice-old.ensures.value
    c.in_err-to.ensures.raised) o below done kind up apart can is)

pub returns-in_err-to-clause-ticks : goal.returns-in_err-to-clause-ticks
returns-in_err-to-clause-ticks g c =
    let within : c.loop-i.i < length c.args.candidates.now = search rules in
    omega (arith, within, c.raised_from.ensures.ticks, c.loop-i.invariant.counted)

pub returns-in_err-push-clause-ticks : goal.returns-in_err-push-clause-ticks
returns-in_err-push-clause-ticks g c =
    let within : c.loop-i.i < length c.args.candidates.now = search rules in
    omega (arith, within, c.raised_from.ensures.ticks, c.loop-i.invariant.counted)

pub loop-i-preserved : goal.loop-i-preserved
loop-i-preserved g c =
    let def = c.args.way.definition.now in
    let rise = rise_of c.args.way.rung in
    let star = c.args.way.star.now in
    let candidates = c.args.candidates.now in
    let level = c.args.level.now in
    let within : c.loop-i.i < length candidates = search rules in
    let n : Name = c.index-candidates-i.result in
    let below = c.as_slice-below.result.now in
    let whole = c.as_slice-below.ensures.value in
    record {
      level =
          more_so_far def c.requires.sound rise star candidates level c.loop-i.i n within c.index-candidates-i.is c.loop-i.entries.all.items c.raised_from.new.above.all.items c.loop-i.places.items c.push.new.self.items c.in_ok-to.to
          c.loop-i.invariant.level c.in_ok-to.ensures.others
          (λ kind up can all. c.in_ok-to.ensures.usual kind up can (subst (AllByRecursion (λ (e : Entry). IsUsual def kind e.own)) (sym whole) all))
          (said_of def rise star candidates level c.loop-i.i n c.raised_from.new.above.all.items (Ok c.in_ok-to.to) below c.as_slice-old.result.now whole c.as_slice-old.ensures.value c.in_ok-to.ensures.raised)
          c.in_ok-push.ensures.items;
      moves = subst (λ (es : List Entry). AllByRecursion (IsMove def rise es c.raised_from.new.above.all.items) c.raised_from.new.moves.all.items) whole c.in_ok-to.ensures.moves;
      counted = omega (arith, c.raised_from.ensures.ticks, c.loop-i.invariant.counted);
    }

pub returns-clause-level : goal.returns-clause-level
returns-clause-level g c = λ o below done kind up apart can is.
    let end : c.loop-i.i ≡ length c.args.candidates.now = search rules in
    all_so_far c.args.way.definition.now c.requires.sound (rise_of c.args.way.rung) c.args.way.star.now c.args.candidates.now c.args.level.now (record { entries = c.loop-i.entries.all; places = c.loop-i.places }) c.loop-i.i end
    c.loop-i.invariant.level o below done kind up apart can is

pub returns-clause-ticks : goal.returns-clause-ticks
returns-clause-ticks g c =
    let end : c.loop-i.i ≡ length c.args.candidates.now = search rules in
    omega (arith, end, c.loop-i.invariant.counted)
