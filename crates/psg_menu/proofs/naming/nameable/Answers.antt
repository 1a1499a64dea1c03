use Rattle.std.proofs.Common.{rules, ◌≡◌, ◌∷◌, [], ◌<◌, Bool, true, false, ℕ, List, get_or, length, sym, subst, arith}
use Rattle.std.specs.Prelude.{Ok, Err}
use Rattle.psg_terms.specs.Names.{Name}
use Rattle.psg_grammar.specs.Open.{IsOpen}
use Rattle.psg_eval.specs.Frames.{rungs}
use Rattle.psg_menu.specs.declared.entries.Entry.{Entry}
use Rattle.psg_menu.specs.Answers.{IsNamesAnswer}
use Rattle.psg_menu.specs.Sharing.{rises_of}
use Rattle.psg_menu.specs.Trials.{IsTried}
use Rattle.psg_menu.proofs.Levels.{place_within, placed_length}
use Rattle.psg_menu.proofs.NameLaws.{names_empty, names_none, names_passed, names_taken, names_whole}
use Rattle.psg_menu.proofs.StarLaws.{candidate_tried, opens_at, star_ticks, whole_fault}
use Rattle.psg_menu.proofs.naming.nameable.Goals as goal

pub returns-then-is_empty-clause-open : goal.returns-then-is_empty-clause-open
returns-then-is_empty-clause-open g c =
    names_empty c.args.definition.now c.args.frames.now c.args.op c.args.candidates.now c.new-found.result.items (sym c.if-is_empty.ensures) c.new-found.ensures.items

pub returns-in_err-level-clause-open : goal.returns-in_err-level-clause-open
returns-in_err-level-clause-open g c = λ f path k stand.
    let def = c.args.definition.now in
    let around = c.args.frames.now in
    let (op, found, one, blanks, can) = c.requires.operator in
    let fault = c.in_err-level.field-0.0 in
    let d : c.from_residual.result ≡ Err fault = search rules in
    subst (IsNamesAnswer def (IsOpen def) f path k c.args.op c.args.candidates.now) (sym d)
    (whole_fault def around c.args.op op found c.args.below.now blanks c.requires.sound c.args.candidates.now fault one c.requires.names c.in_err-level.ensures.level f path k stand)

pub returns-in_err-level-clause-ticks : goal.returns-in_err-level-clause-ticks
returns-in_err-level-clause-ticks g c =
    let most = star_ticks (length c.args.candidates.now) (rungs c.args.frames.now) (sym c.if-is_empty.ensures) in
    omega (arith, most, c.climbed.ensures.ticks)

pub loop-place-init : goal.loop-place-init
loop-place-init g c = names_none c.args.definition.now c.args.frames.now c.args.op c.args.candidates.now c.new-found.result.items c.new-found.ensures.items

pub bounds-places-place : goal.bounds-places-place
bounds-places-place g c =
    let (star, top, apart, is) = c.in_ok-level.ensures.level in
    let within : c.loop-place.place < length c.args.candidates.now = search rules in
    let many = placed_length c.args.definition.now c.args.op c.args.below.now star (rises_of c.args.frames.now) c.in_ok-level.level.entries.items c.args.candidates.now c.in_ok-level.level.places.items is.placed in
    subst (λ (ks : List ℕ). c.loop-place.place < length ks) (sym c.as_slice-places.ensures.value) (omega (arith, within, many))

pub is_open-good-requires : goal.is_open-good-requires
is_open-good-requires g c =
    let (star, top, apart, is) = c.in_ok-level.ensures.level in
    let within : c.loop-place.place < length c.args.candidates.now = search rules in
    record {
      place = subst (λ (ks : List ℕ). get_or ks c.loop-place.place 0 < length c.as_slice-entries.result.now) (sym c.as_slice-places.ensures.value)
          (subst (λ (es : List Entry). get_or c.in_ok-level.level.places.items c.loop-place.place 0 < length es) (sym c.as_slice-entries.ensures.value)
          (place_within c.args.definition.now c.args.op c.args.below.now star (rises_of c.args.frames.now) c.in_ok-level.level.entries.items c.args.candidates.now c.in_ok-level.level.places.items c.loop-place.place within is.placed));
    }

pub loop-place-preserved-then-not-good : goal.loop-place-preserved-then-not-good
loop-place-preserved-then-not-good g c =
    let def = c.args.definition.now in
    let around = c.args.frames.now in
    let (op, found, one, blanks, can) = c.requires.operator in
    let (star, top, apart, is) = c.in_ok-level.ensures.level in
    let level = c.in_ok-level.level in
    let i = c.loop-place.place in
    let within : i < length c.args.candidates.now = search rules in
    let n : Name = c.index-candidates-place.result in
    let at = c.index-candidates-place.is in
    let bad : c.is_open-good.result ≡ false = search rules in
    let tells = opens_at level i c.is_open-good.result c.as_slice-entries.result.now c.as_slice-places.result.now c.as_slice-entries.ensures.value c.as_slice-places.ensures.value c.is_open-good.ensures in
    let tried = candidate_tried def around c.args.op op found c.args.below.now blanks c.requires.sound c.args.candidates.now star top level i n c.is_open-good.result apart is within at tells in
    names_passed def around c.args.op op found one c.args.candidates.now i n within at c.requires.names c.loop-place.found.items c.loop-place.invariant
    (subst (λ (b : Bool). IsTried def around c.args.op (n ∷ []) (Ok b)) bad tried)

pub loop-place-preserved : goal.loop-place-preserved
loop-place-preserved g c =
    let def = c.args.definition.now in
    let around = c.args.frames.now in
    let (op, found, one, blanks, can) = c.requires.operator in
    let (star, top, apart, is) = c.in_ok-level.ensures.level in
    let level = c.in_ok-level.level in
    let i = c.loop-place.place in
    let within : i < length c.args.candidates.now = search rules in
    let n : Name = c.index-candidates-place.result in
    let at = c.index-candidates-place.is in
    let good : c.is_open-good.result ≡ true = search rules in
    let tells = opens_at level i c.is_open-good.result c.as_slice-entries.result.now c.as_slice-places.result.now c.as_slice-entries.ensures.value c.as_slice-places.ensures.value c.is_open-good.ensures in
    let tried = candidate_tried def around c.args.op op found c.args.below.now blanks c.requires.sound c.args.candidates.now star top level i n c.is_open-good.result apart is within at tells in
    names_taken def around c.args.op op found one c.args.candidates.now i n within at c.requires.names c.loop-place.found.items c.push.new.self.items c.in_ok-copy.copy
    c.loop-place.invariant (subst (λ (b : Bool). IsTried def around c.args.op (n ∷ []) (Ok b)) good tried) c.in_ok-copy.ensures c.in_ok-push.ensures.items

pub returns-clause-open : goal.returns-clause-open
returns-clause-open g c =
    let end : c.loop-place.place ≡ length c.args.candidates.now = search rules in
    names_whole c.args.definition.now c.args.frames.now c.args.op c.args.candidates.now c.loop-place.found.items c.loop-place.place end c.loop-place.invariant

pub returns-clause-ticks : goal.returns-clause-ticks
returns-clause-ticks g c =
    let most = star_ticks (length c.args.candidates.now) (rungs c.args.frames.now) (sym c.if-is_empty.ensures) in
    omega (arith, most, c.climbed.ensures.ticks)
