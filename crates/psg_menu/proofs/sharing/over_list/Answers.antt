use Rattle.std.proofs.Common.{rules, ◌≡◌, ◌+◌, ◌++◌, ◌∷◌, [], length, sym, subst, arith}
use Rattle.std.proofs.lemmas.List.{append-nil}
use Rattle.std.specs.Prelude.{Err}
use Rattle.psg_grammar.specs.declared.types.Kind.TheVariants as kinds
use Rattle.psg_menu.specs.Sharing.{IsLevelAnswer, rises_in}
use Rattle.psg_menu.proofs.Climbing.{all_taken, element_fault, first_fault, in_list, split_next, taken_rises, takes_element, takes_first, times_next, times_same}
use Rattle.psg_menu.proofs.sharing.over_list.Goals as goal

pub over_rung-requires-clause-level : goal.over_rung-requires-clause-level
over_rung-requires-clause-level g c =
    let (o, below, done, kind, apart, can, is) = c.requires.level in
    (o, below, done, kind, kinds.List c.args.list, apart, takes_first c.args.definition.now c.args.list c.args.before.now c.args.rest.now kind (kinds.List c.args.list) can, is)

pub returns-in_err-first-clause-level : goal.returns-in_err-first-clause-level
returns-in_err-first-clause-level g c = λ o below done kind apart can is.
    let def = c.args.definition.now in
    let list = c.args.list in
    let up = kinds.List list in
    let fault = c.in_err-first.field-0.0 in
    let d : c.from_residual.result ≡ Err fault = search rules in
    subst (IsLevelAnswer def o below c.args.star.now c.args.candidates.now (rises_in (in_list def list c.args.before.now c.args.rest.now) ++ done) up) (sym d)
    (first_fault def list c.args.before.now c.args.rest.now o below c.args.star.now c.args.candidates.now done up fault
    (c.in_err-first.ensures.level o below done kind up apart (takes_first def list c.args.before.now c.args.rest.now kind up can) is))

pub loop-element-init : goal.loop-element-init
loop-element-init g c =
    let def = c.args.definition.now in
    let list = c.args.list in
    let up = kinds.List list in
    let more = times_next (length c.args.candidates.now) (length c.args.before.now) in
    record {
      level = λ o below done kind apart can is.
          record {
            taken = [];
            split = sym (append-nil c.args.before.now);
            is = c.in_ok-first.ensures.level o below done kind up apart (takes_first def list c.args.before.now c.args.rest.now kind up can) is;
          };
      counted = omega (arith, more, c.over_rung.ensures.ticks);
    }

pub over_rung-requires-in-Some-clause-level : goal.over_rung-requires-in-Some-clause-level
over_rung-requires-in-Some-clause-level g c =
    let def = c.args.definition.now in
    let list = c.args.list in
    let up = kinds.List list in
    let (o, below, done, kind, apart, can, is) = c.requires.level in
    let h = c.loop-element.invariant.level o below done kind apart can is in
    let split = split_next def list c.args.before.now c.args.rest.now c.loop-element.left.now c.in-Some.front.now h.taken c.in-Some.element.now c.in-Some.ensures.cases.0 h.split in (
      o,
      below,
      taken_rises def list c.args.before.now c.args.rest.now h.taken done,
      up,
      up,
      apart,
      takes_element def list c.args.before.now c.args.rest.now kind c.in-Some.front.now h.taken c.in-Some.element.now split is.some can,
      h.is,
    )

pub returns-in_err-next-clause-level : goal.returns-in_err-next-clause-level
returns-in_err-next-clause-level g c = λ o below done kind apart can is.
    let def = c.args.definition.now in
    let list = c.args.list in
    let before = c.args.before.now in
    let rest = c.args.rest.now in
    let element = c.in-Some.element.now in
    let front = c.in-Some.front.now in
    let up = kinds.List list in
    let h = c.loop-element.invariant.level o below done kind apart can is in
    let split = split_next def list before rest c.loop-element.left.now front h.taken element c.in-Some.ensures.cases.0 h.split in
    let fault = c.in_err-next.field-0.0 in
    let d : c.from_residual-in_err-next.result ≡ Err fault = search rules in
    subst (IsLevelAnswer def o below c.args.star.now c.args.candidates.now (rises_in (in_list def list before rest) ++ done) up) (sym d)
    (element_fault def list before rest o below c.args.star.now c.args.candidates.now done up fault front h.taken element split
    (c.in_err-next.ensures.level o below (taken_rises def list before rest h.taken done) up up apart
    (takes_element def list before rest kind front h.taken element split is.some can) h.is))

pub loop-element-preserved : goal.loop-element-preserved
loop-element-preserved g c =
    let def = c.args.definition.now in
    let list = c.args.list in
    let before = c.args.before.now in
    let rest = c.args.rest.now in
    let element = c.in-Some.element.now in
    let front = c.in-Some.front.now in
    let up = kinds.List list in
    let fewer = c.in-Some.ensures.cases.1 in
    let more = times_next (length c.args.candidates.now) (length front) in
    let same = times_same (length c.args.candidates.now) (length c.loop-element.left.now) (length front + 1) (sym fewer) in
    record {
      level = λ o below done kind apart can is.
          let h = c.loop-element.invariant.level o below done kind apart can is in
          let split = split_next def list before rest c.loop-element.left.now front h.taken element c.in-Some.ensures.cases.0 h.split in
          record {
            taken = element ∷ h.taken;
            split = split;
            is = c.in_ok-next.ensures.level o below (taken_rises def list before rest h.taken done) up up apart
                (takes_element def list before rest kind front h.taken element split is.some can) h.is;
          };
      counted = omega (arith, more, same, c.over_rung-in-Some.ensures.ticks, c.loop-element.invariant.counted);
    }

pub returns-in_err-next-clause-ticks : goal.returns-in_err-next-clause-ticks
returns-in_err-next-clause-ticks g c =
    let fewer = c.in-Some.ensures.cases.1 in
    let more = times_next (length c.args.candidates.now) (length c.in-Some.front.now) in
    let same = times_same (length c.args.candidates.now) (length c.loop-element.left.now) (length c.in-Some.front.now + 1) (sym fewer) in
    omega (arith, more, same, c.over_rung-in-Some.ensures.ticks, c.loop-element.invariant.counted)

pub returns-in_err-first-clause-ticks : goal.returns-in_err-first-clause-ticks
returns-in_err-first-clause-ticks g c =
    let more = times_next (length c.args.candidates.now) (length c.args.before.now) in
    omega (arith, more, c.over_rung.ensures.ticks)

pub returns-clause-level : goal.returns-clause-level
returns-clause-level g c = λ o below done kind apart can is.
    let none : length c.loop-element.left.now ≡ 0 = search rules in
    all_taken c.args.definition.now c.args.list c.args.before.now c.args.rest.now o below c.args.star.now c.args.candidates.now done c.loop-element.left.now c.loop-element.whole none
    (c.loop-element.invariant.level o below done kind apart can is)

pub returns-clause-ticks : goal.returns-clause-ticks
returns-clause-ticks g c = omega (arith, c.loop-element.invariant.counted)
