use Rattle.std.proofs.Common.{◌∷◌, ◌+◌, List, drop, sym, subst, arith}
use Rattle.psg_terms.proofs.Lists.{drop_there}
use Rattle.psg_grammar.specs.declared.types.Kind.{Kind}
use Rattle.psg_covering.specs.Fronts.{AllFit}
use Rattle.psg_covering.proofs.Firsts.{drop_all}
use Rattle.psg_covering.proofs.Adding.{IsLeft, left_begin, left_end, left_more}
use Rattle.psg_covering.proofs.searching.is_covered.Goals as goal

pub loop-number-init : goal.loop-number-init
loop-number-init c =
    left_begin c.args.definition.now c.args.kind c.args.slots.now c.args.row c.new-first.result.rows.items c.add_row.new.front.rows.items c.new-first.ensures
    (c.in_ok-add_row.ensures c.args.slots.now c.requires.fits)

pub next_front-requires-clause-fits : goal.next_front-requires-clause-fits
next_front-requires-clause-fits c =
    let rest = drop (c.loop-number.number + 1) c.args.slots.now in
    let here = drop_there c.args.slots.now c.loop-number.number c.slot_at-slot.result c.slot_at-slot.ensures in
    let left = subst (λ (k : List Kind). IsLeft c.args.definition.now c.args.kind c.args.slots.now c.args.row k c.loop-number.front.items) here c.loop-number.invariant in
    (rest, subst (AllFit c.args.definition.now c.args.kind (c.slot_at-slot.result ∷ rest)) (sym c.as_slice.ensures.value) left.fit)

pub loop-number-preserved : goal.loop-number-preserved
loop-number-preserved c =
    left_more c.args.definition.now c.args.kind c.args.slots.now c.args.row (drop c.loop-number.number c.args.slots.now) (drop (c.loop-number.number + 1) c.args.slots.now) c.slot_at-slot.result
    c.loop-number.front.items c.as_slice.result.now c.in_ok-front.front.items
    (drop_there c.args.slots.now c.loop-number.number c.slot_at-slot.result c.slot_at-slot.ensures) c.as_slice.ensures.value c.loop-number.invariant
    c.in_ok-front.ensures.fits c.in_ok-front.ensures.bare c.in_ok-front.ensures.covered

pub returns : goal.returns
returns c =
    left_end c.args.definition.now c.args.kind c.requires.sound c.args.slots.now (drop c.loop-number.number c.args.slots.now) c.args.row c.loop-number.front.items c.as_slice-2.result.now c.is_empty.result
    (drop_all c.args.slots.now c.loop-number.number (omega (arith, c.loop-number-test.false))) c.as_slice-2.ensures.value c.is_empty.ensures c.loop-number.invariant
