use Rattle.std.proofs.Common.{ℕ, ◌≡◌, List, length, slice_get, refl, sym, ap, subst, ◌∙◌, arith}
use Rattle.psg_terms.proofs.Lists.{slice_get_item}
use Rattle.psg_grammar.proofs.SoundParts.{items_in}
use Rattle.psg_specimen.specs.Conditions.{IsQuiet, slot_kinds}
use Rattle.psg_specimen.specs.Tables.{AreKinds, AreTables}
use Rattle.psg_covering.proofs.Firsts.{At, more, all}
use Rattle.psg_specimen.proofs.QuietLaws.{AllQuiet, kinds_there, loud_first, quiet_slots, tables_of}
use Rattle.psg_grammar.specs.declared.types.Kind.{Kind}
use Rattle.psg_grammar.specs.declared.types.Operator.{Operator}
use Rattle.psg_specimen.proofs.forms.first_declaring.Goals as goal

pub first_loud-requires-clause-tables : goal.first_loud-requires-clause-tables
first_loud-requires-clause-tables c =
    subst (AreTables c.args.definition.now) (sym c.as_slice-in-loop-number.ensures.value)
    (tables_of c.args.definition.now c.in_ok-spaces.spaces.items (sym c.in_ok-spaces.spaces.ok.0 ∙ c.in_ok-spaces.ensures.one_each) c.in_ok-spaces.ensures.exact c.in_ok-spaces.ensures.search)

pub first_loud-requires-clause-kinds : goal.first_loud-requires-clause-kinds
first_loud-requires-clause-kinds c =
    let def = c.args.definition.now in
    let ops = c.as_slice-operators.result.now in
    let op = c.index-operators-number.result in
    let at = ap (λ l. slice_get l c.loop-number.number) (sym c.as_slice-operators.ensures) ∙ slice_get_item ops c.loop-number.number op c.loop-number-test.true c.index-operators-number.is in
    subst (AreKinds def) (sym (c.as_slice-in-loop-number-2.ensures.value ∙ c.in_ok-slots.ensures ∙ ap slot_kinds c.as_slice.ensures ∙ ap (λ (o : Operator). slot_kinds o.items) (sym c.index-operators-number.is))) (kinds_there def op.items (items_in def c.requires c.loop-number.number op at))

pub loop-number-preserved : goal.loop-number-preserved
loop-number-preserved c =
    let op = c.index-operators-number.result in
    let same : c.as_slice-in-loop-number-2.result.now ≡ slot_kinds op.items = c.as_slice-in-loop-number-2.ensures.value ∙ c.in_ok-slots.ensures ∙ ap slot_kinds c.as_slice.ensures ∙ ap (λ (o : Operator). slot_kinds o.items) (sym c.index-operators-number.is) in
    more c.as_slice-operators.result.now (AllQuiet c.args.definition.now) c.loop-number.number op c.loop-number-test.true c.index-operators-number.is
    (subst (λ (l : List Kind). (k : ℕ) → At l (IsQuiet c.args.definition.now) k) same c.in_default.ensures) c.loop-number.invariant

pub returns-in-Some : goal.returns-in-Some
returns-in-Some c =
    let op = c.index-operators-number.result in
    let same : c.as_slice-in-loop-number-2.result.now ≡ slot_kinds op.items = c.as_slice-in-loop-number-2.ensures.value ∙ c.in_ok-slots.ensures ∙ ap slot_kinds c.as_slice.ensures ∙ ap (λ (o : Operator). slot_kinds o.items) (sym c.index-operators-number.is) in
    loud_first c.args.definition.now c.as_slice-operators.result.now c.as_slice-operators.ensures c.loop-number.number op c.loop-number-test.true c.index-operators-number.is
    c.as_slice-in-loop-number-2.result.now same c.in-Some.slot c.in-Some.ensures c.loop-number.invariant

pub returns : goal.returns
returns c =
    quiet_slots c.args.definition.now c.as_slice-operators.result.now c.as_slice-operators.ensures
    (all c.as_slice-operators.result.now (AllQuiet c.args.definition.now) (length c.as_slice-operators.result.now) refl (λ m lt. c.loop-number.invariant m (omega arith)))
