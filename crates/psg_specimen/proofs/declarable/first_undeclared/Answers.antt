use Rattle.std.proofs.Common.{◌≡◌, ℕ, true, length, slice_get, sym, ap, ◌∙◌, subst, arith}
use Rattle.psg_terms.proofs.Lists.{slice_get_item}
use Rattle.std.specs.Prelude.{◌↔◌, IfSome, Vec}
use Rattle.std.specs.declared.alloc.Global.{Global}
use Rattle.psg_grammar.specs.DeclaringTables.{AreSpacesOf}
use Rattle.psg_grammar.proofs.SoundParts.{elements_in}
use Rattle.psg_specimen.specs.Given.{has_given, IsGiven}
use Rattle.psg_specimen.specs.declared.declarable.Given.{Given}
use Rattle.psg_covering.proofs.Firsts.{next}
use Rattle.psg_specimen.proofs.DeclarableLaws.{AllOf, lists_first, lists_next, lists_none, table_spaces}
use Rattle.psg_specimen.proofs.declarable.first_undeclared.Goals as goal

pub spaces_of-own-requires : goal.spaces_of-own-requires
spaces_of-own-requires c =
    let list = c.index-lists-number.result in
    let at = ap (λ l. slice_get l c.loop-number.number) (sym c.as_slice-lists.ensures) ∙ slice_get_item c.as_slice-lists.result.now c.loop-number.number list c.loop-number-test.true c.index-lists-number.is in
    let h = elements_in c.args.definition.now c.requires c.loop-number.number list at in
    let e = ap length c.as_slice-table.ensures.value in
    let n = sym c.in_ok-spaces.spaces.ok.0 ∙ c.in_ok-spaces.ensures.one_each in omega (arith, h, e, n)

pub overflow_cast-number : goal.overflow_cast-number
overflow_cast-number c =
    let lt = c.loop-number-test.true in
    let same = ap length c.as_slice-lists.ensures in
    let few = c.requires.few_lists in omega (arith, lt, same, few)

pub first_in_list-requires-clause-given : goal.first_in_list-requires-clause-given
first_in_list-requires-clause-given c =
    subst (λ rows. (k : Given) → (has_given c.in_ok-given.given k ≡ true) ↔ IsGiven c.args.definition.now.signature rows k) c.as_slice.ensures c.in_ok-given.ensures

pub first_in_list-requires-clause-spaces : goal.first_in_list-requires-clause-spaces
first_in_list-requires-clause-spaces c =
    let def = c.args.definition.now in
    let list = c.index-lists-number.result in
    let at = ap (λ l. slice_get l c.loop-number.number) (sym c.as_slice-lists.ensures) ∙ slice_get_item c.as_slice-lists.result.now c.loop-number.number list c.loop-number-test.true c.index-lists-number.is in
    let h = elements_in def c.requires c.loop-number.number list at in
    let e = ap length c.as_slice-table.ensures.value in
    let n = sym c.in_ok-spaces.spaces.ok.0 ∙ c.in_ok-spaces.ensures.one_each in
    table_spaces def c.loop-number.number list c.as_slice-table.result.now c.spaces_of-own.result.now at (omega (arith, h, e, n))
    (subst (λ t. (p : ℕ) → IfSome (slice_get t p) (λ (v : Vec ℕ Global). AreSpacesOf def p v.items)) (sym c.as_slice-table.ensures.value) c.in_ok-spaces.ensures.exact)
    c.spaces_of-own.ensures c.in_ok-spaces.ensures.search

pub loop-number-preserved : goal.loop-number-preserved
loop-number-preserved c =
    next (AllOf c.args.definition.now c.as_slice-lists.result.now) c.loop-number.number
    (lists_next c.args.definition.now c.as_slice-lists.result.now c.as_slice-lists.ensures c.loop-number.number c.index-lists-number.result c.loop-number-test.true c.index-lists-number.is c.in_default.ensures) c.loop-number.invariant

pub returns-in-Some : goal.returns-in-Some
returns-in-Some c =
    lists_first c.args.definition.now c.as_slice-lists.result.now c.as_slice-lists.ensures c.loop-number.number c.in-Some.pair.0 c.in-Some.pair.1 c.index-lists-number.result c.loop-number-test.true c.index-lists-number.is
    c.in-Some.ensures c.loop-number.invariant

pub returns : goal.returns
returns c = lists_none c.args.definition.now c.as_slice-lists.result.now c.as_slice-lists.ensures (λ m lt. c.loop-number.invariant m (omega (arith, lt)))
