use Rattle.std.proofs.Common.{ℕ, length, Some, slice_get, sym, ap, ◌∙◌, subst, arith}
use Rattle.psg_terms.proofs.Lists.{slice_get_item}
use Rattle.psg_grammar.specs.declared.types.ListKind.{ListKind}
use Rattle.psg_completions.specs.Covered.{IsCoveredNil}
use Rattle.psg_specimen.specs.Walks.{Finds}
use Rattle.psg_covering.proofs.Firsts.{At, next}
use Rattle.psg_specimen.proofs.CoverLaws.{Serves, nil_first, nil_none, nils_held}
use Rattle.psg_specimen.proofs.covering.first_uncovered_nil.Goals as goal

pub overflow_cast-list : goal.overflow_cast-list
overflow_cast-list c =
    let lt = c.loop-list-test.true in
    let same = ap length c.as_slice-lists.ensures in
    let few = c.requires.few_lists in omega (arith, lt, same, few)

pub loop-list-preserved : goal.loop-list-preserved
loop-list-preserved c =
    let def = c.args.definition.now in
    let list = c.index-lists-list.result in
    let at = ap (λ l. slice_get l c.loop-list.list) (sym c.as_slice-lists.ensures) ∙ slice_get_item c.as_slice-lists.result.now c.loop-list.list list c.loop-list-test.true c.index-lists-list.is in
    let found = subst (λ o. Finds (At c.as_slice-rows.result.now (Serves def c.requires c.loop-list.list)) o) c.in_default.is c.in_ok-row.ensures in
    let own = subst (λ rows. (k : ℕ) → At rows (Serves def c.requires c.loop-list.list) k) (c.as_slice-rows.ensures ∙ ap (λ (x : ListKind). x.nil_rows) (sym c.index-lists-list.is)) found in
    next (λ m. (k : ℕ) → IsCoveredNil def m k) c.loop-list.list (nils_held def c.requires c.loop-list.list list at own) c.loop-list.invariant

pub returns-in-Some : goal.returns-in-Some
returns-in-Some c =
    let def = c.args.definition.now in
    let list = c.index-lists-list.result in
    let at = ap (λ l. slice_get l c.loop-list.list) (sym c.as_slice-lists.ensures) ∙ slice_get_item c.as_slice-lists.result.now c.loop-list.list list c.loop-list-test.true c.index-lists-list.is in
    let found = subst (λ o. Finds (At c.as_slice-rows.result.now (Serves def c.requires c.loop-list.list)) o) c.in-Some.is c.in_ok-row.ensures in
    let own = subst (λ rows. Finds (At rows (Serves def c.requires c.loop-list.list)) (Some c.in-Some.row)) (c.as_slice-rows.ensures ∙ ap (λ (x : ListKind). x.nil_rows) (sym c.index-lists-list.is)) found in
    nil_first def c.requires c.loop-list.list c.in-Some.row list at own c.loop-list.invariant

pub returns : goal.returns
returns c =
    let same = ap length c.as_slice-lists.ensures in
    nil_none c.args.definition.now c.requires (λ m lt. c.loop-list.invariant m (omega (arith, lt, same)))
