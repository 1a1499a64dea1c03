use Rattle.std.proofs.Common.{List, map, sym, subst, ◌∙◌, arith}
use Rattle.std.specs.List.{AllByRecursion}
use Rattle.psg_terms.proofs.Lists.{iff_then, slice_get_item, slice_get_some}
use Rattle.psg_explain.specs.declared.refutation.Claim.{Claim}
use Rattle.psg_explain.specs.Plans.{AreCanonical, rows_claimed}
use Rattle.psg_explain.proofs.CheckLaws.{checked_last, checked_next, checked_none, checked_short, checked_through, checked_wrong, claims_past, moved}
use Rattle.psg_explain.proofs.UnderLaws.{told, unmade}
use Rattle.psg_explain.proofs.checking.are_claims.Goals as goal

pub loop-place-init : goal.loop-place-init
loop-place-init c = checked_none c.args.definition.now c.args.stages.now c.args.claims.now

pub returns-then-claims-place : goal.returns-then-claims-place
returns-then-claims-place c = λ steps h.
    let (stage, at) = slice_get_some c.args.stages.now c.loop-place.place c.loop-place-test.true in
    unmade (λ (last, whole). checked_short c.args.definition.now c.args.stages.now c.args.claims.now c.loop-place.place c.loop-place.invariant
    (claims_past c.args.claims.now c.loop-place.place c.if-claims-place.true) stage at steps h last whole)

pub is_claim-requires : goal.is_claim-requires
is_claim-requires c =
    subst (λ (l : List Claim). AllByRecursion AreCanonical (map rows_claimed l)) (sym c.claims_before-before.ensures) c.loop-place.invariant.canonical

pub returns-then-not-met : goal.returns-then-not-met
returns-then-not-met c = λ steps h.
    let here = slice_get_item c.args.claims.now c.loop-place.place c.index-claims-place.result (omega (arith, c.if-claims-place.false)) c.index-claims-place.is in
    let at = slice_get_item c.args.stages.now c.loop-place.place c.index-stages-place.result c.loop-place-test.true c.index-stages-place.is in
    unmade (λ (last, whole). checked_wrong c.args.definition.now c.args.stages.now c.args.claims.now c.loop-place.place c.loop-place.invariant c.index-claims-place.result here c.index-stages-place.result at
    (λ s is k. told c.if-not-met.true ((moved c.args.definition.now c.args.claims.now c.loop-place.place c.index-stages-place.result c.index-claims-place.result _ c.claims_before-before.ensures _ c.in_ok-met.ensures s is).1 k)) steps h last whole)

pub returns-then-none : goal.returns-then-none
returns-then-none c = λ steps h.
    let here = slice_get_item c.args.claims.now c.loop-place.place c.index-claims-place.result (omega (arith, c.if-claims-place.false)) c.index-claims-place.is in
    let at = slice_get_item c.args.stages.now c.loop-place.place c.index-stages-place.result c.loop-place-test.true c.index-stages-place.is in
    iff_then c.is_last-over.ensures
    (checked_last c.args.definition.now c.args.stages.now c.args.claims.now c.loop-place.place c.loop-place.invariant c.index-claims-place.result here c.index-stages-place.result at
    (λ s is. (moved c.args.definition.now c.args.claims.now c.loop-place.place c.index-stages-place.result c.index-claims-place.result _ c.claims_before-before.ensures _ c.in_ok-met.ensures s is).0 c.if-not-met.false)
    (sym c.as_slice.ensures ∙ c.is_none-none.ensures.0 c.if-none.true) steps h)

pub loop-place-preserved : goal.loop-place-preserved
loop-place-preserved c =
    let here = slice_get_item c.args.claims.now c.loop-place.place c.index-claims-place.result (omega (arith, c.if-claims-place.false)) c.index-claims-place.is in
    let at = slice_get_item c.args.stages.now c.loop-place.place c.index-stages-place.result c.loop-place-test.true c.index-stages-place.is in
    checked_next c.args.definition.now c.args.stages.now c.args.claims.now c.loop-place.place c.loop-place.invariant c.index-claims-place.result here c.index-stages-place.result at
    (λ s is. (moved c.args.definition.now c.args.claims.now c.loop-place.place c.index-stages-place.result c.index-claims-place.result _ c.claims_before-before.ensures _ c.in_ok-met.ensures s is).0 c.if-not-met.false)
    (λ e. told c.if-none.false (c.is_none-none.ensures.1 (c.as_slice.ensures ∙ e))) c.requires.0 c.requires.1

pub returns : goal.returns
returns c = λ steps h.
    unmade (λ (last, whole). checked_through c.args.definition.now c.args.stages.now c.args.claims.now c.loop-place.place c.loop-place.invariant (omega arith) steps h last whole)
