use Rattle.std.proofs.Common.{◌-◌, List, length, sym, ◌∙◌, subst, arith}
use Rattle.std.specs.List.{AllByRecursion}
use Rattle.psg_terms.proofs.Lists.{slice_get_item}
use Rattle.psg_explain.specs.declared.given.Case.{Case}
use Rattle.psg_explain.specs.LastReasons.{AreCaseReasons}
use Rattle.psg_explain.specs.Reached.{IsUnsolved}
use Rattle.psg_explain.proofs.LastCases.{ready_canonical, ready_cases}
use Rattle.psg_explain.proofs.last.reasons_after.Goals as goal

pub unreachable-requires : goal.unreachable-requires
unreachable-requires c = let (last, r) = c.requires in let e = r.count in omega (arith, e, c.if-count-eq0.true)

pub bounds-stages-place : goal.bounds-stages-place
bounds-stages-place c = let (last, r) = c.requires in let w = r.within in let e = r.count in omega (arith, w, e)

pub cases_after-requires : goal.cases_after-requires
cases_after-requires c =
    let (last, r) = c.requires in
    let e = r.count in
    ready_canonical c.args.definition.now c.args.claims.now c.args.stages.now last r (length c.args.claims.now - 1) (omega (arith, e)) c.claims_before-before.result.now c.claims_before-before.ensures

pub reasons_of-requires : goal.reasons_of-requires
reasons_of-requires c =
    let (last, r) = c.requires in
    let e = r.count in
    let w = r.within in
    let at = slice_get_item c.args.stages.now (length c.args.claims.now - 1) c.index-stages-place.result (omega (arith, e, w)) c.index-stages-place.is in
    let same = ready_cases c.args.definition.now c.args.claims.now c.args.stages.now last r (length c.args.claims.now - 1) (omega (arith, e)) c.claims_before-before.result.now c.claims_before-before.ensures c.index-stages-place.result at c.in_ok-all.all.items c.in_ok-all.ensures in
    subst (AllByRecursion IsUnsolved) (sym (c.as_slice.ensures.value ∙ same)) r.unsolved

pub returns : goal.returns
returns c = λ last r.
    let e = r.count in
    let w = r.within in
    let at = slice_get_item c.args.stages.now (length c.args.claims.now - 1) c.index-stages-place.result (omega (arith, e, w)) c.index-stages-place.is in
    let same = ready_cases c.args.definition.now c.args.claims.now c.args.stages.now last r (length c.args.claims.now - 1) (omega (arith, e)) c.claims_before-before.result.now c.claims_before-before.ensures c.index-stages-place.result at c.in_ok-all.all.items c.in_ok-all.ensures in
    subst (λ (l : List Case). AreCaseReasons l c.in_ok-told.told.items) (c.as_slice.ensures.value ∙ same) c.in_ok-told.ensures
