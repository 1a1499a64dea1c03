use Rattle.std.proofs.Common.{◌↔◌, IsTrue, List, subst, sym}
use Rattle.std.specs.List.{AllByRecursion}
use Rattle.psg_terms.specs.Kept.{numbers_of}
use Rattle.psg_terms.specs.declared.sorts.SortId.{SortId}
use Rattle.psg_explain.specs.Sources.{IsClaimable}
use Rattle.psg_explain.proofs.SortLaws.{canonical_rows, claimed_iff, sorts_moved, unsorted}
use Rattle.psg_explain.proofs.UnderLaws.{match_none, match_some, unmade}
use Rattle.psg_explain.proofs.checking.are_claimable.Goals as goal

pub returns-in_default-clause-claimed : goal.returns-in_default-clause-claimed
returns-in_default-clause-claimed c = λ s is.
    let none = match_none _ c.in_default.is _ _ c.in_ok-found.ensures in
    unmade (unsorted c.args.definition.now c.args.stage.now c.in_ok-kinds.kinds.items c.args.rows.now c.in_ok-kinds.ensures
    (λ sorts h. none sorts (sorts_moved c.args.definition.now c.as_slice.result.now c.in_ok-kinds.kinds.items c.as_slice-keys.result.now c.args.stage.now.header.names sorts (sym c.as_slice.ensures.value) (sym c.as_slice-keys.ensures) h)) s is)

pub returns-clause-claimed : goal.returns-clause-claimed
returns-clause-claimed c = λ s is.
    let are = match_some _ c.in-Some.sorts c.in-Some.is _ _ c.in_ok-found.ensures in
    claimed_iff c.args.definition.now c.args.stage.now c.in_ok-kinds.kinds.items c.args.rows.now c.in_ok-kinds.ensures _
    (sorts_moved c.args.definition.now c.in_ok-kinds.kinds.items c.as_slice.result.now c.args.stage.now.header.names c.as_slice-keys.result.now _ c.as_slice.ensures.value c.as_slice-keys.ensures are) s is c.in_ok-met.met
    (subst (λ (l : List SortId). IsTrue c.in_ok-met.met ↔ AllByRecursion (IsClaimable c.args.definition.now (numbers_of l)) c.args.rows.now) c.as_slice-2.ensures.value c.in_ok-met.ensures)

pub returns-clause-canonical : goal.returns-clause-canonical
returns-clause-canonical c = λ t. canonical_rows c.args.definition.now _ c.args.rows.now (c.in_ok-met.ensures.0 t)
