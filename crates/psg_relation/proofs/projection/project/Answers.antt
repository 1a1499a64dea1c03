use Rattle.std.proofs.Common.{◌≡◌, ℕ, List, sym, subst}
use Rattle.std.proofs.lemmas.Result.{IfOk-weaker}
use Rattle.psg_terms.specs.Terms.{Term}
use Rattle.psg_terms.specs.Relations.{IsRelation}
use Rattle.psg_terms.specs.Weight.{PassesLimit}
use Rattle.psg_relation.specs.Choices.{AllHaveSorts, HasWide, IsOfRow, IsProjected, picked, all_picked}
use Rattle.psg_relation.proofs.Columns.{all_sorted, projected, unprojected}
use Rattle.psg_relation.proofs.Making.{err_map}
use Rattle.psg_relation.proofs.projection.project.Goals as goal

pub returns-clause-relation : goal.returns-clause-relation
returns-clause-relation c =
    let sig = c.args.sig.now in
    let rel = c.args.rel.now in
    let keep = c.args.keep.now in
    let made = c.as_slice.result.now in
    let e : made ≡ all_picked rel keep = cc (c.as_slice.ensures.value, c.in_ok-columns.ensures, c.rows.ensures.rows) in
    IfOk-weaker c.of.result (λ rows. (sorts : List ℕ) → AllHaveSorts sig made sorts → IsRelation sig sorts (IsOfRow sig made) rows)
    (λ rows. (sorts : List ℕ) → AllHaveSorts sig rel sorts → IsRelation sig (picked sorts keep) (IsProjected sig rel keep) rows)
    (λ rows h sorts sorted. projected sig rel keep (picked sorts keep) rows
    (subst (λ m. IsRelation sig (picked sorts keep) (IsOfRow sig m) rows) e
    (h (picked sorts keep) (subst (λ m. AllHaveSorts sig m (picked sorts keep)) (sym e) (all_sorted sig rel keep sorts sorted)))))
    c.of.ensures.relation

pub returns-clause-wide : goal.returns-clause-wide
returns-clause-wide c =
    let sig = c.args.sig.now in
    let rel = c.args.rel.now in
    let keep = c.args.keep.now in
    let made = c.as_slice.result.now in
    let e : made ≡ all_picked rel keep = cc (c.as_slice.ensures.value, c.in_ok-columns.ensures, c.rows.ensures.rows) in
    err_map c.of.result ((sorts : List ℕ) → AllHaveSorts sig made sorts → (others : List (List Term)) → IsRelation sig sorts (IsOfRow sig made) others → PassesLimit others)
    ((sorts : List ℕ) → AllHaveSorts sig rel sorts → (others : List (List Term)) → IsRelation sig (picked sorts keep) (IsProjected sig rel keep) others → PassesLimit others)
    (λ wide sorts sorted others q. wide (picked sorts keep) (subst (λ m. AllHaveSorts sig m (picked sorts keep)) (sym e) (all_sorted sig rel keep sorts sorted)) others
    (subst (λ m. IsRelation sig (picked sorts keep) (IsOfRow sig m) others) (sym e) (unprojected sig rel keep (picked sorts keep) others q)))
    c.of.ensures.wide

pub of-requires : goal.of-requires
of-requires c =
    let sig = c.args.sig.now in
    let rel = c.args.rel.now in
    let keep = c.args.keep.now in
    let sorts = c.requires.sorts.0 in
    let e : c.as_slice.result.now ≡ all_picked rel keep = cc (c.as_slice.ensures.value, c.in_ok-columns.ensures, c.rows.ensures.rows) in
    (picked sorts keep, subst (λ m. AllHaveSorts sig m (picked sorts keep)) (sym e) (all_sorted sig rel keep sorts c.requires.sorts.1))

pub returns-clause-some : goal.returns-clause-some
returns-clause-some c =
    let sig = c.args.sig.now in
    let rel = c.args.rel.now in
    let keep = c.args.keep.now in
    let made = c.as_slice.result.now in
    let e : made ≡ all_picked rel keep = cc (c.as_slice.ensures.value, c.in_ok-columns.ensures, c.rows.ensures.rows) in
    err_map c.of.result ((sorts : List ℕ) → AllHaveSorts sig made sorts → HasWide sig sorts (IsOfRow sig made))
    ((sorts : List ℕ) → AllHaveSorts sig rel sorts → HasWide sig (picked sorts keep) (IsProjected sig rel keep))
    (λ some sorts sorted.
    let (others, q, passes) = some (picked sorts keep) (subst (λ m. AllHaveSorts sig m (picked sorts keep)) (sym e) (all_sorted sig rel keep sorts sorted)) in
    (others, projected sig rel keep (picked sorts keep) others (subst (λ m. IsRelation sig (picked sorts keep) (IsOfRow sig m) others) e q), passes))
    c.of.ensures.some
