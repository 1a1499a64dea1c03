-- The columns of rows and of their ground instances.
use Rattle.std.proofs.Common.{ℕ, ◌↔◌, List, sym, subst}
use Rattle.psg_terms.specs.Terms.{Term}
use Rattle.psg_terms.specs.Signature.{Signature, HaveSorts}
use Rattle.psg_terms.specs.Instances.{IsGroundInstance}
use Rattle.psg_terms.specs.Relations.{IsRelation}
use Rattle.psg_relation.specs.Choices.{AllHaveSorts, IsOfRow, picked, IsProjected, all_picked}
pub use Rattle.psg_unify.proofs.Picking.{map-picked, picked-sorts, picked_ground, picked-push, picked-more}
use Rattle.psg_relation.proofs.Members.{in-map, map-in}
use Rattle.psg_relation.proofs.Relating.{carried}

module _ (sig : Signature) (rows : List (List Term)) (keep : List ℕ) where
  pub all_sorted : (sorts : List ℕ) → AllHaveSorts sig rows sorts → AllHaveSorts sig (all_picked rows keep) (picked sorts keep)
  all_sorted sorts h y i =
      let (row, there, e) = map-in (λ r. picked r keep) y rows i in
      subst (λ r. HaveSorts sig r (picked sorts keep)) (sym e) (picked-sorts sig row sorts keep (h row there))

  there : (c : List Term) (columns : List Term) → IsOfRow sig (all_picked rows keep) c columns → (d : List Term) × ((x : List Term) → IsOfRow sig (all_picked rows keep) c x ↔ IsProjected sig rows keep d x)
  there c columns (h, g) =
      let (row, i, e) = map-in (λ r. picked r keep) c rows h in (
        row,
        λ x. (
          λ p. (i, (picked_ground sig row keep x).0 (subst (λ r. IsGroundInstance sig r x) e p.1)),
          λ q. (h, subst (λ r. IsGroundInstance sig r x) (sym e) ((picked_ground sig row keep x).1 q.1)),
        ),
      )

  back : (d : List Term) (columns : List Term) → IsProjected sig rows keep d columns → (c : List Term) × ((x : List Term) → IsOfRow sig (all_picked rows keep) c x ↔ IsProjected sig rows keep d x)
  back d columns q = (
    picked d keep,
    λ x. (
      λ p. (q.0, (picked_ground sig d keep x).0 p.1),
      λ r. (in-map (λ row. picked row keep) d rows q.0, (picked_ground sig d keep x).1 r.1),
    ),
  )

  pub projected : (sorts : List ℕ) (others : List (List Term)) → IsRelation sig sorts (IsOfRow sig (all_picked rows keep)) others → IsRelation sig sorts (IsProjected sig rows keep) others
  projected sorts others = carried sig sorts (IsOfRow sig (all_picked rows keep)) (IsProjected sig rows keep) there back others

  pub unprojected : (sorts : List ℕ) (others : List (List Term)) → IsRelation sig sorts (IsProjected sig rows keep) others → IsRelation sig sorts (IsOfRow sig (all_picked rows keep)) others
  unprojected sorts others = carried sig sorts (IsProjected sig rows keep) (IsOfRow sig (all_picked rows keep))
      (λ d columns q. let (c, both) = back d columns q in (c, λ x. ((both x).1, (both x).0)))
      (λ c columns p. let (d, both) = there c columns p in (d, λ x. ((both x).1, (both x).0))) others
