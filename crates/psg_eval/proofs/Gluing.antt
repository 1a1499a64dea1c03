-- Relations of what two relations make together, and of parts of rows: keeping only the most general rows loses none.
use Rattle.std.proofs.Common.{◌≡◌, ◌↔◌, ℕ, List, length}
use Rattle.psg_terms.specs.Terms.{Term}
use Rattle.psg_terms.specs.Signature.{Signature}
use Rattle.psg_terms.specs.Instances.{IsGroundInstance}
use Rattle.psg_terms.specs.Relations.{IsIn, IsRelation, IsGlued}
use Rattle.psg_relation.specs.Choices.{AllHaveSorts, IsProjected, picked}
use Rattle.psg_relation.proofs.Relating.{carried}
use Rattle.psg_eval.specs.Glues.{IsCut}
use Rattle.psg_terms.proofs.OneRelation.{instance_sorts, sorts_length}

module _ {C D : Type 0} (P : C → List Term → Type 0) (Q : D → List Term → Type 0) (Glue : List Term → List Term → List Term → Type 0) where
  -- what is possible for two choices together
  pub record Both (choice : C × D) (columns : List Term) : Type 0 where
    pub p : List Term
    pub p_is : P choice.0 p
    pub q : List Term
    pub q_is : Q choice.1 q
    pub glue : Glue p q columns

  pub glued_relation : (sig : Signature) (sorts left_sorts right_sorts : List ℕ) (left right rows : List (List Term)) → IsRelation sig left_sorts P left → IsRelation sig right_sorts Q right
      → IsRelation sig sorts (IsGlued sig Glue left right) rows → IsRelation sig sorts Both rows
  glued_relation sig sorts left_sorts right_sorts left right rows l r it = record {
    shapes = λ row h.
        let s = it.shapes row h in
        let a = l.shapes s.choice.one s.choice.from_left in
        let b = r.shapes s.choice.two s.choice.from_right in
        let (columns, glued) = s.some in
        record {
          canonical = s.canonical;
          sorted = s.sorted;
          choice = (a.choice, b.choice);
          some = (columns, record { p = glued.p; p_is = (a.exact glued.p).0 glued.p_is; q = glued.q; q_is = (b.exact glued.q).0 glued.q_is; glue = glued.glue });
          exact = λ x. (
            (λ g. let y = (s.exact x).0 g in record { p = y.p; p_is = (a.exact y.p).0 y.p_is; q = y.q; q_is = (b.exact y.q).0 y.q_is; glue = y.glue }),
            (λ y. (s.exact x).1 (record { p = y.p; p_is = (a.exact y.p).1 y.p_is; q = y.q; q_is = (b.exact y.q).1 y.q_is; glue = y.glue })),
          );
        };
    covers = λ choice columns both.
        let (one, from_left, all_left) = l.covers choice.0 both.p both.p_is in
        let (two, from_right, all_right) = r.covers choice.1 both.q both.q_is in
        let (row, h, all) = it.covers (record { one = one; from_left = from_left; two = two; from_right = from_right }) columns
        (record { p = both.p; p_is = all_left both.p both.p_is; q = both.q; q_is = all_right both.q both.q_is; glue = both.glue }) in
        (row, h, λ other o. all other (record { p = o.p; p_is = all_left o.p o.p_is; q = o.q; q_is = all_right o.q o.q_is; glue = o.glue }));
    apart = it.apart;
    once = it.once;
    order = it.order;
  }

module _ {C : Type 0} (P : C → List Term → Type 0) (Cut : List Term → List Term → Type 0) where
  -- what is made of what is possible for a choice
  pub record CutOf (choice : C) (columns : List Term) : Type 0 where
    pub full : List Term
    pub full_is : P choice full
    pub cut : Cut full columns

  pub cut_relation : (sig : Signature) (sorts full_sorts : List ℕ) (rows made : List (List Term)) → IsRelation sig full_sorts P rows → IsRelation sig sorts (IsCut sig Cut rows) made → IsRelation sig sorts CutOf made
  cut_relation sig sorts full_sorts rows made l it = record {
    shapes = λ row h.
        let s = it.shapes row h in
        let (columns, c) = s.some in
        let a = l.shapes s.choice c.there in
        record {
          canonical = s.canonical;
          sorted = s.sorted;
          choice = a.choice;
          some = (columns, record { full = c.full; full_is = (a.exact c.full).0 c.full_is; cut = c.cut });
          exact = λ x. (
            (λ g. let y = (s.exact x).0 g in record { full = y.full; full_is = (a.exact y.full).0 y.full_is; cut = y.cut }),
            (λ y. (s.exact x).1 (record { there = c.there; full = y.full; full_is = (a.exact y.full).1 y.full_is; cut = y.cut })),
          );
        };
    covers = λ choice columns c.
        let (one, there, all) = l.covers choice c.full c.full_is in
        let (row, h, each) = it.covers one columns (record { there = there; full = c.full; full_is = all c.full c.full_is; cut = c.cut }) in
        (row, h, λ other o. each other (record { there = there; full = o.full; full_is = all o.full o.full_is; cut = o.cut }));
    apart = it.apart;
    once = it.once;
    order = it.order;
  }

-- ---- the same, said in another way

module _ (sig : Signature) (ss ls rs : List ℕ) (G H : List Term → List Term → List Term → Type 0) (left right : List (List Term)) (lefts : AllHaveSorts sig left ls) (rights : AllHaveSorts sig right rs)
    (same : (p q x : List Term) → length p ≡ length ls → length q ≡ length rs → G p q x ↔ H p q x) where
  glued_both : (one two : List Term) (from_left : IsIn one left) (from_right : IsIn two right) (x : List Term)
      → IsGlued sig G left right (record { one = one; from_left = from_left; two = two; from_right = from_right }) x ↔ IsGlued sig H left right (record { one = one; from_left = from_left; two = two; from_right = from_right }) x
  glued_both one two from_left from_right x = (
    (λ g. record { p = g.p; p_is = g.p_is; q = g.q; q_is = g.q_is; glue = (same g.p g.q x (width_left g.p g.p_is) (width_right g.q g.q_is)).0 g.glue }),
    (λ g. record { p = g.p; p_is = g.p_is; q = g.q; q_is = g.q_is; glue = (same g.p g.q x (width_left g.p g.p_is) (width_right g.q g.q_is)).1 g.glue }),
  )
    where
      width_left : (p : List Term) → IsGroundInstance sig one p → length p ≡ length ls
      width_left p g = sorts_length sig p ls (instance_sorts sig one p ls (lefts one from_left) g)

      width_right : (q : List Term) → IsGroundInstance sig two q → length q ≡ length rs
      width_right q g = sorts_length sig q rs (instance_sorts sig two q rs (rights two from_right) g)

  pub glued_same : (made : List (List Term)) → IsRelation sig ss (IsGlued sig G left right) made → IsRelation sig ss (IsGlued sig H left right) made
  glued_same made rel =
      carried sig ss (IsGlued sig G left right) (IsGlued sig H left right)
      (λ c x g. (record { one = c.one; from_left = c.from_left; two = c.two; from_right = c.from_right }, glued_both c.one c.two c.from_left c.from_right))
      (λ c x g. (record { one = c.one; from_left = c.from_left; two = c.two; from_right = c.from_right }, glued_both c.one c.two c.from_left c.from_right))
      made rel

module _ (sig : Signature) (ss ls : List ℕ) (keep : List ℕ) (Cut : List Term → List Term → Type 0) (rows : List (List Term)) (sorted : AllHaveSorts sig rows ls)
    (same : (p x : List Term) → length p ≡ length ls → (x ≡ picked p keep) ↔ Cut p x) where
  cut_both : (row x : List Term) → IsProjected sig rows keep row x ↔ IsCut sig Cut rows row x
  cut_both row x = (
    (λ (there, (full, g, e)). record { there = there; full = full; full_is = g; cut = (same full x (width there full g)).0 e }),
    (λ c. (c.there, (c.full, c.full_is, (same c.full x (width c.there c.full c.full_is)).1 c.cut))),
  )
    where
      width : IsIn row rows → (p : List Term) → IsGroundInstance sig row p → length p ≡ length ls
      width there p g = sorts_length sig p ls (instance_sorts sig row p ls (sorted row there) g)

  pub cut_same : (made : List (List Term)) → IsRelation sig ss (IsProjected sig rows keep) made → IsRelation sig ss (IsCut sig Cut rows) made
  cut_same made rel = carried sig ss (IsProjected sig rows keep) (IsCut sig Cut rows) (λ row x h. (row, cut_both row)) (λ row x h. (row, cut_both row)) made rel
