-- Rows in which variables are replaced that have to be terms without variables.
use Rattle.std.proofs.Common.{◌≡◌, ℕ, ◌<◌, ◌+◌, true, false, cond, inl, inr, List, [], ◌∷◌, ◌++◌, All, map, length, get_or, take, drop, zero, suc, refl, ap, ap₂, sym, ◌∙◌, subst, Option, Some, None, slice_get, arith}
use Rattle.std.proofs.lemmas.List.Elements.{All-push, All-head, All-tail}
use Rattle.std.proofs.lemmas.Option.{slice_get_read, same_Some}
use Rattle.std.proofs.lemmas.Bool.{cases_Bool}
use Rattle.std.proofs.lemmas.List.{map-append}
use Rattle.psg_terms.proofs.Lists.{take_item}
use Rattle.psg_terms.specs.Terms.{Term, variable, symbol, applied}
use Rattle.psg_terms.specs.declared.sorts.SortId.{SortId}
use Rattle.psg_terms.specs.Signature.{Signature, HasSort}
use Rattle.psg_terms.specs.Weight.{above_of}
use Rattle.psg_terms.specs.Instances.{Substitution, substitute, IsSorted}
use Rattle.psg_terms.specs.Canonical.{Variable, same_variable}
use Rattle.psg_terms.proofs.Applied.{applied-substitute}
use Rattle.psg_terms.proofs.InstanceLaws.{after, map-substitute-after, grounding-after}
use Rattle.psg_terms.proofs.Nodes.{same_arguments}
use Rattle.psg_terms.proofs.Recognising.{substitute-closed}
use Rattle.psg_terms.proofs.Renumbering.{HaveSorts-substitute}
use Rattle.psg_terms.proofs.Variables.{same_variable-true}
use Rattle.psg_unify.specs.Pairs.{Pair, AgreeOn, AreJoinable, IsAgreeing}
use Rattle.psg_relation.specs.declared.forcing.Forced.{Forced}
use Rattle.psg_relation.specs.Forcing.{by_forced, IsForced, IsFit, Forces}
use Rattle.psg_relation.specs.Joining.{IsJoint}
use Rattle.psg_relation.proofs.Pairing.{value_at}
use Rattle.psg_relation.proofs.Solving.{rows_alike}

first_same : (x y : Term) → ◌≡◌ {A = List Term} (x ∷ []) (y ∷ []) → x ≡ y
first_same x y e = cc

pub forces_none : (sig : Signature) (old : List Forced) (row closed : List Term) → Forces sig old old row closed
forces_none sig old row closed = record { fit = λ h. h; forced = λ g h e. h }

pub forces_push : (sig : Signature) (old new : List Forced) (sort : SortId) (n : ℕ) (t u : Term) → u ≡ t → new ≡ old ++ record { sort = sort; number = n; term = u } ∷ [] → HasSort sig t sort.0 → above_of t ≡ 0
    → Forces sig old new (variable sort.0 n ∷ []) (t ∷ [])
forces_push sig old new sort n t u d e h c =
    let b : Forced = record { sort = sort; number = n; term = u } in
    record {
      fit = λ fit. subst (All (IsFit sig)) (sym e) (All-push (IsFit sig) old b fit (subst (λ x. HasSort sig x sort.0) (sym d) h, ap above_of d ∙ c));
      forced = λ g forced m. subst (All (IsForced g)) (sym e) (All-push (IsForced g) old b forced (first_same (g sort.0 n) t m ∙ sym d));
    }

pub forces_variable : (sig : Signature) (old new : List Forced) (s n : ℕ) (t u : Term) → t ≡ variable s n → Forces sig old new (variable s n ∷ []) (u ∷ []) → Forces sig old new (t ∷ []) (u ∷ [])
forces_variable sig old new s n t u e h = subst (λ x. Forces sig old new (x ∷ []) (u ∷ [])) (sym e) h

pub forces_con : (sig : Signature) (old new : List Forced) (c d : ℕ) (args parts : List Term) (t u : Term) → t ≡ applied (symbol c) args → u ≡ applied (symbol d) parts → Forces sig old new args parts → Forces sig old new (t ∷ []) (u ∷ [])
forces_con sig old new c d args parts t u et eu h = record {
  fit = h.fit;
  forced = λ g forced m. h.forced g forced (same_arguments c d (map (substitute g) args) parts
      (sym (applied-substitute g (symbol c) args) ∙ sym (ap (substitute g) et) ∙ first_same (substitute g t) u m ∙ eu));
}

at_place : (g : Substitution) (row closed : List Term) (i : ℕ) (x y : Term) → i < length row → x ≡ get_or row i x → i < length closed → y ≡ get_or closed i y → map (substitute g) row ≡ closed → substitute g x ≡ y
at_place g row closed i x y l ex m ey e =
    same_Some (substitute g x) y (sym (value_at g row i x (slice_get_read row (length row) i x refl l ex)) ∙ ap (λ (r : List Term). slice_get r i) e ∙ slice_get_read closed (length closed) i y refl m ey)

pub forces_step : (sig : Signature) (old now next : List Forced) (row closed : List Term) (i : ℕ) (x y : Term) → i < length row → x ≡ get_or row i x → i < length closed → y ≡ get_or closed i y
    → Forces sig old now row closed → Forces sig now next (x ∷ []) (y ∷ []) → Forces sig old next row closed
forces_step sig old now next row closed i x y l ex m ey h k = record {
  fit = λ fit. k.fit (h.fit fit);
  forced = λ g forced e. k.forced g (h.forced g forced e) (ap (λ (t : Term). t ∷ []) (at_place g row closed i x y l ex m ey e));
}

-- ---- what replaces the variables

pub absorbs_forced : (sig : Signature) (g : Substitution) (fs : List Forced) → All (IsFit sig) fs → All (IsForced g) fs → (s n : ℕ) → g s n ≡ substitute g (by_forced fs s n)
absorbs_forced sig g [] fit forced s n = refl
absorbs_forced sig g (b ∷ fs) fit forced s n =
    elim (cases_Bool (same_variable (b.sort.0, b.number) (s, n))) [
      | inl e ↦ (
          let here : IsForced g b = All-head (IsForced g) b fs forced in
          let closed = (All-head (IsFit sig) b fs fit).1 in
          let same = same_variable-true (b.sort.0, b.number) (s, n) e in
          subst (λ t. g s n ≡ substitute g (cond t b.term (by_forced fs s n))) (sym e)
          (ap (λ (x : Variable). g x.0 x.1) (sym same) ∙ here ∙ sym (substitute-closed g b.term closed)))
      | inr e ↦ subst (λ t. g s n ≡ substitute g (cond t b.term (by_forced fs s n))) (sym e)
          (absorbs_forced sig g fs (All-tail (IsFit sig) b fs fit) (All-tail (IsForced g) b fs forced) s n)
    ]

pub forced-sorted : (sig : Signature) (fs : List Forced) → All (IsFit sig) fs → IsSorted sig (by_forced fs)
forced-sorted sig [] fit p q l = (l, refl, refl)
forced-sorted sig (b ∷ fs) fit p q l =
    elim (cases_Bool (same_variable (b.sort.0, b.number) (p, q))) [
      | inl e ↦ (
          let h = (All-head (IsFit sig) b fs fit).0 in
          let same = same_variable-true (b.sort.0, b.number) (p, q) e in
          subst (λ t. HasSort sig (cond t b.term (by_forced fs p q)) p) (sym e) (subst (λ (x : Variable). HasSort sig b.term x.0) same h))
      | inr e ↦ subst (λ t. HasSort sig (cond t b.term (by_forced fs p q)) p) (sym e) (forced-sorted sig fs (All-tail (IsFit sig) b fs fit) p q l)
    ]

-- ---- the search for a variable, and rows that are filled

pub drop-next : (fs : List Forced) (i : ℕ) (b : Forced) → i < length fs → b ≡ get_or fs i b → drop i fs ≡ b ∷ drop (suc i) fs
drop-next [] i b l e = absurd (omega (arith, l))
drop-next (x ∷ fs) zero b l e = ap (λ (y : Forced). y ∷ fs) (sym e)
drop-next (x ∷ fs) (suc i) b l e = drop-next fs i b (omega (arith, l)) e

pub drop-past : (fs : List Forced) (i : ℕ) → i ≡ length fs → drop i fs ≡ []
drop-past [] zero e = refl
drop-past [] (suc i) e = refl
drop-past (x ∷ fs) zero e = absurd (omega arith)
drop-past (x ∷ fs) (suc i) e = drop-past fs i (omega arith)

pub forced_here : (fs : List Forced) (i s n : ℕ) (b : Forced) → i < length fs → b ≡ get_or fs i b → same_variable (b.sort.0, b.number) (s, n) ≡ true → by_forced fs s n ≡ by_forced (drop i fs) s n → by_forced fs s n ≡ b.term
forced_here fs i s n b l e t h = h ∙ ap (λ (x : List Forced). by_forced x s n) (drop-next fs i b l e) ∙ ap (λ c. cond c b.term (by_forced (drop (suc i) fs) s n)) t

pub forced_past : (fs : List Forced) (i s n : ℕ) (b : Forced) → i < length fs → b ≡ get_or fs i b → same_variable (b.sort.0, b.number) (s, n) ≡ false → by_forced fs s n ≡ by_forced (drop i fs) s n → by_forced fs s n ≡ by_forced (drop (i + 1) fs) s n
forced_past fs i s n b l e t h =
    let next : suc i ≡ i + 1 = omega arith in
    h ∙ ap (λ (x : List Forced). by_forced x s n) (drop-next fs i b l e) ∙ ap (λ c. cond c b.term (by_forced (drop (suc i) fs) s n)) t ∙ ap (λ (m : ℕ). by_forced (drop m fs) s n) next

pub filled_con : (f : Substitution) (c : ℕ) (args parts : List Term) (t u : Term) → t ≡ applied (symbol c) args → u ≡ applied (symbol c) parts → parts ≡ map (substitute f) args → u ≡ substitute f t
filled_con f c args parts t u e d h = d ∙ ap (applied (symbol c)) h ∙ sym (applied-substitute f (symbol c) args) ∙ sym (ap (substitute f) e)

pub filled_step : (f : Substitution) (row now after : List Term) (i : ℕ) (t u : Term) → now ≡ map (substitute f) (take i row) → u ≡ substitute f t → after ≡ now ++ u ∷ [] → i < length row → t ≡ get_or row i t → after ≡ map (substitute f) (take (i + 1) row)
filled_step f row now after i t u h k e lt at =
    e ∙ ap₂ (λ xs y. xs ++ y ∷ []) h k ∙ sym (ap (map (substitute f)) (take_item row i t lt at) ∙ map-append (substitute f) (take i row) (t ∷ []))

-- ---- the join of the filled rows is that of the rows

module _ (sig : Signature) (left right : List Term) (pairs : List Pair) (lefts rights : List Forced) (left_fit : All (IsFit sig) lefts) (right_fit : All (IsFit sig) rights)
    (left_forced : (f g : Substitution) → AgreeOn pairs (map (substitute f) left) (map (substitute g) right) → All (IsForced f) lefts)
    (right_forced : (f g : Substitution) → AgreeOn pairs (map (substitute f) left) (map (substitute g) right) → All (IsForced g) rights) where
  abbrev one : List Term
  one = map (substitute (by_forced lefts)) left

  abbrev other : List Term
  other = map (substitute (by_forced rights)) right

  pub filled_joinable : AreJoinable sig left right pairs → AreJoinable sig one other pairs
  filled_joinable j = record {
    left_sorts = j.left_sorts;
    right_sorts = j.right_sorts;
    left_sorted = HaveSorts-substitute sig (by_forced lefts) (forced-sorted sig lefts left_fit) left j.left_sorts j.left_sorted;
    right_sorted = HaveSorts-substitute sig (by_forced rights) (forced-sorted sig rights right_fit) right j.right_sorts j.right_sorted;
    equal = j.equal;
  }

  filled_agreeing : (values : List Term) → IsAgreeing sig left right pairs values → IsAgreeing sig one other pairs values
  filled_agreeing values (l, r, (f, gf, el), (g, gg, er), agree, e) =
      let a : AgreeOn pairs (map (substitute f) left) (map (substitute g) right) = subst (λ x. AgreeOn pairs x (map (substitute g) right)) el (subst (AgreeOn pairs l) er agree) in (
        l,
        r,
        (f, gf, el ∙ rows_alike f (by_forced lefts) (absorbs_forced sig f lefts left_fit (left_forced f g a)) left),
        (g, gg, er ∙ rows_alike g (by_forced rights) (absorbs_forced sig g rights right_fit (right_forced f g a)) right),
        agree,
        e,
      )

  agreeing_filled : (values : List Term) → IsAgreeing sig one other pairs values → IsAgreeing sig left right pairs values
  agreeing_filled values (l, r, (f, gf, el), (g, gg, er), agree, e) = (
    l,
    r,
    (after f (by_forced lefts), grounding-after sig f (by_forced lefts) gf (forced-sorted sig lefts left_fit), el ∙ sym (map-substitute-after f (by_forced lefts) left)),
    (after g (by_forced rights), grounding-after sig g (by_forced rights) gg (forced-sorted sig rights right_fit), er ∙ sym (map-substitute-after g (by_forced rights) right)),
    agree,
    e,
  )

  pub filled_joint : (keep : List ℕ) (o : Option (List Term)) → IsJoint sig pairs keep one other o → IsJoint sig pairs keep left right o
  filled_joint keep None h = λ x (full, a, e). h x (full, filled_agreeing full a, e)
  filled_joint keep (Some row) h = record {
    ready = h.ready;
    to = λ x i. let (full, a, e) = h.to x i in (full, agreeing_filled full a, e);
    back = λ x (full, a, e). h.back x (full, filled_agreeing full a, e);
    sorted = λ ls rs hl hr. h.sorted ls rs (HaveSorts-substitute sig (by_forced lefts) (forced-sorted sig lefts left_fit) left ls hl)
        (HaveSorts-substitute sig (by_forced rights) (forced-sorted sig rights right_fit) right rs hr);
  }
