-- Kept columns of two rows that need not be solved.
use Rattle.std.proofs.Common.{◌≡◌, ℕ, ◌<◌, ◌+◌, ◌↔◌, ◌⊎◌, inl, inr, true, false, cond, List, [], ◌∷◌, ◌++◌, All, map, length, get_or, suc, refl, ap, ap₂, sym, ◌∙◌, subst, Some, slice_get, arith}
use Rattle.std.proofs.lemmas.List.{map-append, length-map}
use Rattle.std.proofs.lemmas.Bool.{cases_Bool}
use Rattle.psg_terms.specs.Terms.{Term, variable}
use Rattle.psg_terms.specs.Signature.{Signature, HasSort, HaveSorts}
use Rattle.psg_terms.specs.Sound.{IsSound}
use Rattle.psg_terms.specs.Canonical.{Variable, IsCanonical, same_variable, IsNumberedFrom, noted_all, variables_of, AreWrittenOut}
use Rattle.psg_terms.specs.Instances.{Substitution, substitute, IsGround, IsGrounding, IsGroundInstance, HasSameInstances}
use Rattle.psg_terms.proofs.InstanceLaws.{Takes-substitute, ground-substitute}
use Rattle.psg_terms.proofs.Recognising.{substitute-closed, variables-closed, written-closed}
use Rattle.psg_terms.proofs.Separate.{grounding}
use Rattle.psg_terms.proofs.SoundChoices.{choices}
use Rattle.psg_terms.proofs.Variables.{same_variable-true, same_variable-refl}
use Rattle.psg_unify.specs.Pairs.{Pair, AgreeOn, AreOfEqualSort, AreJoinable, IsAgreeing}
use Rattle.psg_unify.specs.Columns.{picked, Joins}
use Rattle.psg_unify.proofs.Theorem.{sorts-append}
use Rattle.psg_relation.specs.Heavy.{highest_in}
use Rattle.psg_relation.specs.Joining.{IsJoinOf}
use Rattle.psg_relation.specs.Settling.{AreSettled}
use Rattle.psg_relation.proofs.Columns.{picked_ground, picked-sorts}
use Rattle.psg_relation.proofs.Meeting.{join_of}
use Rattle.psg_relation.proofs.Selected.{picked-left, get-left}
use Rattle.psg_relation.proofs.Pairing.{sort_at, value_at}
use Rattle.psg_relation.proofs.Solving.{term_at}

-- ---- rows without variables

row-closed : (g : Substitution) (row : List Term) → highest_in row ≡ 0 → map (substitute g) row ≡ row
row-closed g [] e = refl
row-closed g (t ∷ row) e = ap₂ (λ x xs. x ∷ xs) (substitute-closed g t (omega (arith, e))) (row-closed g row (omega (arith, e)))

row-variables : (row : List Term) → highest_in row ≡ 0 → variables_of row ≡ []
row-variables [] e = refl
row-variables (t ∷ row) e = ap₂ (λ x y. x ++ y) (variables-closed t (omega (arith, e))) (row-variables row (omega (arith, e)))

row-written : (sig : Signature) (row : List Term) → highest_in row ≡ 0 → AreWrittenOut sig row
row-written sig [] e = tt
row-written sig (t ∷ row) e = (written-closed sig t (omega (arith, e)), row-written sig row (omega (arith, e)))

pub closed_canonical : (sig : Signature) (row : List Term) → highest_in row ≡ 0 → IsCanonical sig row
closed_canonical sig row e = record {
  numbered = subst (λ xs. IsNumberedFrom 1 (noted_all [] xs)) (sym (row-variables row e)) tt;
  written = row-written sig row e;
}

pub same_itself : (sig : Signature) (row : List Term) → HasSameInstances sig row row
same_itself sig row = (λ x i. i, λ x i. i)

-- ---- two rows that agree for all values

module _ (sig : Signature) (left right : List Term) (pairs : List Pair) (settled : AreSettled left right pairs true) where
  -- where one row has no variables, both rows together are one row
  pub beside_exact : (highest_in left ≡ 0) ⊎ (highest_in right ≡ 0) → (full : List Term) → IsGroundInstance sig (left ++ right) full ↔ IsAgreeing sig left right pairs full
  beside_exact one full = (to, λ (l, r, (f, gf, el), (g, gg, er), agree, e). back l r f gf el g gg er e one) where
    to : IsGroundInstance sig (left ++ right) full → IsAgreeing sig left right pairs full
    to (h, gh, e) = (
      map (substitute h) left,
      map (substitute h) right,
      (h, gh, refl),
      (h, gh, refl),
      settled h h,
      e ∙ map-append (substitute h) left right,
    )

    back : (l r : List Term) (f : Substitution) → IsGrounding sig f → l ≡ map (substitute f) left → (g : Substitution) → IsGrounding sig g → r ≡ map (substitute g) right → full ≡ l ++ r
        → (highest_in left ≡ 0) ⊎ (highest_in right ≡ 0) → IsGroundInstance sig (left ++ right) full
    back l r f gf el g gg er e (inl closed) = (g, gg, e ∙ ap₂ (λ x y. x ++ y) (el ∙ row-closed f left closed ∙ sym (row-closed g left closed)) er ∙ sym (map-append (substitute g) left right))
    back l r f gf el g gg er e (inr closed) = (f, gf, e ∙ ap₂ (λ x y. x ++ y) el (er ∙ row-closed g right closed ∙ sym (row-closed f right closed)) ∙ sym (map-append (substitute f) left right))

-- the kept columns, with canonical numbers
pub kept_join : (sig : Signature) (pairs : List Pair) (keep : List ℕ) (left right joined row : List Term) → IsCanonical sig row → HasSameInstances sig row (picked joined keep)
    → ((ss : List ℕ) → HaveSorts sig (picked joined keep) ss → HaveSorts sig row ss)
    → ((full : List Term) → IsGroundInstance sig joined full ↔ IsAgreeing sig left right pairs full)
    → ((ls rs : List ℕ) → HaveSorts sig left ls → HaveSorts sig right rs → HaveSorts sig joined (ls ++ rs)) → IsJoinOf sig pairs keep left right row
kept_join sig pairs keep left right joined row can same sorted exact typed =
    join_of sig pairs keep left right joined row (record { written = can.written; canonical = λ _. can }) same exact
    (λ ls rs hl hr. sorted (picked (ls ++ rs) keep) (picked-sorts sig joined (ls ++ rs) keep (typed ls rs hl hr)))

-- ---- a right row that is one variable

module _ (sig : Signature) (sound : IsSound sig) (pairs : List Pair) (keep : List ℕ) (left right row : List Term) (j : AreJoinable sig left right pairs)
    (v n i : ℕ) (right_is : right ≡ variable v n ∷ []) (pairs_are : pairs ≡ (i, 0) ∷ []) (below : All (λ (k : ℕ). k < length left) keep) where
  pub any_same : picked (left ++ right) keep ≡ picked left keep
  any_same = picked-left left right keep below

  equal_sort : (s : ℕ) × (slice_get j.left_sorts i ≡ Some s) × (slice_get j.right_sorts 0 ≡ Some s)
  equal_sort = (subst (AreOfEqualSort j.left_sorts j.right_sorts) pairs_are j.equal).0

  column : (u : Term) × (slice_get left i ≡ Some u) × HasSort sig u equal_sort.0
  column = term_at sig left j.left_sorts i equal_sort.0 j.left_sorted equal_sort.1

  variable_sort : HasSort sig (variable v n) equal_sort.0
  variable_sort = sort_at sig right j.right_sorts 0 (variable v n) equal_sort.0 j.right_sorted (ap (λ (r : List Term). slice_get r 0) right_is) equal_sort.2

  -- any value of the paired column is one of the variable
  module _ (f : Substitution) (gf : IsGrounding sig f) where
    abbrev value : Term
    value = substitute f column.0

    abbrev by_value : Substitution
    by_value p q = cond (same_variable (v, n) (p, q)) value ((choices sig sound).some p)

    value_ground : IsGround value
    value_ground = ground-substitute sig f gf column.0 [] equal_sort.0 column.2

    value_sort : HasSort sig value v
    value_sort = subst (HasSort sig value) (sym variable_sort.2) (Takes-substitute sig f gf.sorted column.0 [] equal_sort.0 column.2)

    value_grounding : IsGrounding sig by_value
    value_grounding = record {
      variable_free = λ p q l. elim (cases_Bool (same_variable (v, n) (p, q))) [
        | inl e ↦ subst (λ b. IsGround (cond b value ((choices sig sound).some p))) (sym e) value_ground
        | inr e ↦ subst (λ b. IsGround (cond b value ((choices sig sound).some p))) (sym e) ((grounding sig (choices sig sound)).variable_free p q l)
      ];
      sorted = λ p q l. elim (cases_Bool (same_variable (v, n) (p, q))) [
        | inl e ↦ subst (λ b. HasSort sig (cond b value ((choices sig sound).some p)) p) (sym e) (subst (λ (x : Variable). HasSort sig value x.0) (same_variable-true (v, n) (p, q) e) value_sort)
        | inr e ↦ subst (λ b. HasSort sig (cond b value ((choices sig sound).some p)) p) (sym e) ((grounding sig (choices sig sound)).sorted p q l)
      ];
    }

    value_here : by_value v n ≡ value
    value_here = ap (λ b. cond b value ((choices sig sound).some v)) (same_variable-refl (v, n))

    value_row : value ∷ [] ≡ map (substitute by_value) right
    value_row = ap (λ (t : Term). t ∷ []) (sym value_here) ∙ sym (ap (map (substitute by_value)) right_is)

    value_agrees : (l : List Term) → l ≡ map (substitute f) left → AgreeOn pairs l (value ∷ [])
    value_agrees l e = subst (λ ps. AgreeOn ps l (value ∷ [])) (sym pairs_are) (ap (λ (r : List Term). slice_get r i) e ∙ value_at f left i column.0 column.1, tt)

  below_instance : (f : Substitution) (l : List Term) → l ≡ map (substitute f) left → All (λ (k : ℕ). k < length l) keep
  below_instance f l e = subst (λ c. All (λ (k : ℕ). k < c) keep) (sym (ap (λ (r : List Term). length r) e ∙ length-map left (substitute f))) below

  pub any_join : IsCanonical sig row → HasSameInstances sig row (picked (left ++ right) keep) → ((ss : List ℕ) → HaveSorts sig (picked (left ++ right) keep) ss → HaveSorts sig row ss) → IsJoinOf sig pairs keep left right row
  any_join can same sorted = record {
    ready = record { written = can.written; canonical = λ _. can };
    to = λ x g.
        let (full, (f, gf, ef), ex) = (picked_ground sig left keep x).0 (subst (λ r. IsGroundInstance sig r x) any_same (same.0 x g)) in
        let t : Term = substitute f column.0 in (
          full ++ t ∷ [],
          (full, t ∷ [], (f, gf, ef), (by_value f gf, value_grounding f gf, value_row f gf), value_agrees f gf full ef, refl),
          ex ∙ sym (picked-left full (t ∷ []) keep (below_instance f full ef)),
        );
    back = λ x (full, (l, r, (f, gf, el), gr, agree, e), ex).
        same.1 x (subst (λ z. IsGroundInstance sig z x) (sym any_same)
        ((picked_ground sig left keep x).1 (l, (f, gf, el), ex ∙ ap (λ z. picked z keep) e ∙ picked-left l r keep (below_instance f l el))));
    sorted = λ ls rs hl hr. sorted (picked (ls ++ rs) keep) (picked-sorts sig (left ++ right) (ls ++ rs) keep (sorts-append sig left right ls rs hl hr));
  }

-- ---- loops

-- one column more of two rows
pub get-right : {X : Type 0} (l r : List X) (k : ℕ) → slice_get (l ++ r) (length l + k) ≡ slice_get r k
get-right [] r k = let e : 0 + k ≡ k = omega arith in ap (slice_get r) e
get-right (t ∷ l) r k = let e : length (t ∷ l) + k ≡ suc (length l + k) = omega arith in ap (slice_get (t ∷ (l ++ r))) e ∙ get-right l r k

pub at_right : {X : Type 0} (l r : List X) (i k : ℕ) (v : X) → slice_get r i ≡ Some v → k ≡ length l + i → slice_get (l ++ r) k ≡ Some v
at_right l r i k v e d = ap (slice_get (l ++ r)) d ∙ get-right l r i ∙ e

pub at_left : {X : Type 0} (l r : List X) (k : ℕ) (v : X) → k < length l → slice_get l k ≡ Some v → slice_get (l ++ r) k ≡ Some v
at_left l r k v lt e = get-left l r k lt ∙ e

-- rows that agree for no values have no join
pub settled_none : (sig : Signature) (left right : List Term) (pairs : List Pair) (keep : List ℕ) → AreSettled left right pairs false → (x : List Term) → Joins sig pairs keep left right x → ⊥
settled_none sig left right pairs keep h x (full, (l, r, (f, gf, el), (g, gg, er), agree, e), ex) =
    h f g (subst (λ z. AgreeOn pairs z (map (substitute g) right)) el (subst (AgreeOn pairs l) er agree))

pub one_column : (row : List Term) (t : Term) → length row ≡ 1 → t ≡ get_or row 0 t → row ≡ t ∷ []
one_column [] t l e = absurd (omega (arith, l))
one_column (x ∷ []) t l e = ap (λ (y : Term). y ∷ []) (sym e)
one_column (x ∷ y ∷ row) t l e = absurd (omega (arith, l))

pub one_pair : (pairs : List Pair) → length pairs ≡ 1 → (get_or pairs 0 (0, 0)).1 ≡ 0 → pairs ≡ ((get_or pairs 0 (0, 0)).0, 0) ∷ []
one_pair [] l e = absurd (omega (arith, l))
one_pair (p ∷ []) l e = ap (λ (k : ℕ). (p.0, k) ∷ []) e
one_pair (p ∷ q ∷ pairs) l e = absurd (omega (arith, l))
