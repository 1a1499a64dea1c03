-- The regions around names, as they are kept while the names are gone through.
use Rattle.std.proofs.Common.{◌≡◌, ℕ, zero, suc, ◌+◌, ◌-◌, ◌<◌, ◌≤◌, ◌==◌, ◌&&◌, not, Bool, true, false, cond, List, [], ◌∷◌, ◌++◌, length, take, slice_get, Option, Some, None, refl, ap, ap₂, sym, ◌∙◌, subst, arith, append-nil}
use Rattle.std.specs.Prelude.{MatchOption, option_to_list}
use Rattle.std.specs.List.{starts_with}
use Rattle.std.proofs.lemmas.Bool.{and_parts, eqb-true, true≢false}
use Rattle.std.proofs.lemmas.List.{length-take-le, length_push, same_from_push}
use Rattle.std.proofs.lemmas.Option.{none-some}
use Rattle.psg_terms.proofs.Lists.{suc_is_not_zero}
use Rattle.psg_grammar.specs.declared.types.Definition.{Definition}
use Rattle.psg_grammar.specs.Fragments.{Fragment}
use Rattle.psg_grammar.specs.Paths.{Path, node_at}
use Rattle.psg_uses.specs.declared.names.Written.{Written}
use Rattle.psg_uses.specs.Naming.{names_below}
use Rattle.psg_uses.specs.Regions.{begins_region, begins_with, declared_with, is_root}
use Rattle.psg_links.specs.declared.around.Region.{Region}
use Rattle.psg_links.specs.Around.{IsOnWay, is_beside, is_front, looked_at, region_by, regions_around, regions_at, regions_upto}

pub root_is : (p : Path) → (length p == 0) ≡ is_root p
root_is [] = refl
root_is (k ∷ p) = suc_is_not_zero (length p)

-- ---- paths and lists

take_take : {X : Type 0} (n m : ℕ) (p : List X) → n ≤ m → take n (take m p) ≡ take n p
take_take zero m p h = refl
take_take (suc n) zero p h = absurd (omega (arith, h))
take_take (suc n) (suc m) [] h = refl
take_take (suc n) (suc m) (x ∷ p) h = ap (λ q. x ∷ q) (take_take n m p (omega (arith, h)))

none_more : (xs : List Region) (x : Region) → xs ++ x ∷ [] ≡ [] → ⊥
none_more xs x h =
    let none : length (xs ++ x ∷ []) ≡ 0 = ap length h in
    let long = length_push xs x in
    omega (arith, none, long)

abbrev Ends : List Region → Region → Type 0
Ends rs r = (front : List Region) × (rs ≡ front ++ r ∷ [])

one_longer : (x : Region) (rs : List Region) (r : Region) → Ends rs r → Ends (x ∷ rs) r
one_longer x rs r h = (x ∷ h.0, ap (λ l. x ∷ l) h.1)

one_less : (x y : Region) (ys : List Region) (r : Region) → slice_get (x ∷ y ∷ ys) (length (x ∷ y ∷ ys) - 1) ≡ Some r
    → slice_get (y ∷ ys) (length (y ∷ ys) - 1) ≡ Some r
one_less x y ys r h =
    let less : length (x ∷ y ∷ ys) - 1 ≡ suc (length (y ∷ ys) - 1) = omega arith in
    subst (λ n. slice_get (x ∷ y ∷ ys) n ≡ Some r) less h

last_form : (rs : List Region) (r : Region) → slice_get rs (length rs - 1) ≡ Some r → Ends rs r
last_form [] r h = absurd (none-some r h)
last_form (x ∷ []) r h = let same : x ≡ r = cc in ([], ap (λ y. y ∷ []) same)
last_form (x ∷ y ∷ ys) r h = one_longer x (y ∷ ys) r (last_form (y ∷ ys) r (one_less x y ys r h))

there_is : (rs : List Region) (n : ℕ) → n < length rs → (r : Region) × (slice_get rs n ≡ Some r)
there_is [] n h = absurd (omega (arith, h))
there_is (x ∷ rs) zero h = (x, refl)
there_is (x ∷ rs) (suc n) h = there_is rs n (omega (arith, h))

last_none : (rs : List Region) → slice_get rs (length rs - 1) ≡ None → rs ≡ []
last_none [] h = refl
last_none (x ∷ rs) h =
    let (r, e) = there_is (x ∷ rs) (length (x ∷ rs) - 1) (omega arith) in absurd (none-some r (sym h ∙ e))

-- ---- the last of the regions

beside_last : (rs : List Region) (r : Region) (p : Path) → is_beside (rs ++ r ∷ []) p ≡ not (is_front r.path p)
beside_last [] r p = refl
beside_last (x ∷ []) r p = refl
beside_last (x ∷ y ∷ rs) r p = beside_last (y ∷ rs) r p

looked_last : (rs : List Region) (r : Region) → looked_at (rs ++ r ∷ []) ≡ suc (length r.path)
looked_last [] r = refl
looked_last (x ∷ []) r = refl
looked_last (x ∷ y ∷ rs) r = looked_last (y ∷ rs) r

pub beside_some : (rs : List Region) (r : Region) (p : Path) (t : Bool) → slice_get rs (length rs - 1) ≡ Some r → t ≡ is_front r.path p → not t ≡ is_beside rs p
beside_some rs r p t h e =
    let (front, is) = last_form rs r h in ap not e ∙ sym (ap (λ l. is_beside l p) is ∙ beside_last front r p)

pub beside_none : (rs : List Region) (p : Path) → slice_get rs (length rs - 1) ≡ None → false ≡ is_beside rs p
beside_none rs p h = sym (ap (λ l. is_beside l p) (last_none rs h))

pub looked_some : (rs : List Region) (r : Region) (n : ℕ) → slice_get rs (length rs - 1) ≡ Some r → n ≡ length r.path → n + 1 ≡ looked_at rs
looked_some rs r n h e =
    let (front, is) = last_form rs r h in
    let more : n + 1 ≡ suc (length r.path) = omega (arith, e) in
    more ∙ sym (ap looked_at is ∙ looked_last front r)

pub looked_none : (rs : List Region) → slice_get rs (length rs - 1) ≡ None → 0 ≡ looked_at rs
looked_none rs h = sym (ap looked_at (last_none rs h))

pub front_same : (q p : Path) → starts_with ◌==◌ p q ≡ is_front q p
front_same [] p = refl
front_same (k ∷ q) [] = refl
front_same (k ∷ q) (m ∷ p) = ap (λ b. k == m && b) (front_same q p)

front_is : (q p : Path) → is_front q p ≡ true → (length q ≤ length p) × (q ≡ take (length q) p)
front_is [] p h = (omega arith, refl)
front_is (k ∷ q) [] h = absurd (true≢false (sym h))
front_is (k ∷ q) (m ∷ p) h =
    let (one, rest) = and_parts (k == m) (is_front q p) h in
    let (short, same) = front_is q p rest in
    (omega (arith, short), ap₂ (λ a b. a ∷ b) (eqb-true k m one) same)

not_false : (b : Bool) → not b ≡ false → b ≡ true
not_false true h = refl
not_false false h = absurd (true≢false h)

beside_not_empty : (rs : List Region) (p : Path) → is_beside rs p ≡ true → 0 < length rs
beside_not_empty [] p h = absurd (true≢false (sym h))
beside_not_empty (r ∷ rs) p h = omega arith

-- one fewer is left
pub fewer : (regions rest : List Region) (r : Option Region) (p : Path) (n m : ℕ) → is_beside regions p ≡ true → n ≡ length regions
    → MatchOption r ((n ≡ 0) × (m ≡ 0)) (λ _. m + 1 ≡ n) → regions ≡ rest ++ option_to_list r → length rest < length regions
fewer regions rest None p n m h long none e =
    let some = beside_not_empty regions p h in let zero_long = none.0 in absurd (omega (arith, long, some, zero_long))
fewer regions rest (Some x) p n m h long one e =
    let grown : length regions ≡ length (rest ++ x ∷ []) = ap length e in
    let push = length_push rest x in
    omega (arith, grown, push)

-- ---- the regions on the way to a there

abbrev region_with : Path → List Written → Region
region_with q names = record { path = q; declared = names }

module _ (def : Definition) (f : Fragment) where
  pub region_is : (q : Path) (g : Fragment) (names : List Written) → node_at f q ≡ Some g → begins_region def f q ≡ true
      → names ≡ names_below def true false q 0 g → region_with q names ≡ region_by def f q
  region_is q g names at begins d =
      ap (region_with q) (d ∙ sym (ap (declared_with def q) at)
      ∙ sym (ap (λ b. cond b (declared_with def q (node_at f q)) []) begins))

  pub begins_there : (q : Path) (g : Fragment) (new : Bool) → node_at f q ≡ Some g → new ≡ begins_with def q (Some g) → begins_region def f q ≡ new
  begins_there q g new at h = ap (begins_with def q) at ∙ sym h

  pub none_there : (q : Path) → node_at f q ≡ None → [] ≡ regions_at def f q
  none_there q at = sym (ap (λ o. cond (begins_with def q o) (region_by def f q ∷ []) []) at)

  pub none_begins : (q : Path) → begins_region def f q ≡ false → [] ≡ regions_at def f q
  none_begins q h = sym (ap (λ b. cond b (region_by def f q ∷ []) []) h)

  pub one_begins : (q : Path) (r : Region) → begins_region def f q ≡ true → r ≡ region_by def f q → r ∷ [] ≡ regions_at def f q
  one_begins q r h e = ap (λ x. x ∷ []) e ∙ sym (ap (λ b. cond b (region_by def f q ∷ []) []) h)

  -- one more step was looked at
  pub upto_pushed : (p : Path) (n : ℕ) (old new own : List Region) → old ≡ regions_upto def f p n → own ≡ regions_at def f (take n p)
      → new ≡ old ++ own → new ≡ regions_upto def f p (n + 1)
  upto_pushed p n old new own h o k =
      let next : suc n ≡ n + 1 = omega arith in
      k ∙ ap₂ (λ a b. a ++ b) h o ∙ ap (regions_upto def f p) next

  upto_take : (p : Path) (m n : ℕ) → n ≤ suc m → regions_upto def f (take m p) n ≡ regions_upto def f p n
  upto_take p m zero h = refl
  upto_take p m (suc n) h =
      ap₂ (λ a b. a ++ b) (upto_take p m n (omega (arith, h))) (ap (regions_at def f) (take_take n m p (omega (arith, h))))

  data LastOf (p : Path) (n : ℕ) : Type 0 where
    none_yet : regions_upto def f p n ≡ [] → LastOf p n
    one_last : (m : ℕ) → m < n → begins_region def f (take m p) ≡ true
        → regions_upto def f p n ≡ regions_upto def f p m ++ region_by def f (take m p) ∷ [] → LastOf p n

  same_upto : (p : Path) (n : ℕ) → begins_region def f (take n p) ≡ false → regions_upto def f p (suc n) ≡ regions_upto def f p n
  same_upto p n e =
      ap (λ c. regions_upto def f p n ++ cond c (region_by def f (take n p) ∷ []) []) e ∙ append-nil (regions_upto def f p n)

  last_step : (p : Path) (n : ℕ) (b : Bool) → begins_region def f (take n p) ≡ b → LastOf p n → LastOf p (suc n)
  last_step p n true e prior =
      one_last n (omega arith) e (ap (λ c. regions_upto def f p n ++ cond c (region_by def f (take n p) ∷ []) []) e)
  last_step p n false e (none_yet z) = none_yet (same_upto p n e ∙ z)
  last_step p n false e (one_last m lt b s) = one_last m (omega (arith, lt)) b (same_upto p n e ∙ s)

  last_of : (p : Path) (n : ℕ) → LastOf p n
  last_of p zero = none_yet refl
  last_of p (suc n) = last_step p n (begins_region def f (take n p)) refl (last_of p n)

  popped_by : (rest : List Region) (x : Region) (p : Path) (n : ℕ) → n ≤ suc (length p) → rest ++ x ∷ [] ≡ regions_upto def f p n
      → LastOf p n → IsOnWay def f rest
  popped_by rest x p n few h (none_yet z) = absurd (none_more rest x (h ∙ z))
  popped_by rest x p n few h (one_last m lt b s) = record {
    path = p;
    many = m;
    few = omega (arith, few, lt);
    are = (same_from_push rest (regions_upto def f p m) x (region_by def f (take m p)) (h ∙ s)).0;
  }

  pub popped : (regions rest : List Region) (r : Option Region) → regions ≡ rest ++ option_to_list r → IsOnWay def f regions → IsOnWay def f rest
  popped regions rest None h on =
      record { path = on.path; many = on.many; few = on.few; are = sym (append-nil rest) ∙ sym h ∙ on.are }
  popped regions rest (Some x) h on = popped_by rest x on.path on.many on.few (sym h ∙ on.are) (last_of on.path on.many)

  looked_by : (regions : List Region) (p q : Path) (n : ℕ) → n ≤ suc (length q) → regions ≡ regions_upto def f q n → is_beside regions p ≡ false
      → LastOf q n → (looked_at regions ≤ length p + 1) × (regions ≡ regions_upto def f p (looked_at regions))
  looked_by regions p q n few are h (none_yet z) =
      let none : [] ≡ regions = sym (are ∙ z) in (
        subst (λ rs. looked_at rs ≤ length p + 1) none (omega arith),
        subst (λ rs. rs ≡ regions_upto def f p (looked_at rs)) none refl,
      )
  looked_by regions p q n few are h (one_last m lt b s) =
      let own : Region = region_by def f (take m q) in
      let e : regions ≡ regions_upto def f q m ++ own ∷ [] = are ∙ s in
      let long : length (take m q) ≡ m = length-take-le m q (omega (arith, lt, few)) in
      let beside : not (is_front (take m q) p) ≡ false =
      sym (beside_last (regions_upto def f q m) own p) ∙ ap (λ rs. is_beside rs p) (sym e) ∙ h in
      let (short, same) = front_is (take m q) p (not_false (is_front (take m q) p) beside) in
      let way : take m q ≡ take m p = same ∙ ap (λ k. take k p) long in
      let many : looked_at regions ≡ suc m =
      ap looked_at e ∙ looked_last (regions_upto def f q m) own ∙ ap (λ k. suc k) long in
      let upto : regions_upto def f q m ≡ regions_upto def f p m =
      sym (upto_take q m m (omega arith)) ∙ ap (λ a. regions_upto def f a m) way ∙ upto_take p m m (omega arith) in
      let starts : begins_region def f (take m p) ≡ true = ap (begins_region def f) (sym way) ∙ b in
      let all : regions ≡ regions_upto def f p (suc m) =
      e ∙ ap₂ (λ a c. a ++ region_by def f c ∷ []) upto way
      ∙ sym (ap (λ c. regions_upto def f p m ++ cond c (region_by def f (take m p) ∷ []) []) starts) in
      (omega (arith, many, long, short), all ∙ ap (regions_upto def f p) (sym many))

  -- the regions that are left are those of the first steps
  pub looked : (regions : List Region) (p : Path) → IsOnWay def f regions → is_beside regions p ≡ false
      → (looked_at regions ≤ length p + 1) × (regions ≡ regions_upto def f p (looked_at regions))
  looked regions p on h = looked_by regions p on.path on.many on.few on.are h (last_of on.path on.many)

  pub on_way : (regions : List Region) (p : Path) → regions ≡ regions_around def f p → IsOnWay def f regions
  on_way regions p h = record { path = p; many = suc (length p); few = omega arith; are = h }

  pub none_on_way : (regions : List Region) → regions ≡ [] → IsOnWay def f regions
  none_on_way regions h = record { path = []; many = 0; few = omega arith; are = h }
