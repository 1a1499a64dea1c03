-- The regions around names, as they are kept while the names are gone through, and the names that are free.
use Rattle.std.proofs.Common.{◌≡◌, inl, inr, ℕ, zero, suc, ◌+◌, ◌-◌, ◌<◌, ◌≤◌, ◌==◌, ◌||◌, ◌&&◌, not, Bool, true, false, cond, List, [], ◌∷◌, ◌++◌, length, take, drop, get_or, slice_get, bytes_eq, Option, Some, None, refl, ap, ap₂, sym, ◌∙◌, subst, arith, append_assoc, append-nil}
use Rattle.std.specs.Prelude.{MatchOption, option_to_list}
use Rattle.std.specs.List.{list_any, starts_with}
use Rattle.std.proofs.Math.Bool.{or-false, or-true}
use Rattle.std.proofs.lemmas.Bool.{and_from, and_parts, cases_Bool, cases_lt, eq-eqb, eqb-true, false_from_ne_true, ne_eqb, or_cases, or_from, or_left, true≢false}
use Rattle.std.proofs.lemmas.List.{drop_all, length-take-le, length_push, same_from_push}
use Rattle.std.proofs.lemmas.List.Folds.{list_any-append}
use Rattle.std.proofs.lemmas.Option.{none-some}
use Rattle.psg_terms.proofs.Lists.{drop_item}
use Rattle.psg_grammar.specs.declared.types.Definition.{Definition}
use Rattle.psg_grammar.specs.declared.types.Kind.TheVariants as kinds
use Rattle.psg_grammar.specs.Fragments.{Fragment, hole, ending, cell, operator, with_child, with_name, with_number, with_text, anything, observed}
use Rattle.psg_grammar.specs.Declaring.{is_declaring}
use Rattle.psg_grammar.specs.Lookups.{is_scope}
use Rattle.psg_grammar.specs.Paths.{Path, node_at}
use Rattle.psg_grammar.specs.Regions.{unfinished_inside}
use Rattle.psg_grammar.specs.Sound.{IsSound}
use Rattle.psg_grammar.proofs.DeclaringLaws.{found_declares}
use Rattle.psg_grammar.proofs.PassLaws.{space_inside}
use Rattle.psg_scope.proofs.KeyLists.{key_is, key_refl}
use Rattle.psg_uses.specs.declared.free.Region.{Region}
use Rattle.psg_uses.specs.declared.names.Written.{Written}
use Rattle.psg_uses.specs.Free.{first_of_each, free_uses, has_key, is_linked, other_keys, unlinked}
use Rattle.psg_uses.specs.ByParts.{has_number}
use Rattle.psg_uses.specs.Linked.{IsOnWay, is_beside, is_front, is_linked_in, links, looked_at, open_below, region_by, regions_around, regions_at, regions_upto}
use Rattle.psg_uses.specs.Naming.{is_same_key, names_below, used_names}
use Rattle.psg_uses.specs.Regions.{begins_region, begins_with, declared_of, declared_on, declared_with, is_unfinished_with, may_be_declared, ways_from}

-- ---- paths and lists

take_take : {X : Type 0} (n m : ℕ) (p : List X) → n ≤ m → take n (take m p) ≡ take n p
take_take zero m p h = refl
take_take (suc n) zero p h = absurd (omega (arith, h))
take_take (suc n) (suc m) [] h = refl
take_take (suc n) (suc m) (x ∷ p) h = ap (λ q. x ∷ q) (take_take n m p (omega (arith, h)))

none_more : (xs : List Region) (x : Region) → xs ++ x ∷ [] ≡ [] → ⊥
none_more xs x h =
    let none : length (xs ++ x ∷ []) ≡ 0 = ap length h in
    let long = length_push xs x in
    omega (arith, none, long)

abbrev Ends : List Region → Region → Type 0
Ends rs r = (front : List Region) × (rs ≡ front ++ r ∷ [])

one_longer : (x : Region) (rs : List Region) (r : Region) → Ends rs r → Ends (x ∷ rs) r
one_longer x rs r h = (x ∷ h.0, ap (λ l. x ∷ l) h.1)

one_less : (x y : Region) (ys : List Region) (r : Region) → slice_get (x ∷ y ∷ ys) (length (x ∷ y ∷ ys) - 1) ≡ Some r
    → slice_get (y ∷ ys) (length (y ∷ ys) - 1) ≡ Some r
one_less x y ys r h =
    let less : length (x ∷ y ∷ ys) - 1 ≡ suc (length (y ∷ ys) - 1) = omega arith in
    subst (λ n. slice_get (x ∷ y ∷ ys) n ≡ Some r) less h

last_form : (rs : List Region) (r : Region) → slice_get rs (length rs - 1) ≡ Some r → Ends rs r
last_form [] r h = absurd (none-some r h)
last_form (x ∷ []) r h = let same : x ≡ r = cc in ([], ap (λ y. y ∷ []) same)
last_form (x ∷ y ∷ ys) r h = one_longer x (y ∷ ys) r (last_form (y ∷ ys) r (one_less x y ys r h))

there_is : (rs : List Region) (n : ℕ) → n < length rs → (r : Region) × (slice_get rs n ≡ Some r)
there_is [] n h = absurd (omega (arith, h))
there_is (x ∷ rs) zero h = (x, refl)
there_is (x ∷ rs) (suc n) h = there_is rs n (omega (arith, h))

last_none : (rs : List Region) → slice_get rs (length rs - 1) ≡ None → rs ≡ []
last_none [] h = refl
last_none (x ∷ rs) h =
    let (r, e) = there_is (x ∷ rs) (length (x ∷ rs) - 1) (omega arith) in absurd (none-some r (sym h ∙ e))

-- ---- the last of the regions

beside_last : (rs : List Region) (r : Region) (p : Path) → is_beside (rs ++ r ∷ []) p ≡ not (is_front r.path p)
beside_last [] r p = refl
beside_last (x ∷ []) r p = refl
beside_last (x ∷ y ∷ rs) r p = beside_last (y ∷ rs) r p

looked_last : (rs : List Region) (r : Region) → looked_at (rs ++ r ∷ []) ≡ suc (length r.path)
looked_last [] r = refl
looked_last (x ∷ []) r = refl
looked_last (x ∷ y ∷ rs) r = looked_last (y ∷ rs) r

pub beside_some : (rs : List Region) (r : Region) (p : Path) (t : Bool) → slice_get rs (length rs - 1) ≡ Some r → t ≡ is_front r.path p → not t ≡ is_beside rs p
beside_some rs r p t h e =
    let (front, is) = last_form rs r h in ap not e ∙ sym (ap (λ l. is_beside l p) is ∙ beside_last front r p)

pub beside_none : (rs : List Region) (p : Path) → slice_get rs (length rs - 1) ≡ None → false ≡ is_beside rs p
beside_none rs p h = sym (ap (λ l. is_beside l p) (last_none rs h))

pub looked_some : (rs : List Region) (r : Region) (n : ℕ) → slice_get rs (length rs - 1) ≡ Some r → n ≡ length r.path → n + 1 ≡ looked_at rs
looked_some rs r n h e =
    let (front, is) = last_form rs r h in
    let more : n + 1 ≡ suc (length r.path) = omega (arith, e) in
    more ∙ sym (ap looked_at is ∙ looked_last front r)

pub looked_none : (rs : List Region) → slice_get rs (length rs - 1) ≡ None → 0 ≡ looked_at rs
looked_none rs h = sym (ap looked_at (last_none rs h))

pub front_same : (q p : Path) → starts_with ◌==◌ p q ≡ is_front q p
front_same [] p = refl
front_same (k ∷ q) [] = refl
front_same (k ∷ q) (m ∷ p) = ap (λ b. k == m && b) (front_same q p)

front_is : (q p : Path) → is_front q p ≡ true → (length q ≤ length p) × (q ≡ take (length q) p)
front_is [] p h = (omega arith, refl)
front_is (k ∷ q) [] h = absurd (true≢false (sym h))
front_is (k ∷ q) (m ∷ p) h =
    let (one, rest) = and_parts (k == m) (is_front q p) h in
    let (short, same) = front_is q p rest in
    (omega (arith, short), ap₂ (λ a b. a ∷ b) (eqb-true k m one) same)

not_false : (b : Bool) → not b ≡ false → b ≡ true
not_false true h = refl
not_false false h = absurd (true≢false h)

beside_not_empty : (rs : List Region) (p : Path) → is_beside rs p ≡ true → 0 < length rs
beside_not_empty [] p h = absurd (true≢false (sym h))
beside_not_empty (r ∷ rs) p h = omega arith

-- one fewer is left
pub fewer : (regions rest : List Region) (r : Option Region) (p : Path) (n m : ℕ) → is_beside regions p ≡ true → n ≡ length regions
    → MatchOption r ((n ≡ 0) × (m ≡ 0)) (λ _. m + 1 ≡ n) → regions ≡ rest ++ option_to_list r → length rest < length regions
fewer regions rest None p n m h long none e =
    let some = beside_not_empty regions p h in let zero_long = none.0 in absurd (omega (arith, long, some, zero_long))
fewer regions rest (Some x) p n m h long one e =
    let grown : length regions ≡ length (rest ++ x ∷ []) = ap length e in
    let push = length_push rest x in
    omega (arith, grown, push)

-- ---- the spaces in which a region may still declare

other_one : (b : Bool) (n s : ℕ) → (n ≡ s → ⊥) → has_number (cond b (n ∷ []) []) s ≡ false
other_one false n s h = refl
other_one true n s h = or_from (n == s) false (ne_eqb n s h) refl

own_one : (b : Bool) (n : ℕ) → has_number (cond b (n ∷ []) []) n ≡ b
own_one false n = refl
own_one true n = or_left (n == n) false (eq-eqb n n refl)

module _ (def : Definition) where
  open_more : (there : Option Fragment) (n s : ℕ) → has_number (open_below def there (suc n)) s
      ≡ (has_number (open_below def there n) s || has_number (cond (is_unfinished_with def n there) (n ∷ []) []) s)
  open_more there n s = list_any-append (λ t. t == s) (open_below def there n) (cond (is_unfinished_with def n there) (n ∷ []) [])

  open_no : (there : Option Fragment) (s n : ℕ) → n ≤ s → has_number (open_below def there n) s ≡ false
  open_no there s zero h = refl
  open_no there s (suc n) h =
      open_more there n s
      ∙ or_from (has_number (open_below def there n) s) (has_number (cond (is_unfinished_with def n there) (n ∷ []) []) s)
      (open_no there s n (omega (arith, h))) (other_one (is_unfinished_with def n there) n s (λ e. omega (arith, h, e)))

  open_before : (there : Option Fragment) (s n : ℕ) → s < n → has_number (open_below def there n) s ≡ is_unfinished_with def s there
      → has_number (open_below def there (suc n)) s ≡ is_unfinished_with def s there
  open_before there s n lt prior =
      open_more there n s
      ∙ ap₂ (λ a b. a || b) prior (other_one (is_unfinished_with def n there) n s (λ e. omega (arith, lt, e)))
      ∙ or-false (is_unfinished_with def s there)

  open_now : (there : Option Fragment) (s n : ℕ) → n ≡ s → has_number (open_below def there (suc n)) s ≡ is_unfinished_with def s there
  open_now there s n e =
      open_more there n s
      ∙ ap (λ a. a || has_number (cond (is_unfinished_with def n there) (n ∷ []) []) s) (open_no there s n (omega (arith, e)))
      ∙ subst (λ m. has_number (cond (is_unfinished_with def m there) (m ∷ []) []) s ≡ is_unfinished_with def s there) (sym e)
      (own_one (is_unfinished_with def s there) s)

  open_step : (there : Option Fragment) (s n : ℕ) → s < suc n → (s < n → has_number (open_below def there n) s ≡ is_unfinished_with def s there)
      → has_number (open_below def there (suc n)) s ≡ is_unfinished_with def s there
  open_step there s n h prior = elim (cases_lt s n) [
    | inl lt ↦ open_before there s n lt (prior lt)
    | inr ge ↦ open_now there s n (omega (arith, h, ge))
  ]

  open_yes : (there : Option Fragment) (s n : ℕ) → s < n → has_number (open_below def there n) s ≡ is_unfinished_with def s there
  open_yes there s zero h = absurd (omega (arith, h))
  open_yes there s (suc n) h = open_step there s n h (open_yes there s n)

  -- one more space was looked at
  pub open_pushed : (there : Fragment) (n s : ℕ) (may : Bool) (old new : List ℕ) → old ≡ open_below def (Some there) n → s ≡ n
      → may ≡ unfinished_inside def s there → new ≡ old ++ cond may (s ∷ []) [] → new ≡ open_below def (Some there) (n + 1)
  open_pushed there n s may old new h e m k =
      let next : suc n ≡ n + 1 = omega arith in
      k ∙ ap₂ (λ a b. a ++ cond b (s ∷ []) []) h m
      ∙ ap (λ t. open_below def (Some there) n ++ cond (unfinished_inside def t there) (t ∷ []) []) e
      ∙ ap (open_below def (Some there)) next

module _ (def : Definition) (sound : IsSound def) where
  unfinished_low : (s : ℕ) (g : Fragment) → unfinished_inside def s g ≡ true → s < length def.spaces
  unfinished_low s (hole p) h = absurd (true≢false (sym h))
  unfinished_low s (ending l u) h =
      space_inside def sound s (kinds.List l) (found_declares def s (kinds.List l) (and_parts u (is_declaring def s (kinds.List l)) h).1)
  unfinished_low s (cell l e r) h =
      elim (or_cases (not (is_scope def e) && unfinished_inside def s e) (unfinished_inside def s r) h) [
        | inl a ↦ unfinished_low s e (and_parts (not (is_scope def e)) (unfinished_inside def s e) a).1
        | inr b ↦ unfinished_low s r b
      ]
  unfinished_low s (operator o) h = absurd (true≢false (sym h))
  unfinished_low s (with_child f t) h =
      elim (or_cases (unfinished_inside def s f) (not (is_scope def t) && unfinished_inside def s t) h) [
        | inl a ↦ unfinished_low s f a
        | inr b ↦ unfinished_low s t (and_parts (not (is_scope def t)) (unfinished_inside def s t) b).1
      ]
  unfinished_low s (with_name f n) h = unfinished_low s f h
  unfinished_low s (with_number f n) h = unfinished_low s f h
  unfinished_low s (with_text f t) h = unfinished_low s f h
  unfinished_low s anything h = absurd (true≢false (sym h))
  unfinished_low s (observed f) h = unfinished_low s f h

  none_above : (there : Option Fragment) (s : ℕ) → length def.spaces ≤ s → is_unfinished_with def s there ≡ false
  none_above None s ge = refl
  none_above (Some g) s ge =
      false_from_ne_true (unfinished_inside def s g) (λ e. let lt = unfinished_low s g e in omega (arith, lt, ge))

  open_is : (there : Option Fragment) (s : ℕ) → has_number (open_below def there (length def.spaces)) s ≡ is_unfinished_with def s there
  open_is there s = elim (cases_lt s (length def.spaces)) [
    | inl lt ↦ open_yes def there s (length def.spaces) lt
    | inr ge ↦ open_no def there s (length def.spaces) ge ∙ sym (none_above there s ge)
  ]

-- ---- the regions on the way to a there

abbrev region_with : Path → List Written → List ℕ → Region
region_with q names spaces = record { path = q; declared = names; spaces = spaces }

module _ (def : Definition) (f : Fragment) where
  pub region_is : (q : Path) (g : Fragment) (names : List Written) (spaces : List ℕ) → node_at f q ≡ Some g → begins_region def f q ≡ true
      → names ≡ names_below def true false q 0 g → spaces ≡ open_below def (Some g) (length def.spaces)
      → region_with q names spaces ≡ region_by def f q
  region_is q g names spaces at begins d o =
      ap₂ (region_with q) (d ∙ sym (ap (declared_with def q) at)
      ∙ sym (ap (λ b. cond b (declared_with def q (node_at f q)) []) begins))
      (o ∙ sym (ap (λ n. open_below def n (length def.spaces)) at))

  pub begins_there : (q : Path) (g : Fragment) (new : Bool) → node_at f q ≡ Some g → new ≡ begins_with def q (Some g) → begins_region def f q ≡ new
  begins_there q g new at h = ap (begins_with def q) at ∙ sym h

  pub none_there : (q : Path) → node_at f q ≡ None → [] ≡ regions_at def f q
  none_there q at = sym (ap (λ o. cond (begins_with def q o) (region_by def f q ∷ []) []) at)

  pub none_begins : (q : Path) → begins_region def f q ≡ false → [] ≡ regions_at def f q
  none_begins q h = sym (ap (λ b. cond b (region_by def f q ∷ []) []) h)

  pub one_begins : (q : Path) (r : Region) → begins_region def f q ≡ true → r ≡ region_by def f q → r ∷ [] ≡ regions_at def f q
  one_begins q r h e = ap (λ x. x ∷ []) e ∙ sym (ap (λ b. cond b (region_by def f q ∷ []) []) h)

  -- one more step was looked at
  pub upto_pushed : (p : Path) (n : ℕ) (old new own : List Region) → old ≡ regions_upto def f p n → own ≡ regions_at def f (take n p)
      → new ≡ old ++ own → new ≡ regions_upto def f p (n + 1)
  upto_pushed p n old new own h o k =
      let next : suc n ≡ n + 1 = omega arith in
      k ∙ ap₂ (λ a b. a ++ b) h o ∙ ap (regions_upto def f p) next

  upto_take : (p : Path) (m n : ℕ) → n ≤ suc m → regions_upto def f (take m p) n ≡ regions_upto def f p n
  upto_take p m zero h = refl
  upto_take p m (suc n) h =
      ap₂ (λ a b. a ++ b) (upto_take p m n (omega (arith, h))) (ap (regions_at def f) (take_take n m p (omega (arith, h))))

  data LastOf (p : Path) (n : ℕ) : Type 0 where
    none_yet : regions_upto def f p n ≡ [] → LastOf p n
    one_last : (m : ℕ) → m < n → begins_region def f (take m p) ≡ true
        → regions_upto def f p n ≡ regions_upto def f p m ++ region_by def f (take m p) ∷ [] → LastOf p n

  same_upto : (p : Path) (n : ℕ) → begins_region def f (take n p) ≡ false → regions_upto def f p (suc n) ≡ regions_upto def f p n
  same_upto p n e =
      ap (λ c. regions_upto def f p n ++ cond c (region_by def f (take n p) ∷ []) []) e ∙ append-nil (regions_upto def f p n)

  last_step : (p : Path) (n : ℕ) (b : Bool) → begins_region def f (take n p) ≡ b → LastOf p n → LastOf p (suc n)
  last_step p n true e prior =
      one_last n (omega arith) e (ap (λ c. regions_upto def f p n ++ cond c (region_by def f (take n p) ∷ []) []) e)
  last_step p n false e (none_yet z) = none_yet (same_upto p n e ∙ z)
  last_step p n false e (one_last m lt b s) = one_last m (omega (arith, lt)) b (same_upto p n e ∙ s)

  last_of : (p : Path) (n : ℕ) → LastOf p n
  last_of p zero = none_yet refl
  last_of p (suc n) = last_step p n (begins_region def f (take n p)) refl (last_of p n)

  popped_by : (rest : List Region) (x : Region) (p : Path) (n : ℕ) → n ≤ suc (length p) → rest ++ x ∷ [] ≡ regions_upto def f p n
      → LastOf p n → IsOnWay def f rest
  popped_by rest x p n few h (none_yet z) = absurd (none_more rest x (h ∙ z))
  popped_by rest x p n few h (one_last m lt b s) = record {
    path = p;
    many = m;
    few = omega (arith, few, lt);
    are = (same_from_push rest (regions_upto def f p m) x (region_by def f (take m p)) (h ∙ s)).0;
  }

  pub popped : (regions rest : List Region) (r : Option Region) → regions ≡ rest ++ option_to_list r → IsOnWay def f regions → IsOnWay def f rest
  popped regions rest None h on =
      record { path = on.path; many = on.many; few = on.few; are = sym (append-nil rest) ∙ sym h ∙ on.are }
  popped regions rest (Some x) h on = popped_by rest x on.path on.many on.few (sym h ∙ on.are) (last_of on.path on.many)

  looked_by : (regions : List Region) (p q : Path) (n : ℕ) → n ≤ suc (length q) → regions ≡ regions_upto def f q n → is_beside regions p ≡ false
      → LastOf q n → (looked_at regions ≤ length p + 1) × (regions ≡ regions_upto def f p (looked_at regions))
  looked_by regions p q n few are h (none_yet z) =
      let none : [] ≡ regions = sym (are ∙ z) in (
        subst (λ rs. looked_at rs ≤ length p + 1) none (omega arith),
        subst (λ rs. rs ≡ regions_upto def f p (looked_at rs)) none refl,
      )
  looked_by regions p q n few are h (one_last m lt b s) =
      let own : Region = region_by def f (take m q) in
      let e : regions ≡ regions_upto def f q m ++ own ∷ [] = are ∙ s in
      let long : length (take m q) ≡ m = length-take-le m q (omega (arith, lt, few)) in
      let beside : not (is_front (take m q) p) ≡ false =
      sym (beside_last (regions_upto def f q m) own p) ∙ ap (λ rs. is_beside rs p) (sym e) ∙ h in
      let (short, same) = front_is (take m q) p (not_false (is_front (take m q) p) beside) in
      let way : take m q ≡ take m p = same ∙ ap (λ k. take k p) long in
      let many : looked_at regions ≡ suc m =
      ap looked_at e ∙ looked_last (regions_upto def f q m) own ∙ ap (λ k. suc k) long in
      let upto : regions_upto def f q m ≡ regions_upto def f p m =
      sym (upto_take q m m (omega arith)) ∙ ap (λ a. regions_upto def f a m) way ∙ upto_take p m m (omega arith) in
      let starts : begins_region def f (take m p) ≡ true = ap (begins_region def f) (sym way) ∙ b in
      let all : regions ≡ regions_upto def f p (suc m) =
      e ∙ ap₂ (λ a c. a ++ region_by def f c ∷ []) upto way
      ∙ sym (ap (λ c. regions_upto def f p m ++ cond c (region_by def f (take m p) ∷ []) []) starts) in
      (omega (arith, many, long, short), all ∙ ap (regions_upto def f p) (sym many))

  -- the regions that are left are those of the first steps
  pub looked : (regions : List Region) (p : Path) → IsOnWay def f regions → is_beside regions p ≡ false
      → (looked_at regions ≤ length p + 1) × (regions ≡ regions_upto def f p (looked_at regions))
  looked regions p on h = looked_by regions p on.path on.many on.few on.are h (last_of on.path on.many)

  pub on_way : (regions : List Region) (p : Path) → regions ≡ regions_around def f p → IsOnWay def f regions
  on_way regions p h = record { path = p; many = suc (length p); few = omega arith; are = h }

  pub none_on_way : (regions : List Region) → regions ≡ [] → IsOnWay def f regions
  none_on_way regions h = record { path = []; many = 0; few = omega arith; are = h }

-- ---- they link as the ways up do

abbrev down : Path → ℕ → List Path
down p zero = []
down p (suc n) = take n p ∷ down p n

ways_are : (p : Path) (n : ℕ) → ways_from p n ≡ down p (suc n)
ways_are p zero = refl
ways_are p (suc n) = ap (λ l. take (suc n) p ∷ l) (ways_are p n)

swapped : (a b c d : Bool) → ((a || b) || (c || d)) ≡ ((c || a) || (d || b))
swapped true b true d = refl
swapped true b false d = refl
swapped false true true d = refl
swapped false true false true = refl
swapped false true false false = refl
swapped false false true d = refl
swapped false false false true = refl
swapped false false false false = refl

module _ (def : Definition) (sound : IsSound def) (f : Fragment) (w : Written) where
  own_links : (q : Path) (b : Bool) → begins_region def f q ≡ b → list_any (links w) (cond b (region_by def f q ∷ []) [])
      ≡ (has_key (declared_of def f q) w || (b && is_unfinished_with def w.space (node_at f q)))
  own_links q true e =
      or-false (links w (region_by def f q))
      ∙ ap (λ x. has_key (declared_of def f q) w || x) (open_is def sound (node_at f q) w.space)
  own_links q false e = sym (ap (λ c. has_key (cond c (declared_with def q (node_at f q)) []) w || false) e)

  all_links : (n : ℕ) (p : Path) → list_any (links w) (regions_upto def f p n)
      ≡ (has_key (declared_on def f (down p n)) w || may_be_declared def f w.space (down p n))
  all_links zero p = refl
  all_links (suc n) p =
      let q = take n p in
      let unfinished = begins_region def f q && is_unfinished_with def w.space (node_at f q) in
      list_any-append (links w) (regions_upto def f p n) (regions_at def f q)
      ∙ ap₂ (λ a b. a || b) (all_links n p) (own_links q (begins_region def f q) refl)
      ∙ swapped (has_key (declared_on def f (down p n)) w) (may_be_declared def f w.space (down p n))
      (has_key (declared_of def f q) w) unfinished
      ∙ ap (λ x. x || (unfinished || may_be_declared def f w.space (down p n)))
      (sym (list_any-append (λ d. is_same_key d w) (declared_of def f q) (declared_on def f (down p n))))

  linked_same : is_linked_in (regions_around def f w.path) w ≡ is_linked def f w
  linked_same =
      all_links (suc (length w.path)) w.path
      ∙ ap (λ qs. has_key (declared_on def f qs) w || may_be_declared def f w.space qs) (sym (ways_are w.path (length w.path)))

  pub told_is : (regions : List Region) (free : List Written) (told : Bool) → told ≡ (is_linked_in regions w || has_key free w)
      → regions ≡ regions_around def f w.path → told ≡ (is_linked def f w || has_key free w)
  told_is regions free told h r =
      h ∙ ap (λ b. b || has_key free w) (ap (λ rs. is_linked_in rs w) r ∙ linked_same)

-- ---- names with the same key

pub same_parts : (a b : Written) → is_same_key a b ≡ true → (a.space ≡ b.space) × (a.name ≡ b.name)
same_parts a b h =
    let (space, name) = and_parts (a.space == b.space) (bytes_eq a.name b.name) h in
    (eqb-true a.space b.space space, key_is a.name b.name name)

same_turned : (a b : Written) → is_same_key a b ≡ true → is_same_key b a ≡ true
same_turned a b h =
    let (space, name) = same_parts a b h in
    and_from (b.space == a.space) (bytes_eq b.name a.name) (eq-eqb b.space a.space (sym space))
    (subst (λ m. bytes_eq m a.name ≡ true) name (key_refl a.name))

key_turned : (a b : Written) → is_same_key a b ≡ is_same_key b a
key_turned a b = elim (cases_Bool (is_same_key a b)) [
  | inl h ↦ h ∙ sym (same_turned a b h)
  | inr h ↦ h ∙ sym (false_from_ne_true (is_same_key b a) (λ e. true≢false (sym (same_turned b a e) ∙ h)))
]

abbrev key_in : List Written → ℕ → List ℕ → Bool
key_in seen s n = list_any (λ e. e.space == s && bytes_eq e.name n) seen

key_like : (seen : List Written) (d w : Written) → is_same_key d w ≡ true → has_key seen w ≡ true → has_key seen d ≡ true
key_like seen d w same h = let (space, name) = same_parts d w same in ap₂ (key_in seen) space name ∙ h

key_more : (seen : List Written) (w d : Written) → has_key (seen ++ w ∷ []) d ≡ (has_key seen d || is_same_key d w)
key_more seen w d =
    list_any-append (λ e. is_same_key e d) seen (w ∷ [])
    ∙ ap (λ x. has_key seen d || x) (or-false (is_same_key w d) ∙ key_turned w d)

-- those with no key of the first ones
abbrev fresh : List Written → List Written → List Written
fresh seen [] = []
fresh seen (d ∷ ds) = cond (has_key seen d) (fresh seen ds) (d ∷ fresh seen ds)

none_fresh : (ds : List Written) → fresh [] ds ≡ ds
none_fresh [] = refl
none_fresh (d ∷ ds) = ap (λ l. d ∷ l) (none_fresh ds)

others_step : (seen : List Written) (w d : Written) (ds : List Written) (b : Bool) → is_same_key d w ≡ b → has_key seen w ≡ true
    → fresh seen (other_keys w ds) ≡ fresh seen ds → fresh seen (cond b (other_keys w ds) (d ∷ other_keys w ds)) ≡ fresh seen (d ∷ ds)
others_step seen w d ds true e h prior =
    prior ∙ sym (ap (λ t. cond t (fresh seen ds) (d ∷ fresh seen ds)) (key_like seen d w e h))
others_step seen w d ds false e h prior = ap (λ l. cond (has_key seen d) l (d ∷ l)) prior

others_fresh : (seen : List Written) (w : Written) (ds : List Written) → has_key seen w ≡ true → fresh seen (other_keys w ds) ≡ fresh seen ds
others_fresh seen w [] h = refl
others_fresh seen w (d ∷ ds) h = others_step seen w d ds (is_same_key d w) refl h (others_fresh seen w ds h)

more_step : (seen : List Written) (w d : Written) (ds : List Written) (b : Bool) → fresh (seen ++ w ∷ []) ds ≡ fresh seen (other_keys w ds)
    → cond (has_key seen d || b) (fresh (seen ++ w ∷ []) ds) (d ∷ fresh (seen ++ w ∷ []) ds)
    ≡ fresh seen (cond b (other_keys w ds) (d ∷ other_keys w ds))
more_step seen w d ds true prior =
    ap (λ t. cond t (fresh (seen ++ w ∷ []) ds) (d ∷ fresh (seen ++ w ∷ []) ds)) (or-true (has_key seen d)) ∙ prior
more_step seen w d ds false prior =
    ap (λ t. cond t (fresh (seen ++ w ∷ []) ds) (d ∷ fresh (seen ++ w ∷ []) ds)) (or-false (has_key seen d))
    ∙ ap (λ l. cond (has_key seen d) l (d ∷ l)) prior

more_fresh : (seen : List Written) (w : Written) (ds : List Written) → fresh (seen ++ w ∷ []) ds ≡ fresh seen (other_keys w ds)
more_fresh seen w [] = refl
more_fresh seen w (d ∷ ds) =
    ap (λ t. cond t (fresh (seen ++ w ∷ []) ds) (d ∷ fresh (seen ++ w ∷ []) ds)) (key_more seen w d)
    ∙ more_step seen w d ds (is_same_key d w) (more_fresh seen w ds)

-- ---- the names that are free

module _ (def : Definition) (f : Fragment) where
  -- those that are told where these were told before
  abbrev pub first_free : List Written → List Written → List Written
  first_free seen [] = []
  first_free seen (w ∷ ws) = cond (is_linked def f w || has_key seen w) (first_free seen ws)
      (w ∷ first_free (seen ++ w ∷ []) ws)

  free_by : (seen : List Written) (w : Written) (ws : List Written) (linked told : Bool) → has_key seen w ≡ told
      → ((s : List Written) → first_free s ws ≡ fresh s (first_of_each (unlinked def f ws)))
      → cond (linked || told) (first_free seen ws) (w ∷ first_free (seen ++ w ∷ []) ws)
      ≡ fresh seen (first_of_each (cond linked (unlinked def f ws) (w ∷ unlinked def f ws)))
  free_by seen w ws true told h prior = prior seen
  free_by seen w ws false true h prior =
      let each = first_of_each (unlinked def f ws) in
      prior seen ∙ sym (others_fresh seen w each h)
      ∙ sym (ap (λ t. cond t (fresh seen (other_keys w each)) (w ∷ fresh seen (other_keys w each))) h)
  free_by seen w ws false false h prior =
      let each = first_of_each (unlinked def f ws) in
      ap (λ l. w ∷ l) (prior (seen ++ w ∷ []) ∙ more_fresh seen w each)
      ∙ sym (ap (λ t. cond t (fresh seen (other_keys w each)) (w ∷ fresh seen (other_keys w each))) h)

  free_fresh : (ws seen : List Written) → first_free seen ws ≡ fresh seen (first_of_each (unlinked def f ws))
  free_fresh [] seen = refl
  free_fresh (w ∷ ws) seen = free_by seen w ws (is_linked def f w) (has_key seen w) refl (free_fresh ws)

  pub all_free : first_free [] (used_names def f) ≡ free_uses def f
  all_free = free_fresh (used_names def f) [] ∙ none_fresh (first_of_each (unlinked def f (used_names def f)))

  free_step : (w : Written) (ws seen next all : List Written) (told : Bool) → told ≡ (is_linked def f w || has_key seen w)
      → next ≡ seen ++ cond told [] (w ∷ []) → seen ++ first_free seen (w ∷ ws) ≡ all → next ++ first_free next ws ≡ all
  free_step w ws seen next all true t n h =
      let step : seen ++ first_free seen ws ≡ all =
      ap (λ b. seen ++ cond b (first_free seen ws) (w ∷ first_free (seen ++ w ∷ []) ws)) t ∙ h in
      subst (λ s. s ++ first_free s ws ≡ all) (sym (n ∙ append-nil seen)) step
  free_step w ws seen next all false t n h =
      let step : seen ++ w ∷ first_free (seen ++ w ∷ []) ws ≡ all =
      ap (λ b. seen ++ cond b (first_free seen ws) (w ∷ first_free (seen ++ w ∷ []) ws)) t ∙ h in
      subst (λ s. s ++ first_free s ws ≡ all) (sym n)
      (append_assoc seen (w ∷ []) (first_free (seen ++ w ∷ []) ws) ∙ step)

  pub free_turn : (names yielded : List Written) (w : Written) (seen next all : List Written) (told : Bool) → length yielded < length names
      → w ≡ get_or names (length yielded) w → told ≡ (is_linked def f w || has_key seen w) → next ≡ seen ++ cond told [] (w ∷ [])
      → seen ++ first_free seen (drop (length yielded) names) ≡ all
      → next ++ first_free next (drop (length (yielded ++ w ∷ [])) names) ≡ all
  free_turn names yielded w seen next all told lt at t n h =
      let i = length yielded in
      subst (λ k. next ++ first_free next (drop k names) ≡ all) (sym (length_push yielded w))
      (free_step w (drop (i + 1) names) seen next all told t n
      (ap (λ ws. seen ++ first_free seen ws) (sym (drop_item names i w lt at)) ∙ h))

  pub free_end : (names yielded seen all : List Written) → length yielded ≡ length names
      → seen ++ first_free seen (drop (length yielded) names) ≡ all → seen ≡ all
  free_end names yielded seen all e h =
      sym (append-nil seen)
      ∙ ap (λ ws. seen ++ first_free seen ws) (sym (drop_all (length yielded) names (omega (arith, e)))) ∙ h
