-- The places of the keys of two lists among those of both: each place is of a key of one of them.
use Rattle.std.proofs.Common.{◌≡◌, ◌⊎◌, inl, inr, ℕ, zero, suc, ◌+◌, ◌-◌, ◌<◌, ◌≤◌, ◌||◌, true, List, [], ◌∷◌, ◌++◌, map, drop, length, bytes_eq, Some, slice_get, refl, ap, sym, ◌∙◌, subst, length-drop, true≢false, arith}
use Rattle.std.specs.List.{AllByRecursion}
use Rattle.std.specs.declared.cmp.Ordering.TheVariants.{Less, Equal, Greater}
use Rattle.std.proofs.lemmas.Bool.{cases_lt, or_cases, or_left, or_right}
use Rattle.std.proofs.lemmas.List.{length-map}
use Rattle.std.proofs.lemmas.Option.{same_Some, slice_get_within}
use Rattle.psg_terms.specs.Names.{is_among}
use Rattle.psg_terms.specs.Relations.{IsIn, first, later}
use Rattle.psg_terms.proofs.DeclareLaws.{is_among-append}
use Rattle.psg_terms.proofs.Lists.{drop_there, each_append, each_at, each_in, each_joined, in_cases, slice_get_some}
use Rattle.psg_grammar.specs.Keys.{Key, key_cmp}
use Rattle.psg_scope.specs.declared.header.Header.{Header}
use Rattle.psg_scope.specs.Headers.{AreAscending, ArePlaces, AreRising, IsBelow, IsKey, IsOrdered, IsUnion, key_of, keys}
use Rattle.psg_scope.proofs.HeaderLaws.{keys-whole}
use Rattle.psg_scope.proofs.KeyLists.{in_order-among, key_is, key_refl}
use Rattle.psg_scope.proofs.KeyOrder.{key_same, key_turned_back}
use Rattle.psg_eval.specs.Walks.{FillPlaces}
use Rattle.psg_eval.specs.declared.placing.Placed.{Placed}

-- ---- the places of one list

never_less : (k l : Key) → k ≡ l → key_cmp k l ≡ Less → ⊥
never_less k l e h =
    let p : key_cmp k k ≡ Less = subst (λ m. key_cmp k m ≡ Less) (sym e) h in
    let q : key_cmp k k ≡ Equal = key_same k in
    absurd (cc)

never_both : (k l : Key) → key_cmp k l ≡ Less → key_cmp l k ≡ Less → ⊥
never_both k l h i =
    let g : key_cmp l k ≡ Greater = key_turned_back k l h in
    absurd (cc)

above_first : (m : Key) (ms : List Key) → IsBelow m ms → (i : ℕ) (k : Key) → slice_get ms i ≡ Some k → key_cmp m k ≡ Less
above_first m ms b i k e = each_at (λ n. key_cmp m n ≡ Less) ms b i k e

-- a lesser key is at a lesser place
place_less : (ms : List Key) → AreRising ms → (p q : ℕ) (k l : Key) → slice_get ms p ≡ Some k → slice_get ms q ≡ Some l → key_cmp k l ≡ Less → p < q
place_less [] r p q k l e f h = absurd (cc)
place_less (m ∷ ms) r zero zero k l e f h = absurd (never_less k l (sym (same_Some m k e) ∙ same_Some m l f) h)
place_less (m ∷ ms) r zero (suc q) k l e f h = omega arith
place_less (m ∷ ms) r (suc p) zero k l e f h =
    absurd (never_both k m (subst (λ n. key_cmp k n ≡ Less) (sym (same_Some m l f)) h) (above_first m ms r.0 p k e))
place_less (m ∷ ms) r (suc p) (suc q) k l e f h = omega (arith, place_less ms r.1 p q k l e f h)

-- a key is at one place
one_place : (ms : List Key) → AreRising ms → (p q : ℕ) (k : Key) → slice_get ms p ≡ Some k → slice_get ms q ≡ Some k → p ≡ q
one_place [] r p q k e f = absurd (cc)
one_place (m ∷ ms) r zero zero k e f = refl
one_place (m ∷ ms) r zero (suc q) k e f = absurd (never_less m k (same_Some m k e) (above_first m ms r.0 q k f))
one_place (m ∷ ms) r (suc p) zero k e f = absurd (never_less m k (same_Some m k f) (above_first m ms r.0 p k e))
one_place (m ∷ ms) r (suc p) (suc q) k e f = ap suc (one_place ms r.1 p q k e f)

module _ (ms : List Key) (rises : AreRising ms) where
  all_above : (k : Key) (p : ℕ) → slice_get ms p ≡ Some k → (ks : List Key) (ps : List ℕ) → IsBelow k ks → map (λ q. slice_get ms q) ps ≡ map Some ks → AllByRecursion (λ q. p < q) ps
  all_above k p at [] [] b e = tt
  all_above k p at [] (q ∷ ps) b e = absurd (cc)
  all_above k p at (l ∷ ks) [] b e = absurd (cc)
  all_above k p at (l ∷ ks) (q ∷ ps) b e =
      let here : slice_get ms q ≡ Some l = cc in
      let rest : map (λ n. slice_get ms n) ps ≡ map Some ks = cc in
      (place_less ms rises p q k l at here b.0, all_above k p at ks ps b.1 rest)

  places_rise : (ks : List Key) (ps : List ℕ) → AreRising ks → map (λ q. slice_get ms q) ps ≡ map Some ks → AreAscending ps
  places_rise [] [] r e = tt
  places_rise [] (q ∷ ps) r e = absurd (cc)
  places_rise (l ∷ ks) [] r e = absurd (cc)
  places_rise (l ∷ ks) (q ∷ ps) r e =
      let here : slice_get ms q ≡ Some l = cc in
      let rest : map (λ n. slice_get ms n) ps ≡ map Some ks = cc in
      (all_above l q here ks ps r.0 rest, places_rise ks ps r.1 rest)

  places_within : (ks : List Key) (ps : List ℕ) → map (λ q. slice_get ms q) ps ≡ map Some ks → AllByRecursion (λ q. (0 ≤ q) × (q < length ms)) ps
  places_within [] [] e = tt
  places_within [] (q ∷ ps) e = absurd (cc)
  places_within (l ∷ ks) [] e = absurd (cc)
  places_within (l ∷ ks) (q ∷ ps) e =
      let here : slice_get ms q ≡ Some l = cc in
      let rest : map (λ n. slice_get ms n) ps ≡ map Some ks = cc in
      ((omega arith, slice_get_within ms q l here), places_within ks ps rest)

  place_in : (p : ℕ) (k : Key) → slice_get ms p ≡ Some k → (ks : List Key) (ps : List ℕ) → map (λ q. slice_get ms q) ps ≡ map Some ks → is_among ks k ≡ true → IsIn p ps
  place_in p k at [] ps e among = absurd (true≢false (sym among))
  place_in p k at (l ∷ ks) [] e among = absurd (cc)
  place_in p k at (l ∷ ks) (q ∷ ps) e among =
      let here : slice_get ms q ≡ Some l = cc in
      let rest : map (λ n. slice_get ms n) ps ≡ map Some ks = cc in
      elim (or_cases (bytes_eq l k) (is_among ks k) among) [
        | inl same ↦ subst (λ n. IsIn p (n ∷ ps)) (one_place ms rises p q k at (here ∙ ap Some (key_is l k same))) first
        | inr more ↦ later (place_in p k at ks ps rest more)
      ]

among_at : (ms : List Key) (p : ℕ) (k : Key) → slice_get ms p ≡ Some k → is_among ms k ≡ true
among_at [] p k e = absurd (cc)
among_at (m ∷ ms) zero k e = or_left (bytes_eq m k) (is_among ms k) (subst (λ n. bytes_eq n k ≡ true) (sym (same_Some m k e)) (key_refl k))
among_at (m ∷ ms) (suc p) k e = or_right (bytes_eq m k) (is_among ms k) (among_at ms p k e)

-- ---- the places of both

module _ (left right h : Header) (ls rs : List ℕ) (of_all : IsOrdered h) (union : IsUnion left right h)
    (at_left : ArePlaces h.names ls (keys left.names)) (at_right : ArePlaces h.names rs (keys right.names)) where
  keys_many : length (keys h.names) ≡ length h.names
  keys_many = length-map h.names key_of

  found : (p : ℕ) → p < length (keys h.names) → IsIn p ls ⊎ IsIn p rs
  found p lt =
      let (k, at) = slice_get_some (keys h.names) p lt in
      let whole = each_append IsKey (keys left.names) (keys right.names) (keys-whole left.names) (keys-whole right.names) in
      let among : (is_among (keys left.names) k || is_among (keys right.names) k) ≡ true =
      sym (is_among-append (keys left.names) (keys right.names) k) ∙ sym (in_order-among (keys left.names ++ keys right.names) k whole)
      ∙ ap (λ l. is_among l k) (sym union.keys_are) ∙ among_at (keys h.names) p k at in
      elim (or_cases (is_among (keys left.names) k) (is_among (keys right.names) k) among) [
        | inl i ↦ inl (place_in (keys h.names) of_all.keys_rise p k at (keys left.names) ls at_left i)
        | inr i ↦ inr (place_in (keys h.names) of_all.keys_rise p k at (keys right.names) rs at_right i)
      ]

  pub all_places : IsOrdered left → IsOrdered right → FillPlaces 0 (length h.names) ls rs
  all_places of_left of_right = record {
    lefts_rise = places_rise (keys h.names) of_all.keys_rise (keys left.names) ls of_left.keys_rise at_left;
    rights_rise = places_rise (keys h.names) of_all.keys_rise (keys right.names) rs of_right.keys_rise at_right;
    lefts_within = subst (λ n. AllByRecursion (λ q. (0 ≤ q) × (q < n)) ls) keys_many (places_within (keys h.names) of_all.keys_rise (keys left.names) ls at_left);
    rights_within = subst (λ n. AllByRecursion (λ q. (0 ≤ q) × (q < n)) rs) keys_many (places_within (keys h.names) of_all.keys_rise (keys right.names) rs at_right);
    each = λ p from lt. found p (subst (λ n. p < n) (sym keys_many) lt);
  }

-- ---- one place more

drop_first : {X : Type 0} (xs : List X) (i : ℕ) → slice_get (drop i xs) 0 ≡ slice_get xs i
drop_first [] zero = refl
drop_first [] (suc i) = refl
drop_first (x ∷ xs) zero = refl
drop_first (x ∷ xs) (suc i) = drop_first xs i

abbrev Between : ℕ → ℕ → ℕ → Type 0
Between from count p = (from ≤ p) × (p < count)

-- what follows a place is past it
past_first : (p count x : ℕ) (xs : List ℕ) → AllByRecursion (λ q. x < q) xs → p ≤ x → AllByRecursion (Between p count) xs → AllByRecursion (Between (p + 1) count) xs
past_first p count x xs up le w = each_joined (λ q. x < q) (Between p count) (Between (p + 1) count) (λ q a b. (omega (arith, a, le), b.1)) xs up w

past : (p count : ℕ) (xs : List ℕ) → AreAscending xs → AllByRecursion (Between p count) xs → (slice_get xs 0 ≡ Some p → ⊥) → AllByRecursion (Between (p + 1) count) xs
past p count [] up w never = tt
past p count (x ∷ xs) up w never = ((beyond (cases_lt p x), w.0.1), past_first p count x xs up.0 w.0.0 w.1) where
  beyond : (p < x) ⊎ (x ≤ p) → p + 1 ≤ x
  beyond (inl lt) = omega (arith, lt)
  beyond (inr ge) =
      let le = w.0.0 in
      let e : x ≡ p = omega (arith, ge, le) in
      absurd (never (ap Some e))

not_here : (p q : ℕ) (xs : List ℕ) → p + 1 ≤ q → IsIn q (p ∷ xs) → IsIn q xs
not_here p q xs le i = elim (in_cases q p xs i) [
  | inl e ↦ absurd (omega (arith, le, e))
  | inr more ↦ more
]

module _ (p count : ℕ) (xs ys : List ℕ) where
  left_filled : FillPlaces p count (p ∷ xs) ys → (slice_get ys 0 ≡ Some p → ⊥) → FillPlaces (p + 1) count xs ys
  left_filled f never = record {
    lefts_rise = f.lefts_rise.1;
    rights_rise = f.rights_rise;
    lefts_within = past_first p count p xs f.lefts_rise.0 (omega arith) f.lefts_within.1;
    rights_within = past p count ys f.rights_rise f.rights_within never;
    each = λ q le lt. elim (f.each q (omega (arith, le)) lt) [
      | inl i ↦ inl (not_here p q xs le i)
      | inr i ↦ inr i
    ];
  }

  right_filled : FillPlaces p count xs (p ∷ ys) → (slice_get xs 0 ≡ Some p → ⊥) → FillPlaces (p + 1) count xs ys
  right_filled f never = record {
    lefts_rise = f.lefts_rise;
    rights_rise = f.rights_rise.1;
    lefts_within = past p count xs f.lefts_rise f.lefts_within never;
    rights_within = past_first p count p ys f.rights_rise.0 (omega arith) f.rights_within.1;
    each = λ q le lt. elim (f.each q (omega (arith, le)) lt) [
      | inl i ↦ inl i
      | inr i ↦ inr (not_here p q ys le i)
    ];
  }

  both_filled : FillPlaces p count (p ∷ xs) (p ∷ ys) → FillPlaces (p + 1) count xs ys
  both_filled f = record {
    lefts_rise = f.lefts_rise.1;
    rights_rise = f.rights_rise.1;
    lefts_within = past_first p count p xs f.lefts_rise.0 (omega arith) f.lefts_within.1;
    rights_within = past_first p count p ys f.rights_rise.0 (omega arith) f.rights_within.1;
    each = λ q le lt. elim (f.each q (omega (arith, le)) lt) [
      | inl i ↦ inl (not_here p q xs le i)
      | inr i ↦ inr (not_here p q ys le i)
    ];
  }

first_at : (p count : ℕ) (xs : List ℕ) → AreAscending xs → AllByRecursion (Between p count) xs → IsIn p xs → slice_get xs 0 ≡ Some p
first_at p count [] up w i = elim i [ ]
first_at p count (x ∷ xs) up w i = elim (in_cases p x xs i) [
  | inl e ↦ ap Some (sym e)
  | inr more ↦
      let lt : x < p = each_in (λ q. x < q) p xs up.0 more in
      let le = w.0.0 in
      absurd (omega (arith, lt, le))
]

no_more : (from count : ℕ) (xs : List ℕ) → count ≤ from → AllByRecursion (Between from count) xs → xs ≡ []
no_more from count [] le w = refl
no_more from count (x ∷ xs) le w =
    let a = w.0.0 in
    let b = w.0.1 in
    absurd (omega (arith, a, b, le))

past_end : (xs : List ℕ) (n : ℕ) → drop n xs ≡ [] → length xs ≤ n
past_end xs n e =
    let d = length-drop n xs in
    let z : length (drop n xs) ≡ 0 = ap length e in
    omega (arith, d, z)

-- ---- the walk

module _ (count : ℕ) (lefts rights : List ℕ) where
  -- the places that are left
  abbrev pub AreFilledFrom : Placed → ℕ → Type 0
  AreFilledFrom made place = FillPlaces place count (drop made.lefts lefts) (drop made.rights rights)

  module _ (old : Placed) (place : ℕ) (f : AreFilledFrom old place) where
    -- the next place is of a side
    pub of_a_side : place < count → (slice_get lefts old.lefts ≡ Some place → ⊥) → (slice_get rights old.rights ≡ Some place → ⊥) → ⊥
    of_a_side lt left right = elim (f.each place (omega arith) lt) [
      | inl i ↦ left (sym (drop_first lefts old.lefts) ∙ first_at place count (drop old.lefts lefts) f.lefts_rise f.lefts_within i)
      | inr i ↦ right (sym (drop_first rights old.rights) ∙ first_at place count (drop old.rights rights) f.rights_rise f.rights_within i)
    ]

    pub filled_end : count ≤ place → (length lefts ≤ old.lefts) × (length rights ≤ old.rights)
    filled_end le = (
      past_end lefts old.lefts (no_more place count (drop old.lefts lefts) le f.lefts_within),
      past_end rights old.rights (no_more place count (drop old.rights rights) le f.rights_within),
    )

    same : (i : ℕ) → i ≡ i + 0
    same i = omega arith

    moved : (i j k l : ℕ) → i ≡ k → j ≡ l → FillPlaces (place + 1) count (drop k lefts) (drop l rights) → FillPlaces (place + 1) count (drop i lefts) (drop j rights)
    moved i j k l e d g = subst (λ n. FillPlaces (place + 1) count (drop n lefts) (drop j rights)) (sym e) (subst (λ n. FillPlaces (place + 1) count (drop k lefts) (drop n rights)) (sym d) g)

    module _ (new : Placed) where
      pub left_goes : slice_get lefts old.lefts ≡ Some place → (slice_get rights old.rights ≡ Some place → ⊥) → new.lefts ≡ old.lefts + 1 → new.rights ≡ old.rights + 0 → AreFilledFrom new (place + 1)
      left_goes at never l r =
          moved new.lefts new.rights (old.lefts + 1) old.rights l (r ∙ sym (same old.rights))
          (left_filled place count (drop (old.lefts + 1) lefts) (drop old.rights rights)
          (subst (λ xs. FillPlaces place count xs (drop old.rights rights)) (drop_there lefts old.lefts place at) f)
          (λ e. never (sym (drop_first rights old.rights) ∙ e)))

      pub right_goes : (slice_get lefts old.lefts ≡ Some place → ⊥) → slice_get rights old.rights ≡ Some place → new.lefts ≡ old.lefts + 0 → new.rights ≡ old.rights + 1 → AreFilledFrom new (place + 1)
      right_goes never at l r =
          moved new.lefts new.rights old.lefts (old.rights + 1) (l ∙ sym (same old.lefts)) r
          (right_filled place count (drop old.lefts lefts) (drop (old.rights + 1) rights)
          (subst (λ xs. FillPlaces place count (drop old.lefts lefts) xs) (drop_there rights old.rights place at) f)
          (λ e. never (sym (drop_first lefts old.lefts) ∙ e)))

      pub both_go : slice_get lefts old.lefts ≡ Some place → slice_get rights old.rights ≡ Some place → new.lefts ≡ old.lefts + 1 → new.rights ≡ old.rights + 1 → AreFilledFrom new (place + 1)
      both_go at too l r =
          moved new.lefts new.rights (old.lefts + 1) (old.rights + 1) l r
          (both_filled place count (drop (old.lefts + 1) lefts) (drop (old.rights + 1) rights)
          (subst (λ xs. FillPlaces place count xs (place ∷ drop (old.rights + 1) rights)) (drop_there lefts old.lefts place at)
          (subst (λ xs. FillPlaces place count (drop old.lefts lefts) xs) (drop_there rights old.rights place too) f)))
