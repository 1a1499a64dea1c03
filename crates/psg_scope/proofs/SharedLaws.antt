-- A list of keys that has all keys of another one is what both make.
use Rattle.std.proofs.Common.{◌≡◌, inl, inr, ℕ, zero, suc, ◌+◌, ◌<◌, Bool, true, false, ◌||◌, ◌&&◌, List, [], ◌∷◌, ◌++◌, map, Some, length, take, get_or, refl, sym, ap, ap₂, subst, ◌∙◌, arith, add-one, bytes_eq, true≢false}
use Rattle.std.specs.List.{slice_get}
use Rattle.std.proofs.lemmas.List.{map-append, length-map}
use Rattle.std.proofs.Math.Bool.{or-false, and-false, and-true}
use Rattle.std.proofs.Math.Seq.{take-suc, take-length}
use Rattle.std.proofs.lemmas.Bool.{cases_Bool, false_from_ne_true, or_cases}
use Rattle.std.specs.declared.cmp.Ordering.TheVariants.{Equal}
use Rattle.psg_terms.specs.Names.{is_among}
use Rattle.psg_terms.proofs.DeclareLaws.{is_among-at}
use Rattle.psg_grammar.specs.Keys.{Key, key_cmp}
use Rattle.psg_scope.specs.Headers.{declare_one, key_of, keys, is_declared, ArePlaces, AreRising}
use Rattle.psg_scope.specs.Merging.{merge, clashes}
use Rattle.psg_scope.specs.Sharing.{AreUses, IsInside, IsUsedAt, IsWhole}
use Rattle.psg_scope.specs.declared.header.NameCol.{NameCol}
use Rattle.psg_scope.specs.declared.sharing.Whole.{Whole}
use Rattle.psg_scope.proofs.KeyLists.{key_is, key_refl, below-absent, rising-same}
use Rattle.psg_scope.proofs.MergeLaws.{same_keys, merge-among, merge-declared, merge-rising, clashes-common, common-shared, undeclared}
use Rattle.psg_scope.proofs.HeaderLaws.{key-there, keys-whole}

-- ---- lists of the same keys that are declared alike are equal

abbrev col : ℕ → List ℕ → Bool → NameCol
col space name declared = record { space = space; name = name; declared = declared }

col-same : (x y : NameCol) → key_of x ≡ key_of y → x.declared ≡ y.declared → x ≡ y
col-same x y e d =
    let space : x.space ≡ y.space = cc in
    let name : x.name ≡ y.name = cc in
    ap₂ (λ s n. col s n x.declared) space name ∙ ap (λ b. col y.space y.name b) d

head_declared : (c : NameCol) (cs : List NameCol) (k : Key) → key_of c ≡ k → is_declared cs k ≡ false → is_declared (c ∷ cs) k ≡ c.declared
head_declared c cs k e h =
    ap (λ b. (c.declared && b) || is_declared cs k) (subst (λ q. bytes_eq (key_of c) q ≡ true) e (key_refl (key_of c)))
    ∙ ap (λ b. (c.declared && true) || b) h ∙ or-false (c.declared && true) ∙ and-true c.declared

tail_declared : (c : NameCol) (cs : List NameCol) (k : Key) → bytes_eq (key_of c) k ≡ false → is_declared (c ∷ cs) k ≡ is_declared cs k
tail_declared c cs k e = ap (λ b. (c.declared && b) || is_declared cs k) e ∙ ap (λ b. b || is_declared cs k) (and-false c.declared)

tail_keys : (x y : NameCol) (xs ys : List NameCol) → keys (x ∷ xs) ≡ keys (y ∷ ys) → keys xs ≡ keys ys
tail_keys x y xs ys e = cc

same_cons : (x y : NameCol) (xs ys : List NameCol) → AreRising (keys (x ∷ xs)) → keys (x ∷ xs) ≡ keys (y ∷ ys)
    → ((k : Key) → is_declared (x ∷ xs) k ≡ is_declared (y ∷ ys) k)
    → (((k : Key) → is_declared xs k ≡ is_declared ys k) → xs ≡ ys) → x ∷ xs ≡ y ∷ ys
same_cons x y xs ys r e d rest =
    let first : x ≡ y = col-same x y head own in
    let behind : xs ≡ ys = rest tails in
    cc
  where
    head : key_of x ≡ key_of y
    head = cc

    gone : is_declared xs (key_of x) ≡ false
    gone = undeclared xs (key_of x) (below-absent (key_of x) (keys xs) r.0)

    gone_there : is_declared ys (key_of x) ≡ false
    gone_there = undeclared ys (key_of x) (subst (λ l. is_among l (key_of x) ≡ false) (tail_keys x y xs ys e) (below-absent (key_of x) (keys xs) r.0))

    own : x.declared ≡ y.declared
    own = sym (head_declared x xs (key_of x) refl gone) ∙ d (key_of x) ∙ head_declared y ys (key_of x) (sym head) gone_there

    tails : (k : Key) → is_declared xs k ≡ is_declared ys k
    tails k = elim (cases_Bool (bytes_eq (key_of x) k)) [
      | inl same ↦
          let is : key_of x ≡ k = key_is (key_of x) k same in
          subst (λ q. is_declared xs q ≡ false) is gone ∙ sym (subst (λ q. is_declared ys q ≡ false) is gone_there)
      | inr other ↦ sym (tail_declared x xs k other) ∙ d k ∙ tail_declared y ys k (subst (λ q. bytes_eq q k ≡ false) head other)
    ]

same-cols : (xs ys : List NameCol) → AreRising (keys xs) → keys xs ≡ keys ys → ((k : Key) → is_declared xs k ≡ is_declared ys k) → xs ≡ ys
same-cols [] [] r e d = refl
same-cols [] (y ∷ ys) r e d = absurd (cc)
same-cols (x ∷ xs) [] r e d = absurd (cc)
same-cols (x ∷ xs) (y ∷ ys) r e d = same_cons x y xs ys r e d (λ f. same-cols xs ys r.1 (tail_keys x y xs ys e) f)

-- ---- the long list is what both make

uses-undeclared : (cols : List NameCol) (k : Key) → AreUses cols → is_declared cols k ≡ false
uses-undeclared [] k u = refl
uses-undeclared (c ∷ cols) k u = ap (λ b. (b && bytes_eq (key_of c) k) || is_declared cols k) u.0 ∙ uses-undeclared cols k u.1

places-among : (cols : List NameCol) (places : List ℕ) (ks : List Key) (k : Key) → ArePlaces cols places ks → is_among ks k ≡ true
    → is_among (keys cols) k ≡ true
places-among cols [] [] k h e = absurd (true≢false (sym e))
places-among cols [] (m ∷ ks) k h e = absurd (cc)
places-among cols (p ∷ places) [] k h e = absurd (true≢false (sym e))
places-among cols (p ∷ places) (m ∷ ks) k h e =
    let here : slice_get (keys cols) p ≡ Some m = cc in
    let behind : map (λ q. slice_get (keys cols) q) places ≡ map Some ks = cc in
    elim (or_cases (bytes_eq m k) (is_among ks k) e) [
      | inl same ↦ subst (λ q. is_among (keys cols) q ≡ true) (key_is m k same) (is_among-at (keys cols) p m here)
      | inr later ↦ places-among cols places ks k behind later
    ]

absorbed : (a b : Bool) → (b ≡ true → a ≡ true) → (a || b) ≡ a
absorbed true b h = refl
absorbed false true h = sym (h refl)
absorbed false false h = refl

or-turned : (a b : Bool) → (a || b) ≡ (b || a)
or-turned true true = refl
or-turned true false = refl
or-turned false true = refl
or-turned false false = refl

whole_is : (long short all : List NameCol) (places : List ℕ) → IsInside long short places → AreRising (keys long) → AreRising (keys all)
    → ((k : Key) → is_among (keys all) k ≡ (is_among (keys long) k || is_among (keys short) k))
    → ((k : Key) → is_declared all k ≡ (is_declared long k || is_declared short k)) → all ≡ long
whole_is long short all places h r s f g =
    same-cols all long s (rising-same (keys all) (keys long) s r (keys-whole all) (keys-whole long) (λ k.
    f k ∙ absorbed (is_among (keys long) k) (is_among (keys short) k) (places-among long places (keys short) k h.at)))
    (λ k. g k ∙ ap (λ b. is_declared long k || b) (uses-undeclared short k h.uses) ∙ or-false (is_declared long k))

pub merge_left : (left right : List NameCol) (places : List ℕ) → AreRising (keys left) → AreRising (keys right)
    → IsInside left right places → left ≡ merge left right
merge_left left right places r s h =
    sym (whole_is left right (merge left right) places h r (merge-rising left right r s) (merge-among left right) (merge-declared left right))

pub merge_right : (left right : List NameCol) (places : List ℕ) → AreRising (keys left) → AreRising (keys right)
    → IsInside right left places → right ≡ merge left right
merge_right left right places r s h =
    sym (whole_is right left (merge left right) places h s (merge-rising left right r s)
    (λ k. merge-among left right k ∙ or-turned (is_among (keys left) k) (is_among (keys right) k))
    (λ k. merge-declared left right k ∙ or-turned (is_declared left k) (is_declared right k)))

pub clash_left : (left right : List NameCol) → AreRising (keys left) → AreRising (keys right) → AreUses right → false ≡ clashes left right
clash_left left right r s u =
    sym (clashes-common left right r s ∙ false_from_ne_true (declare_one left right) (λ e.
    let shared = common-shared left right e in absurd (true≢false (sym shared.there ∙ uses-undeclared right shared.key u))))

pub clash_right : (left right : List NameCol) → AreRising (keys left) → AreRising (keys right) → AreUses left → false ≡ clashes left right
clash_right left right r s u =
    sym (clashes-common left right r s ∙ false_from_ne_true (declare_one left right) (λ e.
    let shared = common-shared left right e in absurd (true≢false (sym shared.here ∙ uses-undeclared left shared.key u))))

-- ---- one key that was found

pub used_there : (cols : List NameCol) (found key : NameCol) (place : ℕ) → place < length cols → found ≡ get_or cols place found
    → Equal ≡ key_cmp (key_of found) (key_of key) → key.declared ≡ false → IsUsedAt cols key place
used_there cols found key place small at same used = record {
  there = key-there cols place found small at ∙ ap Some (same_keys found key (sym same));
  used = used;
}

-- ---- the keys of the short list, one after the other

uses-push : (cols : List NameCol) (c : NameCol) → AreUses cols → c.declared ≡ false → AreUses (cols ++ c ∷ [])
uses-push [] c u e = (e, tt)
uses-push (x ∷ cols) c u e = (u.0, uses-push cols c u.1 e)

pub inside_start : (long short : List NameCol) (places : List ℕ) → places ≡ [] → IsInside long (take 0 short) places
inside_start long short places e = record { at = ap (map (λ p. slice_get (keys long) p)) e; uses = tt }

pub inside_step : (long short : List NameCol) (places more : List ℕ) (i place : ℕ) (key : NameCol) → i < length short → key ≡ get_or short i key
    → IsInside long (take i short) places → IsUsedAt long key place → more ≡ places ++ place ∷ [] → IsInside long (take (i + 1) short) more
inside_step long short places more i place key small at h u e =
    subst (λ l. IsInside long l more) (sym next) (subst (λ l. IsInside long (take i short ++ key ∷ []) l) (sym e) (record {
      at = map-append (λ p. slice_get (keys long) p) places (place ∷ []) ∙ ap₂ (λ l o. l ++ o ∷ []) h.at u.there
          ∙ sym (map-append Some (keys (take i short)) (key_of key ∷ [])) ∙ ap (map Some) (sym (map-append key_of (take i short) (key ∷ [])));
      uses = uses-push (take i short) key h.uses u.used;
    }))
  where
    next : take (i + 1) short ≡ take i short ++ key ∷ []
    next = ap (λ n. take n short) (add-one i) ∙ take-suc short i key small ∙ ap (λ k. take i short ++ k ∷ []) (sym at)

pub inside_end : (long short : List NameCol) (places : List ℕ) (i : ℕ) → i ≡ length short → IsInside long (take i short) places
    → IsInside long short places
inside_end long short places i e h =
    subst (λ l. IsInside long l places) (ap (λ n. take n short) e ∙ take-length short) h

-- ---- the places of a list's own keys

some_suc : (ks : List Key) (i : ℕ) → i < length ks → map Some (take (suc i) ks) ≡ map Some (take i ks) ++ slice_get ks i ∷ []
some_suc [] i small = absurd (omega (arith, small))
some_suc (k ∷ ks) zero small = refl
some_suc (k ∷ ks) (suc i) small = ap (λ l. Some k ∷ l) (some_suc ks i (omega (arith, small)))

pub own_step : (cols : List NameCol) (places more : List ℕ) (i : ℕ) → i < length cols → ArePlaces cols places (take i (keys cols))
    → more ≡ places ++ i ∷ [] → ArePlaces cols more (take (i + 1) (keys cols))
own_step cols places more i small h e =
    ap (map (λ p. slice_get (keys cols) p)) e ∙ map-append (λ p. slice_get (keys cols) p) places (i ∷ [])
    ∙ ap (λ l. l ++ slice_get (keys cols) i ∷ []) h
    ∙ sym (ap (λ n. map Some (take n (keys cols))) (add-one i) ∙ some_suc (keys cols) i (omega (arith, small, length-map cols key_of)))

pub own_end : (cols : List NameCol) (places : List ℕ) (i : ℕ) → i ≡ length cols → ArePlaces cols places (take i (keys cols))
    → ArePlaces cols places (keys cols)
own_end cols places i e h =
    subst (ArePlaces cols places) (ap (λ n. take n (keys cols)) (e ∙ sym (length-map cols key_of)) ∙ take-length (keys cols)) h

-- ---- both lists made one

pub left_whole : (left right long short : List NameCol) (whole : Whole) → AreRising (keys left) → AreRising (keys right)
    → long ≡ left → short ≡ right → IsInside long short whole.right.items → ArePlaces long whole.left.items (keys long)
    → whole.names ≡ left → whole.clashes ≡ false → IsWhole left right whole
left_whole left right long short whole r s e f h own n c =
    let inside : IsInside left right whole.right.items =
    subst (λ l. IsInside l right whole.right.items) e (subst (λ l. IsInside long l whole.right.items) f h) in
    record {
      names = n ∙ merge_left left right whole.right.items r s inside;
      clash = c ∙ clash_left left right r s inside.uses;
      lefts = subst (λ l. ArePlaces l whole.left.items (keys left)) (sym n) (subst (λ l. ArePlaces l whole.left.items (keys l)) e own);
      rights = subst (λ l. ArePlaces l whole.right.items (keys right)) (sym n) inside.at;
    }

pub right_whole : (left right long short : List NameCol) (whole : Whole) → AreRising (keys left) → AreRising (keys right)
    → long ≡ right → short ≡ left → IsInside long short whole.left.items → ArePlaces long whole.right.items (keys long)
    → whole.names ≡ right → whole.clashes ≡ false → IsWhole left right whole
right_whole left right long short whole r s e f h own n c =
    let inside : IsInside right left whole.left.items =
    subst (λ l. IsInside l left whole.left.items) e (subst (λ l. IsInside long l whole.left.items) f h) in
    record {
      names = n ∙ merge_right left right whole.left.items r s inside;
      clash = c ∙ clash_right left right r s inside.uses;
      lefts = subst (λ l. ArePlaces l whole.left.items (keys left)) (sym n) inside.at;
      rights = subst (λ l. ArePlaces l whole.right.items (keys right)) (sym n) (subst (λ l. ArePlaces l whole.right.items (keys l)) e own);
    }
