-- Two lists of keys made one.
use Rattle.std.proofs.Common.{◌≡◌, inl, inr, ℕ, Bool, true, false, ◌||◌, ◌&&◌, List, [], ◌∷◌, ◌++◌, map, Some, length, refl, sym, ap, ap₂, subst, ◌∙◌, append_assoc, append-nil, bytes_eq, true≢false}
use Rattle.std.specs.List.{slice_get}
use Rattle.std.proofs.lemmas.List.{map-append, length-map}
use Rattle.std.proofs.Math.Bool.{or-false, and-false, and-true, or_assoc}
use Rattle.std.proofs.lemmas.Bool.{or_cases, or_right, or_parts, or_left}
use Rattle.psg_terms.proofs.Lists.{slice_get-end, slice_get-front}
use Rattle.std.specs.Cmp.{first_so, second_so, both_ways}
use Rattle.std.specs.declared.cmp.Ordering.{Ordering}
use Rattle.std.specs.declared.cmp.Ordering.TheVariants.{Less, Equal, Greater}
use Rattle.psg_terms.specs.Names.{is_among, has_twice}
use Rattle.psg_terms.proofs.DeclareLaws.{is_among-append}
use Rattle.psg_grammar.specs.Keys.{Key, key_cmp}
use Rattle.psg_scope.specs.Headers.{declare_one, key_of, keys, is_declared, both, ArePlaces, IsBelow, AreRising}
use Rattle.psg_scope.specs.Merging.{by_order, merge, merge_with, clashes, clash_with, GrowsBy, IsPlacedSoFar, IsUpTo}
use Rattle.psg_scope.specs.declared.header.NameCol.{NameCol}
use Rattle.psg_scope.specs.declared.merging.Merging.{Merging}
use Rattle.psg_scope.proofs.KeyOrder.{key_exact, key_turned}
use Rattle.psg_scope.proofs.KeyLists.{or-swap, key_is, key_refl, less-differs, below-through, below-among, below-absent, below-all}

pub same_keys : (x y : NameCol) → key_cmp (key_of x) (key_of y) ≡ Equal → key_of x ≡ key_of y
same_keys x y e = key_exact (key_of x) (key_of y) tt tt e

-- ---- what is declared

declared_in_both : (a b p xs ys : Bool) → (((a || b) && p) || (xs || ys)) ≡ (((a && p) || xs) || ((b && p) || ys))
declared_in_both true b true xs ys = refl
declared_in_both true b false true ys = refl
declared_in_both true true false false ys = refl
declared_in_both true false false false ys = refl
declared_in_both false true true true ys = refl
declared_in_both false true true false ys = refl
declared_in_both false true false xs ys = refl
declared_in_both false false p xs ys = refl

module _ (k : Key) (x : NameCol) (behind : List NameCol → List NameCol) (xs : List NameCol)
    (h : (zs : List NameCol) → is_declared (behind zs) k ≡ (is_declared xs k || is_declared zs k)) where
  declared_by : (y : NameCol) (ys more : List NameCol) (r : Ordering) → key_cmp (key_of x) (key_of y) ≡ r
      → is_declared more k ≡ (is_declared (x ∷ xs) k || is_declared ys k)
      → is_declared (by_order r (x ∷ behind (y ∷ ys)) (both x y ∷ behind ys) (y ∷ more)) k ≡ (is_declared (x ∷ xs) k || is_declared (y ∷ ys) k)
  declared_by y ys more Less e f =
      ap (λ b. (x.declared && bytes_eq (key_of x) k) || b) (h (y ∷ ys)) ∙ sym (or_assoc (x.declared && bytes_eq (key_of x) k) (is_declared xs k) (is_declared (y ∷ ys) k))
  declared_by y ys more Equal e f =
      ap (λ b. ((x.declared || y.declared) && bytes_eq (key_of x) k) || b) (h ys)
      ∙ declared_in_both x.declared y.declared (bytes_eq (key_of x) k) (is_declared xs k) (is_declared ys k)
      ∙ ap (λ q. is_declared (x ∷ xs) k || ((y.declared && bytes_eq q k) || is_declared ys k)) (same_keys x y e)
  declared_by y ys more Greater e f =
      ap (λ b. (y.declared && bytes_eq (key_of y) k) || b) f ∙ or-swap (y.declared && bytes_eq (key_of y) k) (is_declared (x ∷ xs) k) (is_declared ys k)

  merge_with-declared : (ys : List NameCol) → is_declared (merge_with x behind ys) k ≡ (is_declared (x ∷ xs) k || is_declared ys k)
  merge_with-declared [] = ap (λ b. (x.declared && bytes_eq (key_of x) k) || b) (h []) ∙ sym (or_assoc (x.declared && bytes_eq (key_of x) k) (is_declared xs k) false)
  merge_with-declared (y ∷ ys) = declared_by y ys (merge_with x behind ys) (key_cmp (key_of x) (key_of y)) refl (merge_with-declared ys)

pub merge-declared : (xs ys : List NameCol) (k : Key) → is_declared (merge xs ys) k ≡ (is_declared xs k || is_declared ys k)
merge-declared [] ys k = refl
merge-declared (x ∷ xs) ys k = merge_with-declared k x (merge xs) xs (λ zs. merge-declared xs zs k) ys

-- ---- which keys there are

one_of_both : (p xs ys : Bool) → (p || (xs || ys)) ≡ ((p || xs) || (p || ys))
one_of_both true xs ys = refl
one_of_both false xs ys = refl

module _ (k : Key) (x : NameCol) (behind : List NameCol → List NameCol) (xs : List NameCol)
    (h : (zs : List NameCol) → is_among (keys (behind zs)) k ≡ (is_among (keys xs) k || is_among (keys zs) k)) where
  among_by : (y : NameCol) (ys more : List NameCol) (r : Ordering) → key_cmp (key_of x) (key_of y) ≡ r
      → is_among (keys more) k ≡ (is_among (keys (x ∷ xs)) k || is_among (keys ys) k)
      → is_among (keys (by_order r (x ∷ behind (y ∷ ys)) (both x y ∷ behind ys) (y ∷ more))) k ≡ (is_among (keys (x ∷ xs)) k || is_among (keys (y ∷ ys)) k)
  among_by y ys more Less e f =
      ap (λ b. bytes_eq (key_of x) k || b) (h (y ∷ ys)) ∙ sym (or_assoc (bytes_eq (key_of x) k) (is_among (keys xs) k) (is_among (keys (y ∷ ys)) k))
  among_by y ys more Equal e f =
      ap (λ b. bytes_eq (key_of x) k || b) (h ys)
      ∙ one_of_both (bytes_eq (key_of x) k) (is_among (keys xs) k) (is_among (keys ys) k)
      ∙ ap (λ q. is_among (keys (x ∷ xs)) k || (bytes_eq q k || is_among (keys ys) k)) (same_keys x y e)
  among_by y ys more Greater e f =
      ap (λ b. bytes_eq (key_of y) k || b) f ∙ or-swap (bytes_eq (key_of y) k) (is_among (keys (x ∷ xs)) k) (is_among (keys ys) k)

  merge_with-among : (ys : List NameCol) → is_among (keys (merge_with x behind ys)) k ≡ (is_among (keys (x ∷ xs)) k || is_among (keys ys) k)
  merge_with-among [] = ap (λ b. bytes_eq (key_of x) k || b) (h []) ∙ sym (or_assoc (bytes_eq (key_of x) k) (is_among (keys xs) k) false)
  merge_with-among (y ∷ ys) = among_by y ys (merge_with x behind ys) (key_cmp (key_of x) (key_of y)) refl (merge_with-among ys)

pub merge-among : (xs ys : List NameCol) (k : Key) → is_among (keys (merge xs ys)) k ≡ (is_among (keys xs) k || is_among (keys ys) k)
merge-among [] ys k = refl
merge-among (x ∷ xs) ys k = merge_with-among k x (merge xs) xs (λ zs. merge-among xs zs k) ys

-- a key below those of both lists is below what they make
below-union : (n : Key) (all left right : List Key) → ((m : Key) → is_among all m ≡ (is_among left m || is_among right m)) → IsBelow n left → IsBelow n right → IsBelow n all
below-union n all left right h a b = below-all n all (λ m e. elim (or_cases (is_among left m) (is_among right m) (sym (h m) ∙ e)) [
  | inl there ↦ below-among n m left a there
  | inr there ↦ below-among n m right b there
])

module _ (x : NameCol) (xs : List NameCol) (below : IsBelow (key_of x) (keys xs)) where
  rising_by : (y : NameCol) (ys more : List NameCol) (r : Ordering) → key_cmp (key_of x) (key_of y) ≡ r → AreRising (keys (y ∷ ys))
      → ((zs : List NameCol) → AreRising (keys zs) → AreRising (keys (merge xs zs)))
      → AreRising (keys more) → ((m : Key) → is_among (keys more) m ≡ (is_among (keys (x ∷ xs)) m || is_among (keys ys) m))
      → AreRising (keys (by_order r (x ∷ merge xs (y ∷ ys)) (both x y ∷ merge xs ys) (y ∷ more)))
  rising_by y ys more Less e t h s f = (
    below-union (key_of x) (keys (merge xs (y ∷ ys))) (keys xs) (keys (y ∷ ys)) (merge-among xs (y ∷ ys)) below
        (e, below-through (key_of x) (key_of y) (keys ys) e t.0),
    h (y ∷ ys) t,
  )
  rising_by y ys more Equal e t h s f = (
    below-union (key_of x) (keys (merge xs ys)) (keys xs) (keys ys) (merge-among xs ys) below
        (subst (λ q. IsBelow q (keys ys)) (sym (same_keys x y e)) t.0),
    h ys t.1,
  )
  rising_by y ys more Greater e t h s f =
      let less : key_cmp (key_of y) (key_of x) ≡ Less = key_turned (key_of x) (key_of y) e in
      (below-union (key_of y) (keys more) (keys (x ∷ xs)) (keys ys) f (less, below-through (key_of y) (key_of x) (keys xs) less below) t.0, s)

  merge_with-rising : (ys : List NameCol) → AreRising (keys ys) → ((zs : List NameCol) → AreRising (keys zs) → AreRising (keys (merge xs zs)))
      → AreRising (keys (merge_with x (merge xs) ys))
  merge_with-rising [] t h = (below-union (key_of x) (keys (merge xs [])) (keys xs) [] (merge-among xs []) below tt, h [] tt)
  merge_with-rising (y ∷ ys) t h =
      rising_by y ys (merge_with x (merge xs) ys) (key_cmp (key_of x) (key_of y)) refl t h (merge_with-rising ys t.1 h) (merge-among (x ∷ xs) ys)

pub merge-rising : (xs ys : List NameCol) → AreRising (keys xs) → AreRising (keys ys) → AreRising (keys (merge xs ys))
merge-rising [] ys s t = t
merge-rising (x ∷ xs) ys s t = merge_with-rising x xs s.0 ys t (λ zs u. merge-rising xs zs s.1 u)

-- ---- keys that both lists declare

pub undeclared : (ys : List NameCol) (k : Key) → is_among (keys ys) k ≡ false → is_declared ys k ≡ false
undeclared [] k e = refl
undeclared (y ∷ ys) k e =
    let h : (bytes_eq (key_of y) k ≡ false) × (is_among (keys ys) k ≡ false) = or_parts (bytes_eq (key_of y) k) (is_among (keys ys) k) e in
    ap (λ b. (y.declared && b) || is_declared ys k) h.0 ∙ ap (λ b. b || is_declared ys k) (and-false y.declared) ∙ undeclared ys k h.1

common-nil : (xs : List NameCol) → declare_one xs [] ≡ false
common-nil [] = refl
common-nil (x ∷ xs) = ap (λ b. b || declare_one xs []) (and-false x.declared) ∙ common-nil xs

-- a key below all of one list is met in it nowhere
common-drop : (xs : List NameCol) (y : NameCol) (ys : List NameCol) → IsBelow (key_of y) (keys xs) → declare_one xs (y ∷ ys) ≡ declare_one xs ys
common-drop [] y ys b = refl
common-drop (x ∷ xs) y ys b =
    ap (λ c. (x.declared && ((y.declared && c) || is_declared ys (key_of x))) || declare_one xs (y ∷ ys)) (less-differs (key_of y) (key_of x) b.0)
    ∙ ap (λ c. (x.declared && (c || is_declared ys (key_of x))) || declare_one xs (y ∷ ys)) (and-false y.declared)
    ∙ ap (λ c. (x.declared && is_declared ys (key_of x)) || c) (common-drop xs y ys b.1)

module _ (x : NameCol) (xs : List NameCol) (below : IsBelow (key_of x) (keys xs)) where
  clash_by : (y : NameCol) (ys : List NameCol) (more : Bool) (r : Ordering) → key_cmp (key_of x) (key_of y) ≡ r → AreRising (keys (y ∷ ys))
      → ((zs : List NameCol) → AreRising (keys zs) → clashes xs zs ≡ declare_one xs zs) → more ≡ declare_one (x ∷ xs) ys
      → by_order r (clashes xs (y ∷ ys)) ((x.declared && y.declared) || clashes xs ys) more ≡ declare_one (x ∷ xs) (y ∷ ys)
  clash_by y ys more Less e t h f =
      let all : IsBelow (key_of x) (keys (y ∷ ys)) = (e, below-through (key_of x) (key_of y) (keys ys) e t.0) in
      let none : is_declared (y ∷ ys) (key_of x) ≡ false = undeclared (y ∷ ys) (key_of x) (below-absent (key_of x) (keys (y ∷ ys)) all) in
      h (y ∷ ys) t ∙ sym (ap (λ b. (x.declared && b) || declare_one xs (y ∷ ys)) none ∙ ap (λ b. b || declare_one xs (y ∷ ys)) (and-false x.declared))
  clash_by y ys more Equal e t h f =
      let same : key_of x ≡ key_of y = same_keys x y e in
      let below_ys : IsBelow (key_of x) (keys ys) = subst (λ q. IsBelow q (keys ys)) (sym same) t.0 in
      let none : is_declared ys (key_of x) ≡ false = undeclared ys (key_of x) (below-absent (key_of x) (keys ys) below_ys) in
      let here : bytes_eq (key_of y) (key_of x) ≡ true = subst (λ q. bytes_eq q (key_of x) ≡ true) same (key_refl (key_of x)) in
      let both_declare : is_declared (y ∷ ys) (key_of x) ≡ y.declared =
      ap (λ b. (y.declared && b) || is_declared ys (key_of x)) here ∙ ap (λ b. (y.declared && true) || b) none ∙ or-false (y.declared && true) ∙ and-true y.declared in
      let rest : declare_one xs (y ∷ ys) ≡ declare_one xs ys = common-drop xs y ys (subst (λ q. IsBelow q (keys xs)) same below) in
      ap (λ b. (x.declared && y.declared) || b) (h ys t.1)
      ∙ sym (ap (λ b. (x.declared && b) || declare_one xs (y ∷ ys)) both_declare ∙ ap (λ b. (x.declared && y.declared) || b) rest)
  clash_by y ys more Greater e t h f =
      let less : key_cmp (key_of y) (key_of x) ≡ Less = key_turned (key_of x) (key_of y) e in
      f ∙ sym (common-drop (x ∷ xs) y ys (less, below-through (key_of y) (key_of x) (keys xs) less below))

  clash_with-common : (ys : List NameCol) → AreRising (keys ys) → ((zs : List NameCol) → AreRising (keys zs) → clashes xs zs ≡ declare_one xs zs)
      → clash_with x (clashes xs) ys ≡ declare_one (x ∷ xs) ys
  clash_with-common [] t h = sym (common-nil (x ∷ xs))
  clash_with-common (y ∷ ys) t h = clash_by y ys (clash_with x (clashes xs) ys) (key_cmp (key_of x) (key_of y)) refl t h (clash_with-common ys t.1 h)

pub clashes-nil : (xs : List NameCol) → clashes xs [] ≡ false
clashes-nil [] = refl
clashes-nil (x ∷ xs) = refl

pub clashes-common : (xs ys : List NameCol) → AreRising (keys xs) → AreRising (keys ys) → clashes xs ys ≡ declare_one xs ys
clashes-common [] ys s t = refl
clashes-common (x ∷ xs) ys s t = clash_with-common x xs s.0 ys t (λ zs u. clashes-common xs zs s.1 u)

-- ---- a key that stands twice in two lists

abbrev pub meets : List Key → List Key → Bool
meets [] ds = false
meets (k ∷ ks) ds = is_among ds k || meets ks ds

twice_by : (a b c d e : Bool) → ((a || b) || ((c || d) || e)) ≡ (((a || c) || d) || (b || e))
twice_by true b c d e = refl
twice_by false true true d e = refl
twice_by false true false true e = refl
twice_by false true false false e = refl
twice_by false false c d e = refl

pub has_twice-append : (ks ds : List Key) → has_twice (ks ++ ds) ≡ ((has_twice ks || has_twice ds) || meets ks ds)
has_twice-append [] ds = sym (or-false (has_twice ds))
has_twice-append (k ∷ ks) ds =
    ap (λ b. b || has_twice (ks ++ ds)) (is_among-append ks ds k) ∙ ap (λ b. (is_among ks k || is_among ds k) || b) (has_twice-append ks ds)
    ∙ twice_by (is_among ks k) (is_among ds k) (has_twice ks) (has_twice ds) (meets ks ds)

-- one key of both lists
pub record IsShared (left right : Key → Bool) : Type 0 where
  pub key : Key
  pub here : left key ≡ true
  pub there : right key ≡ true

meets-shared : (ks ds : List Key) → meets ks ds ≡ true → IsShared (is_among ks) (is_among ds)
meets-shared [] ds e = absurd (true≢false (sym e))
meets-shared (k ∷ ks) ds e = elim (or_cases (is_among ds k) (meets ks ds) e) [
  | inl there ↦ record { key = k; here = or_left (bytes_eq k k) (is_among ks k) (key_refl k); there = there }
  | inr later ↦
      let s = meets-shared ks ds later in
      record { key = s.key; here = or_right (bytes_eq k s.key) (is_among ks s.key) s.here; there = s.there }
]

shared-meets : (ks ds : List Key) (n : Key) → is_among ks n ≡ true → is_among ds n ≡ true → meets ks ds ≡ true
shared-meets [] ds n h t = absurd (true≢false (sym h))
shared-meets (k ∷ ks) ds n h t = elim (or_cases (bytes_eq k n) (is_among ks n) h) [
  | inl same ↦ or_left (is_among ds k) (meets ks ds) (subst (λ q. is_among ds q ≡ true) (sym (key_is k n same)) t)
  | inr later ↦ or_right (is_among ds k) (meets ks ds) (shared-meets ks ds n later t)
]

pub common-shared : (xs ys : List NameCol) → declare_one xs ys ≡ true → IsShared (is_declared xs) (is_declared ys)
common-shared [] ys e = absurd (true≢false (sym e))
common-shared (x ∷ xs) ys e = elim (or_cases (x.declared && is_declared ys (key_of x)) (declare_one xs ys) e) [
  | inl both_declare ↦ record {
    key = key_of x;
    here = or_left (x.declared && bytes_eq (key_of x) (key_of x)) (is_declared xs (key_of x))
        (ap (λ b. x.declared && b) (key_refl (key_of x)) ∙ and-true x.declared ∙ first_so x.declared (is_declared ys (key_of x)) both_declare);
    there = second_so x.declared (is_declared ys (key_of x)) both_declare;
  }
  | inr later ↦
      let s = common-shared xs ys later in
      record { key = s.key; here = or_right (x.declared && bytes_eq (key_of x) s.key) (is_declared xs s.key) s.here; there = s.there }
]

shared-common : (xs ys : List NameCol) (n : Key) → is_declared xs n ≡ true → is_declared ys n ≡ true → declare_one xs ys ≡ true
shared-common [] ys n h t = absurd (true≢false (sym h))
shared-common (x ∷ xs) ys n h t = elim (or_cases (x.declared && bytes_eq (key_of x) n) (is_declared xs n) h) [
  | inl here ↦
      let same : key_of x ≡ n = key_is (key_of x) n (second_so x.declared (bytes_eq (key_of x) n) here) in
      or_left (x.declared && is_declared ys (key_of x)) (declare_one xs ys)
      (ap (λ b. x.declared && b) (subst (λ q. is_declared ys q ≡ true) (sym same) t) ∙ and-true x.declared ∙ first_so x.declared (bytes_eq (key_of x) n) here)
  | inr later ↦ or_right (x.declared && is_declared ys (key_of x)) (declare_one xs ys) (shared-common xs ys n later t)
]

pub common-meets : (xs ys : List NameCol) (ks ds : List Key) → ((k : Key) → is_declared xs k ≡ is_among ks k) → ((k : Key) → is_declared ys k ≡ is_among ds k)
    → declare_one xs ys ≡ meets ks ds
common-meets xs ys ks ds f g = both_ways (declare_one xs ys) (meets ks ds)
    (λ e. let s = common-shared xs ys e in shared-meets ks ds s.key (sym (f s.key) ∙ s.here) (sym (g s.key) ∙ s.there))
    (λ e. let s = meets-shared ks ds e in shared-common xs ys s.key (f s.key ∙ s.here) (g s.key ∙ s.there))

-- ---- places

keys-push : (cols : List NameCol) (c : NameCol) → keys (cols ++ c ∷ []) ≡ keys cols ++ key_of c ∷ []
keys-push cols c = map-append key_of cols (c ∷ [])

pub places-more : (cols : List NameCol) (c : NameCol) (ps : List ℕ) (ks : List Key) → ArePlaces cols ps ks → ArePlaces (cols ++ c ∷ []) ps ks
places-more cols c [] [] e = refl
places-more cols c [] (k ∷ ks) e = absurd (cc)
places-more cols c (p ∷ ps) [] e = absurd (cc)
places-more cols c (p ∷ ps) (k ∷ ks) e =
    let h : slice_get (keys cols) p ≡ Some k = cc in
    let t : map (λ q. slice_get (keys cols) q) ps ≡ map Some ks = cc in
    let a : slice_get (keys (cols ++ c ∷ [])) p ≡ Some k = ap (λ l. slice_get l p) (keys-push cols c) ∙ slice_get-front (keys cols) (key_of c ∷ []) p k h in
    let b : map (λ q. slice_get (keys (cols ++ c ∷ [])) q) ps ≡ map Some ks = places-more cols c ps ks t in
    cc

pub places-push : (cols : List NameCol) (c : NameCol) (ps : List ℕ) (ks : List Key) (k : Key) → k ≡ key_of c → ArePlaces cols ps ks
    → ArePlaces (cols ++ c ∷ []) (ps ++ length cols ∷ []) (ks ++ k ∷ [])
places-push cols c ps ks k same e =
    let at : slice_get (keys (cols ++ c ∷ [])) (length cols) ≡ Some k =
    ap (λ l. slice_get l (length cols)) (keys-push cols c) ∙ ap (slice_get (keys cols ++ key_of c ∷ [])) (sym (length-map cols key_of))
    ∙ slice_get-end (keys cols) (key_of c) ∙ ap Some (sym same) in
    let front : map (λ q. slice_get (keys (cols ++ c ∷ [])) q) ps ≡ map Some ks = places-more cols c ps ks e in
    map-append (λ q. slice_get (keys (cols ++ c ∷ [])) q) ps (length cols ∷ [])
    ∙ ap (λ l. l ++ slice_get (keys (cols ++ c ∷ [])) (length cols) ∷ []) front ∙ ap (λ o. map Some ks ++ o ∷ []) at
    ∙ sym (map-append Some ks (k ∷ []))

-- ---- as far as the walk has come

placed-keep : (cols new : List NameCol) (c : NameCol) (places more : List ℕ) (whole rest : List NameCol) → IsPlacedSoFar cols places whole rest
    → new ≡ cols ++ c ∷ [] → more ≡ places ++ [] → IsPlacedSoFar new more whole rest
placed-keep cols new c places more whole rest s e f =
    let g : more ≡ places = f ∙ append-nil places in
    record {
      done = s.done;
      at = subst (λ l. ArePlaces l more s.done) (sym e) (subst (λ l. ArePlaces (cols ++ c ∷ []) l s.done) (sym g) (places-more cols c places s.done s.at));
      split = s.split;
    }

placed-step : (cols new : List NameCol) (c x : NameCol) (places more : List ℕ) (whole all rest : List NameCol) → IsPlacedSoFar cols places whole all
    → all ≡ x ∷ rest → key_of x ≡ key_of c → new ≡ cols ++ c ∷ [] → more ≡ places ++ length cols ∷ [] → IsPlacedSoFar new more whole rest
placed-step cols new c x places more whole all rest s h same e f = record {
  done = s.done ++ key_of x ∷ [];
  at = subst (λ l. ArePlaces l more (s.done ++ key_of x ∷ [])) (sym e)
      (subst (λ l. ArePlaces (cols ++ c ∷ []) l (s.done ++ key_of x ∷ [])) (sym f) (places-push cols c places s.done (key_of x) same s.at));
  split = append_assoc s.done (key_of x ∷ []) (keys rest) ∙ ap (λ l. s.done ++ keys l) (sym h) ∙ s.split;
}

pub step_left : {left right a b rest : List NameCol} {old new : Merging} {x : NameCol} → IsUpTo left right a b old
    → (a ≡ x ∷ rest) × (merge a b ≡ x ∷ merge rest b) × (clashes a b ≡ clashes rest b)
    → GrowsBy old new x (length old.names.items ∷ []) [] → IsUpTo left right rest b new
step_left {left} {right} {a} {b} {rest} {old} {new} {x} s h g = record {
  names = ap (λ l. l ++ merge rest b) g.names ∙ append_assoc old.names.items (x ∷ []) (merge rest b) ∙ ap (λ l. old.names.items ++ l) (sym h.1) ∙ s.names;
  clash = ap (λ c. c || clashes rest b) g.clash ∙ ap (λ c. old.clashes || c) (sym h.2) ∙ s.clash;
  lefts = placed-step old.names.items new.names.items x x old.left.items new.left.items left a rest s.lefts h.0 refl g.names g.lefts;
  rights = placed-keep old.names.items new.names.items x old.right.items new.right.items right b s.rights g.names g.rights;
}

pub step_right : {left right a b rest : List NameCol} {old new : Merging} {y : NameCol} → IsUpTo left right a b old
    → (b ≡ y ∷ rest) × (merge a b ≡ y ∷ merge a rest) × (clashes a b ≡ clashes a rest)
    → GrowsBy old new y [] (length old.names.items ∷ []) → IsUpTo left right a rest new
step_right {left} {right} {a} {b} {rest} {old} {new} {y} s h g = record {
  names = ap (λ l. l ++ merge a rest) g.names ∙ append_assoc old.names.items (y ∷ []) (merge a rest) ∙ ap (λ l. old.names.items ++ l) (sym h.1) ∙ s.names;
  clash = ap (λ c. c || clashes a rest) g.clash ∙ ap (λ c. old.clashes || c) (sym h.2) ∙ s.clash;
  lefts = placed-keep old.names.items new.names.items y old.left.items new.left.items left a s.lefts g.names g.lefts;
  rights = placed-step old.names.items new.names.items y y old.right.items new.right.items right b rest s.rights h.0 refl g.names g.rights;
}

pub step_both : {left right a b lefts rights : List NameCol} {old new : Merging} {x y : NameCol} {clash : Bool} → IsUpTo left right a b old
    → (a ≡ x ∷ lefts) × (b ≡ y ∷ rights) × (merge a b ≡ both x y ∷ merge lefts rights) × (clashes a b ≡ ((x.declared && y.declared) || clashes lefts rights)) × (key_of x ≡ key_of y)
    → GrowsBy old new (both x y) (length old.names.items ∷ []) (length old.names.items ∷ [])
    → clash ≡ (new.clashes || (x.declared && y.declared)) → IsUpTo left right lefts rights (record new { clashes = clash })
step_both {left} {right} {a} {b} {lefts} {rights} {old} {new} {x} {y} {clash} s h g e = record {
  names = ap (λ l. l ++ merge lefts rights) g.names ∙ append_assoc old.names.items (both x y ∷ []) (merge lefts rights) ∙ ap (λ l. old.names.items ++ l) (sym h.2) ∙ s.names;
  clash = ap (λ c. c || clashes lefts rights) (e ∙ ap (λ c. c || (x.declared && y.declared)) g.clash)
      ∙ or_assoc old.clashes (x.declared && y.declared) (clashes lefts rights) ∙ ap (λ c. old.clashes || c) (sym h.3) ∙ s.clash;
  lefts = placed-step old.names.items new.names.items (both x y) x old.left.items new.left.items left a lefts s.lefts h.0 refl g.names g.lefts;
  rights = placed-step old.names.items new.names.items (both x y) y old.right.items new.right.items right b rights s.rights h.1 (sym h.4) g.names g.rights;
}

-- ---- which key comes next

pub alone : (left right : List NameCol) (x : NameCol) (rest : List NameCol) → left ≡ x ∷ rest → right ≡ []
    → (left ≡ x ∷ rest) × (merge left right ≡ x ∷ merge rest right) × (clashes left right ≡ clashes rest right)
alone left right x rest e f = (
  e,
  ap₂ merge e f ∙ ap (λ l. x ∷ merge rest l) (sym f),
  ap₂ clashes e f ∙ sym (ap (clashes rest) f ∙ clashes-nil rest),
)

pub tied : (left right : List NameCol) (x y : NameCol) (xs ys : List NameCol) → left ≡ x ∷ xs → right ≡ y ∷ ys → Equal ≡ key_cmp (key_of x) (key_of y)
    → (left ≡ x ∷ xs) × (right ≡ y ∷ ys) × (merge left right ≡ both x y ∷ merge xs ys)
    × (clashes left right ≡ ((x.declared && y.declared) || clashes xs ys)) × (key_of x ≡ key_of y)
tied left right x y xs ys e f o = (
  e,
  f,
  ap₂ merge e f ∙ ap (λ r. by_order r (x ∷ merge xs (y ∷ ys)) (both x y ∷ merge xs ys) (y ∷ merge (x ∷ xs) ys)) (sym o),
  ap₂ clashes e f ∙ ap (λ r. by_order r (clashes xs (y ∷ ys)) ((x.declared && y.declared) || clashes xs ys) (clashes (x ∷ xs) ys)) (sym o),
  same_keys x y (sym o),
)

-- ---- the walk's beginning and its end

pub start : (left right : List NameCol) (all : Merging) → all.names.items ≡ [] → all.left.items ≡ [] → all.right.items ≡ []
    → all.clashes ≡ false → IsUpTo left right left right all
start left right all e f g h = record {
  names = ap (λ l. l ++ merge left right) e;
  clash = ap (λ c. c || clashes left right) h;
  lefts = record { done = []; at = ap (map (λ p. slice_get (keys all.names.items) p)) f; split = refl };
  rights = record { done = []; at = ap (map (λ p. slice_get (keys all.names.items) p)) g; split = refl };
}

pub names_at_end : {left right a b : List NameCol} {all : Merging} → IsUpTo left right a b all → (a ≡ []) × (b ≡ []) → all.names.items ≡ merge left right
names_at_end {left} {right} {a} {b} {all} s h =
    sym (append-nil all.names.items) ∙ ap (λ l. all.names.items ++ l) (sym (ap₂ merge h.0 h.1)) ∙ s.names

pub clash_at_end : {left right a b : List NameCol} {all : Merging} → IsUpTo left right a b all → (a ≡ []) × (b ≡ []) → all.clashes ≡ clashes left right
clash_at_end {left} {right} {a} {b} {all} s h = sym (or-false all.clashes) ∙ ap (λ c. all.clashes || c) (sym (ap₂ clashes h.0 h.1)) ∙ s.clash

pub placed_at_end : {cols : List NameCol} {places : List ℕ} {whole rest : List NameCol} → IsPlacedSoFar cols places whole rest → rest ≡ [] → ArePlaces cols places (keys whole)
placed_at_end {cols} {places} {whole} {rest} s e =
    subst (ArePlaces cols places) (sym (append-nil s.done) ∙ ap (λ l. s.done ++ keys l) (sym e) ∙ s.split) s.at
