-- Headers of whole regions from those of their parts.
use Rattle.std.proofs.Common.{◌≡◌, inl, inr, ℕ, ◌+◌, ◌<◌, Bool, true, false, cond, not, ◌||◌, ◌&&◌, List, [], ◌∷◌, ◌++◌, map, Some, length, take, refl, sym, ap, ap₂, subst, ◌∙◌, append-nil, add-one, get_or, bytes_eq, true≢false}
use Rattle.std.specs.List.{AllByRecursion, slice_get}
use Rattle.std.specs.Option.{option_map}
use Rattle.std.proofs.lemmas.List.{map-append}
use Rattle.std.proofs.Math.Seq.{take-suc, take-length}
use Rattle.std.proofs.lemmas.Option.{slice_get-map, slice_get_read}
use Rattle.std.proofs.lemmas.Bool.{cases_Bool, false_from_ne_true, or_right, or_parts, or_left}
use Rattle.std.proofs.Math.Bool.{and-false}
use Rattle.std.specs.Cmp.{first_so}
use Rattle.psg_terms.specs.Names.{is_among, has_twice}
use Rattle.psg_terms.proofs.DeclareLaws.{is_among-append}
use Rattle.psg_grammar.specs.Keys.{Key, space_of, in_order, outward}
use Rattle.psg_scope.specs.declared.header.NameCol.{NameCol}
use Rattle.psg_scope.specs.declared.header.Header.{Header}
use Rattle.psg_scope.specs.Headers.{key_of, keys, is_declared, declared_keys, keep_if, has_space, AreAscending, IsKey, IsHeader, IsOrdered, ArePlaces, AreRising, IsBelow}
use Rattle.psg_scope.specs.Merging.{merge, clashes}
use Rattle.psg_scope.proofs.KeyLists.{key_is, below-all, below-among, below-absent, in_order-rising, in_order-whole, in_order-among, rising-same}
use Rattle.psg_scope.proofs.MergeLaws.{merge-among, merge-declared, merge-rising, clashes-common, common-meets, has_twice-append, undeclared}

pub keys-whole : (cols : List NameCol) → AllByRecursion IsKey (keys cols)
keys-whole [] = tt
keys-whole (c ∷ cols) = (tt, keys-whole cols)

pub whole-append : (ks ms : List Key) → AllByRecursion IsKey ks → AllByRecursion IsKey ms → AllByRecursion IsKey (ks ++ ms)
whole-append [] ms w v = v
whole-append (k ∷ ks) ms w v = (w.0, whole-append ks ms w.1 v)

module _ {names declared : List Key} {unfinished : ℕ → Bool} {h : Header} (is : IsHeader names declared unfinished h) where
  pub header-rising : AreRising (keys h.names)
  header-rising = subst AreRising (sym is.keys_are) (in_order-rising names is.whole)

  pub header-among : (k : Key) → is_among (keys h.names) k ≡ is_among names k
  header-among k = ap (λ l. is_among l k) is.keys_are ∙ in_order-among names k is.whole

-- ---- two parts of a region

pub joined : {n d m e : List Key} {u v : ℕ → Bool} {left right joint : Header} → IsHeader n d u left → IsHeader m e v right
    → joint.names ≡ merge left.names right.names → ((s : ℕ) → has_space joint.unfinished s ≡ (has_space left.unfinished s || has_space right.unfinished s))
    → AreAscending joint.unfinished → joint.twice ≡ ((left.twice || right.twice) || clashes left.names right.names)
    → IsHeader (n ++ m) (d ++ e) (λ s. u s || v s) joint
joined {n} {d} {m} {e} {u} {v} {left} {right} {joint} a b made spaces ascending twice = record {
  whole = whole-append n m a.whole b.whole;
  keys_are = ap keys made ∙ rising-same (keys (merge left.names right.names)) (in_order (n ++ m))
      (merge-rising left.names right.names (header-rising a) (header-rising b)) (in_order-rising (n ++ m) all)
      (keys-whole (merge left.names right.names)) (in_order-whole (n ++ m) all) same;
  declares = λ k. ap (λ l. is_declared l k) made ∙ merge-declared left.names right.names k ∙ ap₂ (λ p q. p || q) (a.declares k) (b.declares k) ∙ sym (is_among-append d e k);
  spaces = λ s. spaces s ∙ ap₂ (λ p q. p || q) (a.spaces s) (b.spaces s);
  ascending = ascending;
  repeats = twice ∙ ap₂ (λ p q. p || q) (ap₂ (λ p q. p || q) a.repeats b.repeats)
      (clashes-common left.names right.names (header-rising a) (header-rising b) ∙ common-meets left.names right.names d e a.declares b.declares)
      ∙ sym (has_twice-append d e);
}
  where
    all : AllByRecursion IsKey (n ++ m)
    all = whole-append n m a.whole b.whole

    same : (k : Key) → is_among (keys (merge left.names right.names)) k ≡ is_among (in_order (n ++ m)) k
    same k = merge-among left.names right.names k ∙ ap₂ (λ p q. p || q) (header-among a k) (header-among b k)
        ∙ sym (is_among-append n m k) ∙ sym (in_order-among (n ++ m) k all)

-- ---- one position

one_declares : (b : Bool) (c k : Key) → ((b && bytes_eq c k) || false) ≡ is_among (keep_if b c []) k
one_declares true c k = refl
one_declares false c k = refl

one_once : (b : Bool) (c : Key) → false ≡ has_twice (keep_if b c [])
one_once true c = refl
one_once false c = refl

pub of_none : (positions : List NameCol) → positions ≡ [] → IsHeader (keys positions) (declared_keys positions) (λ s. false) (record { names = []; unfinished = []; twice = false })
of_none positions e = subst (λ l. IsHeader (keys l) (declared_keys l) (λ s. false) (record { names = []; unfinished = []; twice = false })) (sym e)
    (record { whole = tt; keys_are = refl; declares = λ k. refl; spaces = λ s. refl; ascending = tt; repeats = refl })

pub of_single : (positions : List NameCol) (c : NameCol) → positions ≡ c ∷ []
    → IsHeader (keys positions) (declared_keys positions) (λ s. false) (record { names = c ∷ []; unfinished = []; twice = false })
of_single positions c e = subst (λ l. IsHeader (keys l) (declared_keys l) (λ s. false) (record { names = c ∷ []; unfinished = []; twice = false })) (sym e)
    (record { whole = (tt, tt); keys_are = refl; declares = λ k. one_declares c.declared (key_of c) k; spaces = λ s. refl; ascending = tt; repeats = one_once c.declared (key_of c) })

keep_if-append : (b : Bool) (k : Key) (ks ms : List Key) → keep_if b k (ks ++ ms) ≡ keep_if b k ks ++ ms
keep_if-append true k ks ms = refl
keep_if-append false k ks ms = refl

pub declared_keys-append : (xs ys : List NameCol) → declared_keys (xs ++ ys) ≡ declared_keys xs ++ declared_keys ys
declared_keys-append [] ys = refl
declared_keys-append (x ∷ xs) ys = ap (keep_if x.declared (key_of x)) (declared_keys-append xs ys) ∙ keep_if-append x.declared (key_of x) (declared_keys xs) (declared_keys ys)

pub of_halves : (positions front behind : List NameCol) (h : Header) → positions ≡ front ++ behind
    → IsHeader (keys front ++ keys behind) (declared_keys front ++ declared_keys behind) (λ s. false) h
    → IsHeader (keys positions) (declared_keys positions) (λ s. false) h
of_halves positions front behind h e is =
    let p : keys front ++ keys behind ≡ keys positions = sym (map-append key_of front behind) ∙ ap keys (sym e) in
    let q : declared_keys front ++ declared_keys behind ≡ declared_keys positions = sym (declared_keys-append front behind) ∙ ap declared_keys (sym e) in
    subst (λ l. IsHeader l (declared_keys positions) (λ s. false) h) p (subst (λ l. IsHeader (keys front ++ keys behind) l (λ s. false) h) q is)

-- ---- what passes outward

abbrev pub kept_cols : (ℕ → Bool) → List NameCol → List NameCol
kept_cols u [] = []
kept_cols u (c ∷ cs) = cond (u c.space || c.declared) (kept_cols u cs) (c ∷ kept_cols u cs)

-- a key of another column
passed : (k : Key) (c : NameCol) (cs : List NameCol) (u : ℕ → Bool) → bytes_eq (key_of c) k ≡ false
    → is_among (keys (kept_cols u cs)) k ≡ (is_among (keys cs) k && not (u (space_of k) || is_declared cs k))
    → is_among (keys (kept_cols u cs)) k ≡ (is_among (keys (c ∷ cs)) k && not (u (space_of k) || is_declared (c ∷ cs) k))
passed k c cs u other h =
    h ∙ sym (ap (λ p. (p || is_among (keys cs) k) && not (u (space_of k) || ((c.declared && p) || is_declared cs k))) other
    ∙ ap (λ p. is_among (keys cs) k && not (u (space_of k) || (p || is_declared cs k))) (and-false c.declared))

kept_by : (k : Key) (c : NameCol) (cs : List NameCol) (u : ℕ → Bool) → IsBelow (key_of c) (keys cs)
    → is_among (keys (kept_cols u cs)) k ≡ (is_among (keys cs) k && not (u (space_of k) || is_declared cs k))
    → (s d : Bool) → u c.space ≡ s → c.declared ≡ d
    → is_among (keys (cond (s || d) (kept_cols u cs) (c ∷ kept_cols u cs))) k ≡ (is_among (keys (c ∷ cs)) k && not (u (space_of k) || is_declared (c ∷ cs) k))
kept_by k c cs u b h true d e f = elim (cases_Bool (bytes_eq (key_of c) k)) [
  | inl same ↦
      let is : key_of c ≡ k = key_is (key_of c) k same in
      let gone : is_among (keys cs) k ≡ false = subst (λ q. is_among (keys cs) q ≡ false) is (below-absent (key_of c) (keys cs) b) in
      let stopped : u (space_of k) ≡ true = subst (λ q. u (space_of q) ≡ true) is e in
      h ∙ ap (λ p. p && not (u (space_of k) || is_declared cs k)) gone
      ∙ sym (ap (λ p. (bytes_eq (key_of c) k || is_among (keys cs) k) && not (p || is_declared (c ∷ cs) k)) stopped ∙ and-false (bytes_eq (key_of c) k || is_among (keys cs) k))
  | inr other ↦ passed k c cs u other h
]
kept_by k c cs u b h false true e f = elim (cases_Bool (bytes_eq (key_of c) k)) [
  | inl same ↦
      let is : key_of c ≡ k = key_is (key_of c) k same in
      let gone : is_among (keys cs) k ≡ false = subst (λ q. is_among (keys cs) q ≡ false) is (below-absent (key_of c) (keys cs) b) in
      let here : is_declared (c ∷ cs) k ≡ true = or_left (c.declared && bytes_eq (key_of c) k) (is_declared cs k) (ap₂ (λ p q. p && q) f same) in
      h ∙ ap (λ p. p && not (u (space_of k) || is_declared cs k)) gone
      ∙ sym (ap (λ p. (bytes_eq (key_of c) k || is_among (keys cs) k) && not p) (or_right (u (space_of k)) (is_declared (c ∷ cs) k) here) ∙ and-false (bytes_eq (key_of c) k || is_among (keys cs) k))
  | inr other ↦ passed k c cs u other h
]
kept_by k c cs u b h false false e f = elim (cases_Bool (bytes_eq (key_of c) k)) [
  | inl same ↦
      let is : key_of c ≡ k = key_is (key_of c) k same in
      let gone : is_among (keys cs) k ≡ false = subst (λ q. is_among (keys cs) q ≡ false) is (below-absent (key_of c) (keys cs) b) in
      let free : u (space_of k) ≡ false = subst (λ q. u (space_of q) ≡ false) is e in
      let here : is_declared (c ∷ cs) k ≡ false = ap (λ p. (p && bytes_eq (key_of c) k) || is_declared cs k) f ∙ undeclared cs k gone in
      ap (λ p. p || is_among (keys (kept_cols u cs)) k) same
      ∙ sym (ap (λ p. (p || is_among (keys cs) k) && not (u (space_of k) || is_declared (c ∷ cs) k)) same ∙ ap (λ p. not (p || is_declared (c ∷ cs) k)) free ∙ ap not here)
  | inr other ↦ ap (λ p. p || is_among (keys (kept_cols u cs)) k) other ∙ passed k c cs u other h
]

pub kept-among : (k : Key) (cols : List NameCol) (u : ℕ → Bool) → AreRising (keys cols)
    → is_among (keys (kept_cols u cols)) k ≡ (is_among (keys cols) k && not (u (space_of k) || is_declared cols k))
kept-among k [] u r = refl
kept-among k (c ∷ cs) u r = kept_by k c cs u r.0 (kept-among k cs u r.1) (u c.space) c.declared refl refl

kept_rising_by : (c : NameCol) (cs : List NameCol) (u : ℕ → Bool) → AreRising (keys (c ∷ cs)) → AreRising (keys (kept_cols u cs))
    → (b : Bool) → AreRising (keys (cond b (kept_cols u cs) (c ∷ kept_cols u cs)))
kept_rising_by c cs u r h true = h
kept_rising_by c cs u r h false = (
  below-all (key_of c) (keys (kept_cols u cs)) (λ m there. below-among (key_of c) m (keys cs) r.0
      (first_so (is_among (keys cs) m) (not (u (space_of m) || is_declared cs m)) (sym (kept-among m cs u r.1) ∙ there))),
  h,
)

pub kept-rising : (cols : List NameCol) (u : ℕ → Bool) → AreRising (keys cols) → AreRising (keys (kept_cols u cols))
kept-rising [] u r = tt
kept-rising (c ∷ cs) u r = kept_rising_by c cs u r (kept-rising cs u r.1) (u c.space || c.declared)

kept_undeclared_by : (k : Key) (c : NameCol) (rest : List NameCol) (s d : Bool) → c.declared ≡ d → is_declared rest k ≡ false → is_declared (cond (s || d) rest (c ∷ rest)) k ≡ false
kept_undeclared_by k c rest true d e h = h
kept_undeclared_by k c rest false true e h = h
kept_undeclared_by k c rest false false e h = ap (λ p. (p && bytes_eq (key_of c) k) || is_declared rest k) e ∙ h

pub kept-undeclared : (k : Key) (cols : List NameCol) (u : ℕ → Bool) → is_declared (kept_cols u cols) k ≡ false
kept-undeclared k [] u = refl
kept-undeclared k (c ∷ cs) u = kept_undeclared_by k c (kept_cols u cs) (u c.space) c.declared refl (kept-undeclared k cs u)

-- ---- the same of lists of keys

outward_by : (k n : Key) (ns d : List Key) (u : ℕ → Bool) → is_among (outward u d ns) k ≡ (is_among ns k && not (u (space_of k) || is_among d k))
    → (b : Bool) → (u (space_of n) || is_among d n) ≡ b
    → is_among (cond b (outward u d ns) (n ∷ outward u d ns)) k ≡ ((bytes_eq n k || is_among ns k) && not (u (space_of k) || is_among d k))
outward_by k n ns d u h true e = elim (cases_Bool (bytes_eq n k)) [
  | inl same ↦
      let stopped : (u (space_of k) || is_among d k) ≡ true = subst (λ q. (u (space_of q) || is_among d q) ≡ true) (key_is n k same) e in
      h ∙ ap (λ p. is_among ns k && not p) stopped ∙ and-false (is_among ns k)
      ∙ sym (ap (λ p. (bytes_eq n k || is_among ns k) && not p) stopped ∙ and-false (bytes_eq n k || is_among ns k))
  | inr other ↦ h ∙ sym (ap (λ p. (p || is_among ns k) && not (u (space_of k) || is_among d k)) other)
]
outward_by k n ns d u h false e = elim (cases_Bool (bytes_eq n k)) [
  | inl same ↦
      let free : (u (space_of k) || is_among d k) ≡ false = subst (λ q. (u (space_of q) || is_among d q) ≡ false) (key_is n k same) e in
      ap (λ p. p || is_among (outward u d ns) k) same
      ∙ sym (ap (λ p. (p || is_among ns k) && not (u (space_of k) || is_among d k)) same ∙ ap not free)
  | inr other ↦
      ap (λ p. p || is_among (outward u d ns) k) other ∙ h ∙ sym (ap (λ p. (p || is_among ns k) && not (u (space_of k) || is_among d k)) other)
]

pub outward-among : (k : Key) (ns d : List Key) (u : ℕ → Bool) → is_among (outward u d ns) k ≡ (is_among ns k && not (u (space_of k) || is_among d k))
outward-among k [] d u = refl
outward-among k (n ∷ ns) d u = outward_by k n ns d u (outward-among k ns d u) (u (space_of n) || is_among d n) refl

outward_whole_by : (n : Key) (rest : List Key) (b : Bool) → IsKey n → AllByRecursion IsKey rest → AllByRecursion IsKey (cond b rest (n ∷ rest))
outward_whole_by n rest true h w = w
outward_whole_by n rest false h w = (h, w)

pub outward-whole : (ns d : List Key) (u : ℕ → Bool) → AllByRecursion IsKey ns → AllByRecursion IsKey (outward u d ns)
outward-whole [] d u w = tt
outward-whole (n ∷ ns) d u w = outward_whole_by n (outward u d ns) (u (space_of n) || is_among d n) w.0 (outward-whole ns d u w.1)

-- ---- the header of a scope operator

pub closed : {n d : List Key} {u : ℕ → Bool} {inside outside : Header} → IsHeader n d u inside
    → outside.names ≡ kept_cols (has_space inside.unfinished) inside.names → outside.unfinished ≡ [] → outside.twice ≡ false
    → IsHeader (outward u d n) [] (λ s. false) outside
closed {n} {d} {u} {inside} {outside} is made none once = record {
  whole = outward-whole n d u is.whole;
  keys_are = ap keys made ∙ rising-same (keys kept) (in_order (outward u d n)) (kept-rising inside.names (has_space inside.unfinished) (header-rising is))
      (in_order-rising (outward u d n) all) (keys-whole kept) (in_order-whole (outward u d n) all) same;
  declares = λ k. ap (λ l. is_declared l k) made ∙ kept-undeclared k inside.names (has_space inside.unfinished);
  spaces = λ s. ap (λ l. has_space l s) none;
  ascending = subst AreAscending (sym none) tt;
  repeats = once;
}
  where
    kept : List NameCol
    kept = kept_cols (has_space inside.unfinished) inside.names

    all : AllByRecursion IsKey (outward u d n)
    all = outward-whole n d u is.whole

    same : (k : Key) → is_among (keys kept) k ≡ is_among (in_order (outward u d n)) k
    same k =
        kept-among k inside.names (has_space inside.unfinished) (header-rising is)
        ∙ ap (λ p. p && not (has_space inside.unfinished (space_of k) || is_declared inside.names k)) (header-among is k)
        ∙ ap (λ p. is_among n k && not (p || is_declared inside.names k)) (is.spaces (space_of k))
        ∙ ap (λ p. is_among n k && not (u (space_of k) || p)) (is.declares k)
        ∙ sym (outward-among k n d u) ∙ sym (in_order-among (outward u d n) k all)

-- ---- as far as a walk over the keys has come

pub record IsKeptSoFar (all : List NameCol) (unfinished : List ℕ) (i : ℕ) (names : List NameCol) (kept : List ℕ) : Type 0 where
  pub cols : names ≡ kept_cols (has_space unfinished) (take i all)
  pub at : ArePlaces all kept (keys names)

pub kept_cols-append : (u : ℕ → Bool) (xs ys : List NameCol) → kept_cols u (xs ++ ys) ≡ kept_cols u xs ++ kept_cols u ys
kept_cols-append u [] ys = refl
kept_cols-append u (x ∷ xs) ys =
    ap (λ l. cond (u x.space || x.declared) l (x ∷ l)) (kept_cols-append u xs ys) ∙ spread (u x.space || x.declared)
  where
    spread : (b : Bool) → cond b (kept_cols u xs ++ kept_cols u ys) (x ∷ (kept_cols u xs ++ kept_cols u ys)) ≡ cond b (kept_cols u xs) (x ∷ kept_cols u xs) ++ kept_cols u ys
    spread true = refl
    spread false = refl

pub key-there : (all : List NameCol) (i : ℕ) (key : NameCol) → i < length all → key ≡ get_or all i key → slice_get (keys all) i ≡ Some (key_of key)
key-there all i key h e = slice_get-map key_of all i ∙ ap (option_map key_of) (slice_get_read all (length all) i key refl h e)

pub keep_step : {all names more : List NameCol} {unfinished kept also : List ℕ} {i : ℕ} {key : NameCol} → IsKeptSoFar all unfinished i names kept
    → i < length all → key ≡ get_or all i key → true ≡ not (has_space unfinished key.space || key.declared)
    → more ≡ names ++ (record key { declared = false }) ∷ [] → also ≡ kept ++ i ∷ [] → IsKeptSoFar all unfinished (i + 1) more also
keep_step {all} {names} {more} {unfinished} {kept} {also} {i} {key} s h e f p q = record {
  cols = p ∙ ap₂ (λ l r. l ++ r) s.cols (sym own) ∙ sym (kept_cols-append (has_space unfinished) (take i all) (key ∷ [])) ∙ ap (kept_cols (has_space unfinished)) (sym next);
  at = ap (map (λ k. slice_get (keys all) k)) q ∙ map-append (λ k. slice_get (keys all) k) kept (i ∷ [])
      ∙ ap₂ (λ l o. l ++ o ∷ []) s.at (key-there all i key h e) ∙ sym (map-append Some (keys names) (key_of key ∷ []))
      ∙ ap (map Some) (sym (map-append key_of names ((record key { declared = false }) ∷ []))) ∙ ap (λ l. map Some (keys l)) (sym p);
}
  where
    open_there : (has_space unfinished key.space || key.declared) ≡ false
    open_there = false_from_ne_true (has_space unfinished key.space || key.declared) (λ g. absurd (true≢false (f ∙ ap not g)))

    undeclared_there : key.declared ≡ false
    undeclared_there = (or_parts (has_space unfinished key.space) key.declared open_there).1

    own : kept_cols (has_space unfinished) (key ∷ []) ≡ (record key { declared = false }) ∷ []
    own = ap (λ b. cond b [] (key ∷ [])) open_there ∙ ap (λ b. (record key { declared = b }) ∷ []) undeclared_there

    next : take (i + 1) all ≡ take i all ++ key ∷ []
    next = ap (λ n. take n all) (add-one i) ∙ take-suc all i key h ∙ ap (λ k. take i all ++ k ∷ []) (sym e)

pub skip_step : {all names : List NameCol} {unfinished kept : List ℕ} {i : ℕ} {key : NameCol} → IsKeptSoFar all unfinished i names kept
    → i < length all → key ≡ get_or all i key → false ≡ not (has_space unfinished key.space || key.declared) → IsKeptSoFar all unfinished (i + 1) names kept
skip_step {all} {names} {unfinished} {kept} {i} {key} s h e f = record {
  cols = s.cols ∙ sym (append-nil (kept_cols (has_space unfinished) (take i all))) ∙ ap (λ l. kept_cols (has_space unfinished) (take i all) ++ l) (sym own)
      ∙ sym (kept_cols-append (has_space unfinished) (take i all) (key ∷ [])) ∙ ap (kept_cols (has_space unfinished)) (sym next);
  at = s.at;
}
  where
    stopped : (b : Bool) → false ≡ not b → b ≡ true
    stopped true g = refl
    stopped false g = absurd (true≢false (sym g))

    own : kept_cols (has_space unfinished) (key ∷ []) ≡ []
    own = ap (λ b. cond b [] (key ∷ [])) (stopped (has_space unfinished key.space || key.declared) f)

    next : take (i + 1) all ≡ take i all ++ key ∷ []
    next = ap (λ n. take n all) (add-one i) ∙ take-suc all i key h ∙ ap (λ k. take i all ++ k ∷ []) (sym e)

pub kept_at_end : {all names : List NameCol} {unfinished kept : List ℕ} {i : ℕ} → IsKeptSoFar all unfinished i names kept → i ≡ length all
    → names ≡ kept_cols (has_space unfinished) all
kept_at_end {all} {names} {unfinished} {kept} {i} s e = s.cols ∙ ap (λ n. kept_cols (has_space unfinished) (take n all)) e ∙ ap (kept_cols (has_space unfinished)) (take-length all)

-- ---- the same without a region

pub ordered-of : {n d : List Key} {u : ℕ → Bool} {h : Header} → IsHeader n d u h → IsOrdered h
ordered-of is = record { keys_rise = header-rising is; spaces_rise = is.ascending }

pub union_keys : (left right : List NameCol) → AreRising (keys left) → AreRising (keys right) → keys (merge left right) ≡ in_order (keys left ++ keys right)
union_keys left right s t = rising-same (keys (merge left right)) (in_order (keys left ++ keys right)) (merge-rising left right s t)
    (in_order-rising (keys left ++ keys right) all) (keys-whole (merge left right)) (in_order-whole (keys left ++ keys right) all)
    (λ k. merge-among left right k ∙ sym (is_among-append (keys left) (keys right) k) ∙ sym (in_order-among (keys left ++ keys right) k all))
  where
    all : AllByRecursion IsKey (keys left ++ keys right)
    all = whole-append (keys left) (keys right) (keys-whole left) (keys-whole right)

declared_by : (b : Bool) (c k : Key) (ks : List Key) (rest : Bool) → rest ≡ is_among ks k → ((b && bytes_eq c k) || rest) ≡ is_among (keep_if b c ks) k
declared_by true c k ks rest e = ap (λ r. bytes_eq c k || r) e
declared_by false c k ks rest e = e

pub declared-among : (cols : List NameCol) (k : Key) → is_declared cols k ≡ is_among (declared_keys cols) k
declared-among [] k = refl
declared-among (c ∷ cols) k = declared_by c.declared (key_of c) k (declared_keys cols) (is_declared cols k) (declared-among cols k)

outward_rising_by : (k : Key) (ks d : List Key) (u : ℕ → Bool) → IsBelow k ks → AreRising (outward u d ks) → (b : Bool) → AreRising (cond b (outward u d ks) (k ∷ outward u d ks))
outward_rising_by k ks d u below h true = h
outward_rising_by k ks d u below h false = (
  below-all k (outward u d ks) (λ m there. below-among k m ks below
      (first_so (is_among ks m) (not (u (space_of m) || is_among d m)) (sym (outward-among m ks d u) ∙ there))),
  h,
)

pub outward-rising : (ks d : List Key) (u : ℕ → Bool) → AreRising ks → AreRising (outward u d ks)
outward-rising [] d u r = tt
outward-rising (k ∷ ks) d u r = outward_rising_by k ks d u r.0 (outward-rising ks d u r.1) (u (space_of k) || is_among d k)

pub outward_keys : (cols : List NameCol) (u : ℕ → Bool) → AreRising (keys cols) → keys (kept_cols u cols) ≡ outward u (declared_keys cols) (keys cols)
outward_keys cols u r = rising-same (keys (kept_cols u cols)) (outward u (declared_keys cols) (keys cols)) (kept-rising cols u r)
    (outward-rising (keys cols) (declared_keys cols) u r) (keys-whole (kept_cols u cols)) (outward-whole (keys cols) (declared_keys cols) u (keys-whole cols))
    (λ k. kept-among k cols u r ∙ ap (λ b. is_among (keys cols) k && not (u (space_of k) || b)) (declared-among cols k) ∙ sym (outward-among k (keys cols) (declared_keys cols) u))
