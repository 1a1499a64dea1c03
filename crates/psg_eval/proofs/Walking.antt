-- What columns say that are picked by their numbers, and what a walk over the keys of two rows gives.
use Rattle.std.proofs.Common.{◌≡◌, ℕ, ◌+◌, ◌<◌, ◌≤◌, zero, suc, true, false, cond, bytes_eq, List, [], ◌∷◌, ◌++◌, map, length, All, refl, ap, ap₂, sym, ◌∙◌, subst, Some, slice_get, append_assoc, length-append, true≢false, arith}
use Rattle.std.proofs.lemmas.Bool.{false_from_ne_true, or_right, or_left}
use Rattle.std.proofs.lemmas.Option.{slice_get_within, same_Some}
use Rattle.psg_terms.proofs.Lists.{slice_get-middle}
use Rattle.std.specs.Prelude.{slice_index_or}
use Rattle.psg_terms.specs.Names.{is_among}
use Rattle.psg_terms.specs.Terms.{Term, symbol}
use Rattle.psg_grammar.specs.Keys.{Key}
use Rattle.psg_scope.specs.Headers.{AreRising}
use Rattle.psg_scope.proofs.KeyLists.{below-absent, key_is, key_refl}
use Rattle.psg_unify.specs.Pairs.{Pair as Columns, AgreeOn}
use Rattle.psg_relation.specs.Choices.{pick, picked}
use Rattle.psg_eval.specs.Walks.{run, IsWalk, walk_none, walk_left, walk_right, walk_both}

-- the columns of these numbers are there, and are these
abbrev pub Picks : {X : Type 0} → List X → List ℕ → List X → Type 0
Picks row [] [] = Unit {0}
Picks row [] (x ∷ xs) = ⊥
Picks row (k ∷ keep) [] = ⊥
Picks row (k ∷ keep) (x ∷ xs) = (slice_get row k ≡ Some x) × Picks row keep xs

pub picks_picked : {X : Type 0} (row : List X) (keep : List ℕ) (xs : List X) → Picks row keep xs → picked row keep ≡ xs
picks_picked row [] [] h = refl
picks_picked row [] (x ∷ xs) h = absurd h
picks_picked row (k ∷ keep) [] h = absurd h
picks_picked row (k ∷ keep) (x ∷ xs) h = ap₂ pick h.0 (picks_picked row keep xs h.1)

pub picks_append : {X : Type 0} (row : List X) (ks ls : List ℕ) (xs ys : List X) → Picks row ks xs → Picks row ls ys → Picks row (ks ++ ls) (xs ++ ys)
picks_append row [] ls [] ys h k = k
picks_append row [] ls (x ∷ xs) ys h k = absurd h
picks_append row (n ∷ ks) ls [] ys h k = absurd h
picks_append row (n ∷ ks) ls (x ∷ xs) ys h k = (h.0, picks_append row ks ls xs ys h.1 k)

pub picks_within : {X : Type 0} (row : List X) (keep : List ℕ) (xs : List X) → Picks row keep xs → All (λ (k : ℕ). k < length row) keep
picks_within row [] xs h = λ k d l. absurd (omega arith)
picks_within row (n ∷ keep) [] h = absurd h
picks_within row (n ∷ keep) (x ∷ xs) h = by (picks_within row keep xs h.1) where
  by : All (λ (k : ℕ). k < length row) keep → (k : ℕ) (d : ℕ) → k < length (n ∷ keep) → slice_index_or (n ∷ keep) k d < length row
  by rest zero d l = slice_get_within row n x h.0
  by rest (suc k) d l = rest k d (omega arith)

picks-run : {X : Type 0} (front mid back : List X) → Picks (front ++ (mid ++ back)) (run (length front) (length mid)) mid
picks-run front [] back = tt
picks-run front (x ∷ mid) back = (
  slice_get-middle front x (mid ++ back),
  let e : length (front ++ x ∷ []) ≡ suc (length front) = omega (arith, length-append front (x ∷ [])) in
      subst (λ row. Picks row (run (suc (length front)) (length mid)) mid) (append_assoc front (x ∷ []) (mid ++ back))
      (subst (λ n. Picks ((front ++ x ∷ []) ++ (mid ++ back)) (run n (length mid)) mid) e (picks-run (front ++ x ∷ []) mid back)),
)

pub picks_run : {X : Type 0} (row front mid back : List X) (from count : ℕ) → row ≡ front ++ (mid ++ back) → from ≡ length front → count ≡ length mid → Picks row (run from count) mid
picks_run row front mid back from count e f c =
    subst (λ r. Picks r (run from count) mid) (sym e)
    (subst (λ n. Picks (front ++ (mid ++ back)) (run n count) mid) (sym f) (subst (λ n. Picks (front ++ (mid ++ back)) (run (length front) n) mid) (sym c) (picks-run front mid back)))

-- each key with what stands at its place
abbrev pub Along : {X : Type 0} → (Key → X → Type 0) → List Key → List X → Type 0
Along R [] [] = Unit {0}
Along R [] (x ∷ xs) = ⊥
Along R (k ∷ ks) [] = ⊥
Along R (k ∷ ks) (x ∷ xs) = R k x × Along R ks xs

pub along_length : {X : Type 0} (R : Key → X → Type 0) (ks : List Key) (xs : List X) → Along R ks xs → length xs ≡ length ks
along_length R [] [] h = refl
along_length R [] (x ∷ xs) h = absurd h
along_length R (k ∷ ks) [] h = absurd h
along_length R (k ∷ ks) (x ∷ xs) h = omega (arith, along_length R ks xs h.1)

abbrev pub IsThere : {X : Type 0} → Key → X → Type 0
IsThere k x = Unit {0}

pub along_any : {X : Type 0} (ks : List Key) (xs : List X) → length xs ≡ length ks → Along IsThere ks xs
along_any [] [] e = tt
along_any [] (x ∷ xs) e = absurd (omega arith)
along_any (k ∷ ks) [] e = absurd (omega arith)
along_any (k ∷ ks) (x ∷ xs) e = (tt, along_any ks xs (omega arith))

abbrev pub IsEntity : (Key → Term) → Key → Term → Type 0
IsEntity g k x = x ≡ g k

pub along_map : (g : Key → Term) (ks : List Key) → Along (IsEntity g) ks (map g ks)
along_map g [] = tt
along_map g (k ∷ ks) = (refl, along_map g ks)

pub map_along : (g : Key → Term) (ks : List Key) (xs : List Term) → Along (IsEntity g) ks xs → xs ≡ map g ks
map_along g [] [] h = refl
map_along g [] (x ∷ xs) h = absurd h
map_along g (k ∷ ks) [] h = absurd h
map_along g (k ∷ ks) (x ∷ xs) h = ap₂ (λ y ys. y ∷ ys) h.0 (map_along g ks xs h.1)

-- where the keys rise, what stands beside them is some entities
abbrev look : List Key → List Term → Key → Term
look [] xs k = symbol 0
look (m ∷ ms) [] k = symbol 0
look (m ∷ ms) (x ∷ xs) k = cond (bytes_eq m k) x (look ms xs k)

map-among : (f g : Key → Term) (ks : List Key) → ((k : Key) → is_among ks k ≡ true → f k ≡ g k) → map f ks ≡ map g ks
map-among f g [] h = refl
map-among f g (k ∷ ks) h = ap₂ (λ x xs. x ∷ xs) (h k (or_left (bytes_eq k k) (is_among ks k) (key_refl k))) (map-among f g ks (λ m a. h m (or_right (bytes_eq k m) (is_among ks m) a)))

looked : (ks : List Key) (xs : List Term) → AreRising ks → length xs ≡ length ks → xs ≡ map (look ks xs) ks
looked [] [] r e = refl
looked [] (x ∷ xs) r e = absurd (omega arith)
looked (k ∷ ks) [] r e = absurd (omega arith)
looked (k ∷ ks) (x ∷ xs) r e =
    ap₂ (λ y ys. y ∷ ys) (ap (λ b. cond b x (look ks xs k)) (sym (key_refl k)))
    (looked ks xs r.1 (omega arith) ∙ map-among (look ks xs) (look (k ∷ ks) (x ∷ xs)) ks (λ m a. ap (λ b. cond b x (look ks xs m)) (sym (other m a))))
  where
    other : (m : Key) → is_among ks m ≡ true → bytes_eq k m ≡ false
    other m a = false_from_ne_true (bytes_eq k m) (λ e. true≢false (sym (subst (λ n. is_among ks n ≡ true) (sym (key_is k m e)) a) ∙ below-absent k ks r.0))

pub entities : (ks : List Key) (xs : List Term) → AreRising ks → length xs ≡ length ks → (g : Key → Term) × (xs ≡ map g ks)
entities ks xs r e = (look ks xs, looked ks xs r e)

-- ---- a walk

-- both rows have the columns of each pair, and the same there
abbrev pub Matches : {X : Type 0} → List X → List X → List Columns → Type 0
Matches p q [] = Unit {0}
Matches {X} p q (c ∷ pairs) = ((x : X) × (slice_get p c.0 ≡ Some x) × (slice_get q c.1 ≡ Some x)) × Matches p q pairs

pub matches_agree : (p q : List Term) (pairs : List Columns) → Matches p q pairs → AgreeOn pairs p q
matches_agree p q [] h = tt
matches_agree p q (c ∷ pairs) h = (h.0.1 ∙ sym h.0.2, matches_agree p q pairs h.1)

module _ {X : Type 0} (R : Key → X → Type 0) (offset : ℕ) (p q row : List X)
    (lefts : (a : ℕ) (x : X) → slice_get p a ≡ Some x → slice_get row a ≡ Some x) (rights : (b : ℕ) (x : X) → slice_get q b ≡ Some x → slice_get row (offset + b) ≡ Some x) where
  -- the kept columns are along the keys
  pub walk_to : {A B : List ℕ} {K L M : List Key} {pairs : List Columns} {keep : List ℕ} (P Q : List X) → IsWalk offset A B K L M pairs keep
      → Picks p A P → Along R K P → Picks q B Q → Along R L Q → (E : List X) × Picks row keep E × Along R M E
  walk_to P Q walk_none pp kp qq lq = ([], tt, tt)
  walk_to [] Q (walk_left a k w) pp kp qq lq = absurd pp
  walk_to (x ∷ P) Q (walk_left a k w) pp kp qq lq =
      let (E, h, m) = walk_to P Q w pp.1 kp.1 qq lq in (x ∷ E, (lefts a x pp.0, h), (kp.0, m))
  walk_to P [] (walk_right b k w) pp kp qq lq = absurd qq
  walk_to P (y ∷ Q) (walk_right b k w) pp kp qq lq =
      let (E, h, m) = walk_to P Q w pp kp qq.1 lq.1 in (y ∷ E, (rights b y qq.0, h), (lq.0, m))
  walk_to [] Q (walk_both a b k w) pp kp qq lq = absurd pp
  walk_to (x ∷ P) [] (walk_both a b k w) pp kp qq lq = absurd qq
  walk_to (x ∷ P) (y ∷ Q) (walk_both a b k w) pp kp qq lq =
      let (E, h, m) = walk_to P Q w pp.1 kp.1 qq.1 lq.1 in (x ∷ E, (lefts a x pp.0, h), (kp.0, m))

  pub walk_pairs : ((k : Key) (x y : X) → R k x → R k y → x ≡ y) → {A B : List ℕ} {K L M : List Key} {pairs : List Columns} {keep : List ℕ} (P Q : List X) → IsWalk offset A B K L M pairs keep
      → Picks p A P → Along R K P → Picks q B Q → Along R L Q → Matches p q pairs
  walk_pairs f P Q walk_none pp kp qq lq = tt
  walk_pairs f [] Q (walk_left a k w) pp kp qq lq = absurd pp
  walk_pairs f (x ∷ P) Q (walk_left a k w) pp kp qq lq = walk_pairs f P Q w pp.1 kp.1 qq lq
  walk_pairs f P [] (walk_right b k w) pp kp qq lq = absurd qq
  walk_pairs f P (y ∷ Q) (walk_right b k w) pp kp qq lq = walk_pairs f P Q w pp kp qq.1 lq.1
  walk_pairs f [] Q (walk_both a b k w) pp kp qq lq = absurd pp
  walk_pairs f (x ∷ P) [] (walk_both a b k w) pp kp qq lq = absurd qq
  walk_pairs f (x ∷ P) (y ∷ Q) (walk_both a b k w) pp kp qq lq =
      ((x, pp.0, qq.0 ∙ ap Some (f k y x lq.0 kp.0)), walk_pairs f P Q w pp.1 kp.1 qq.1 lq.1)

-- and where the rows agree, what is along all keys is along those of both sides
module _ (R : Key → Term → Type 0) (offset : ℕ) (p q row : List Term)
    (lefts : (a : ℕ) (x : Term) → slice_get p a ≡ Some x → slice_get row a ≡ Some x) (rights : (b : ℕ) (x : Term) → slice_get q b ≡ Some x → slice_get row (offset + b) ≡ Some x) where
  pub walk_back : {A B : List ℕ} {K L M : List Key} {pairs : List Columns} {keep : List ℕ} (P Q E : List Term) → IsWalk offset A B K L M pairs keep
      → AgreeOn pairs p q → Picks p A P → Picks q B Q → Picks row keep E → Along R M E → Along R K P × Along R L Q
  walk_back [] [] E walk_none agree pp qq h m = (tt, tt)
  walk_back (x ∷ P) Q E walk_none agree pp qq h m = absurd pp
  walk_back [] (y ∷ Q) E walk_none agree pp qq h m = absurd qq
  walk_back [] Q E (walk_left a k w) agree pp qq h m = absurd pp
  walk_back (x ∷ P) Q [] (walk_left a k w) agree pp qq h m = absurd h
  walk_back (x ∷ P) Q (z ∷ E) (walk_left a k w) agree pp qq h m =
      let r = walk_back P Q E w agree pp.1 qq h.1 m.1 in
      ((subst (R k) (same_Some z x (sym h.0 ∙ lefts a x pp.0)) m.0, r.0), r.1)
  walk_back P [] E (walk_right b k w) agree pp qq h m = absurd qq
  walk_back P (y ∷ Q) [] (walk_right b k w) agree pp qq h m = absurd h
  walk_back P (y ∷ Q) (z ∷ E) (walk_right b k w) agree pp qq h m =
      let r = walk_back P Q E w agree pp qq.1 h.1 m.1 in
      (r.0, (subst (R k) (same_Some z y (sym h.0 ∙ rights b y qq.0)) m.0, r.1))
  walk_back [] Q E (walk_both a b k w) agree pp qq h m = absurd pp
  walk_back (x ∷ P) [] E (walk_both a b k w) agree pp qq h m = absurd qq
  walk_back (x ∷ P) (y ∷ Q) [] (walk_both a b k w) agree pp qq h m = absurd h
  walk_back (x ∷ P) (y ∷ Q) (z ∷ E) (walk_both a b k w) agree pp qq h m =
      let r = walk_back P Q E w agree.1 pp.1 qq.1 h.1 m.1 in
      let e : z ≡ x = same_Some z x (sym h.0 ∙ lefts a x pp.0) in
      let d : x ≡ y = same_Some x y (sym pp.0 ∙ agree.0 ∙ qq.0) in
      ((subst (R k) e m.0, r.0), (subst (R k) (e ∙ d) m.0, r.1))

-- ---- numbers one after the other

run-push : (n from : ℕ) → run from (n + 1) ≡ run from n ++ (from + n) ∷ []
run-push zero from = let here : ℕ → List ℕ = λ m. m ∷ [] in let e : from ≡ from + 0 = omega arith in ap here e
run-push (suc n) from =
    let e : suc n + 1 ≡ suc (n + 1) = omega arith in
    let d : suc from + n ≡ from + suc n = omega arith in
    ap (run from) e ∙ ap (λ xs. from ∷ xs) (run-push n (suc from) ∙ ap (λ m. run (suc from) n ++ m ∷ []) d)

pub run-next : (from n : ℕ) → run from (n + 1) ≡ run from n ++ (from + n) ∷ []
run-next from n = run-push n from

pub run-length : (from n : ℕ) → length (run from n) ≡ n
run-length from zero = refl
run-length from (suc n) = omega (arith, run-length (suc from) n)

pub run_below : (from n bound : ℕ) → from + n ≤ bound → All (λ (k : ℕ). k < bound) (run from n)
run_below from zero bound h = λ k d l. absurd (omega arith)
run_below from (suc n) bound h = by (run_below (suc from) n bound (omega arith)) where
  by : All (λ (k : ℕ). k < bound) (run (suc from) n) → (k : ℕ) (d : ℕ) → k < length (run from (suc n)) → slice_index_or (run from (suc n)) k d < bound
  by rest zero d l = omega arith
  by rest (suc k) d l = rest k d (omega arith)
