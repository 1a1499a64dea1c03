-- Keys in order, before and after they get new names: they are the same keys, and each stands once.
use Rattle.std.proofs.Common.{◌≡◌, Bool, true, false, cond, ◌||◌, List, [], ◌∷◌, map, bytes_eq, refl, ap, ap₂, sym, ◌∙◌, subst, true≢false}
use Rattle.std.specs.Cmp.{alike_right, both_ways}
use Rattle.std.specs.declared.cmp.Ordering.{Ordering}
use Rattle.std.specs.declared.cmp.Ordering.TheVariants.{Less, Equal, Greater}
use Rattle.psg_terms.specs.Names.{is_among, has_twice}
use Rattle.psg_grammar.specs.Keys.{Key, space_of, name_in, key_cmp, insert_key, placed, in_order}
use Rattle.psg_scope.specs.Headers.{IsBelow, AreRising}
use Rattle.psg_scope.proofs.KeyOrder.{key_total, key_exact, key_same, key_turned}
use Rattle.psg_scope.proofs.KeyLists.{below-through, below-absent, or-swap}
use Rattle.psg_renaming.proofs.Permuting.{Permutation}
use Rattle.psg_renaming.proofs.Turned.{new_key, old_key, undo_key, kept-new, among_old}

-- ---- rising lists, also where keys have no space

below_placed : (r : Ordering) (m n k : Key) (rest more : List Key) → key_cmp m n ≡ Less → IsBelow m (k ∷ rest)
    → IsBelow m more → IsBelow m (placed r n k rest more)
below_placed Less m n k rest more less b c = (less, b)
below_placed Equal m n k rest more less b c = b
below_placed Greater m n k rest more less b c = (b.0, c)

below_insert : (m n : Key) (ks : List Key) → key_cmp m n ≡ Less → IsBelow m ks → IsBelow m (insert_key n ks)
below_insert m n [] less b = (less, tt)
below_insert m n (k ∷ ks) less b =
    below_placed (key_cmp n k) m n k ks (insert_key n ks) less b (below_insert m n ks less b.1)

rising_placed : (r : Ordering) (n m : Key) (rest : List Key) → key_cmp n m ≡ r → IsBelow m rest → AreRising rest
    → AreRising (insert_key n rest) → AreRising (placed r n m rest (insert_key n rest))
rising_placed Less n m rest e b s t = ((e, below-through n m rest e b), (b, s))
rising_placed Equal n m rest e b s t = (b, s)
rising_placed Greater n m rest e b s t = (below_insert m n rest (key_turned n m e) b, t)

rising_insert : (n : Key) (ms : List Key) → AreRising ms → AreRising (insert_key n ms)
rising_insert n [] s = (tt, tt)
rising_insert n (m ∷ ms) (b, s) = rising_placed (key_cmp n m) n m ms refl b s (rising_insert n ms s)

rising : (ns : List Key) → AreRising (in_order ns)
rising [] = tt
rising (n ∷ ns) = rising_insert n (in_order ns) (rising ns)

once_rising : (ks : List Key) → AreRising ks → has_twice ks ≡ false
once_rising [] s = refl
once_rising (k ∷ ks) (b, s) = ap₂ (λ c d. c || d) (below-absent k ks b) (once_rising ks s)

pub once_in_order : (ns : List Key) → has_twice (in_order ns) ≡ false
once_in_order ns = once_rising (in_order ns) (rising ns)

-- ---- which keys stay: each behind which none ties with it

abbrev is_tie : Ordering → Bool
is_tie Less = false
is_tie Equal = true
is_tie Greater = false

abbrev tied : Key → List Key → Bool
tied n [] = false
tied n (m ∷ ms) = is_tie (key_cmp n m) || tied n ms

abbrev last_of : List Key → List Key
last_of [] = []
last_of (n ∷ ns) = cond (tied n ns) (last_of ns) (n ∷ last_of ns)

twice_true : (a b c : Bool) → a ≡ b → (a || c) ≡ (b || (a || c))
twice_true true true c e = refl
twice_true false false c e = refl
twice_true true false c e = refl
twice_true false true c e = absurd (true≢false (sym e))

tied_placed : (r : Ordering) (n m k : Key) (ms : List Key) → key_cmp m k ≡ r
    → tied n (insert_key m ms) ≡ (is_tie (key_cmp n m) || tied n ms)
    → tied n (placed r m k ms (insert_key m ms)) ≡ (is_tie (key_cmp n m) || (is_tie (key_cmp n k) || tied n ms))
tied_placed Less n m k ms e h = refl
tied_placed Equal n m k ms e h =
    twice_true (is_tie (key_cmp n k)) (is_tie (key_cmp n m)) (tied n ms)
    (ap is_tie (sym (alike_right key_total m k n e)))
tied_placed Greater n m k ms e h =
    ap (λ b. is_tie (key_cmp n k) || b) h ∙ or-swap (is_tie (key_cmp n k)) (is_tie (key_cmp n m)) (tied n ms)

tied_insert : (n m : Key) (ms : List Key) → tied n (insert_key m ms) ≡ (is_tie (key_cmp n m) || tied n ms)
tied_insert n m [] = refl
tied_insert n m (k ∷ ms) = tied_placed (key_cmp m k) n m k ms refl (tied_insert n m ms)

tied_order : (n : Key) (ns : List Key) → tied n (in_order ns) ≡ tied n ns
tied_order n [] = refl
tied_order n (m ∷ ns) = tied_insert n m (in_order ns) ∙ ap (λ b. is_tie (key_cmp n m) || b) (tied_order n ns)

below_tied : (n : Key) (ks : List Key) → IsBelow n ks → tied n ks ≡ false
below_tied n [] b = refl
below_tied n (k ∷ ks) (e, b) = ap₂ (λ c d. c || d) (ap is_tie e) (below_tied n ks b)

-- the keys with one more, if none of them ties with it
abbrev with_one : Bool → Bool → Bool → Bool
with_one t here there = cond t there (here || there)

moved : (t a b c : Bool) → (a || with_one t b c) ≡ with_one t b (a || c)
moved true a b c = refl
moved false a b c = or-swap a b c

members_placed : (r : Ordering) (n m k : Key) (ms : List Key) → key_cmp n m ≡ r → IsBelow m ms
    → is_among (insert_key n ms) k ≡ with_one (tied n ms) (bytes_eq n k) (is_among ms k)
    → is_among (placed r n m ms (insert_key n ms)) k ≡ with_one (is_tie (key_cmp n m) || tied n ms) (bytes_eq n k)
    (bytes_eq m k || is_among ms k)
members_placed Less n m k ms e b h =
    sym (ap (λ t. with_one t (bytes_eq n k) (bytes_eq m k || is_among ms k))
    (ap₂ (λ c d. c || d) (ap is_tie e) (below_tied n ms (below-through n m ms e b))))
members_placed Equal n m k ms e b h =
    sym (ap (λ c. with_one (is_tie c || tied n ms) (bytes_eq n k) (bytes_eq m k || is_among ms k)) e)
members_placed Greater n m k ms e b h =
    ap (λ c. bytes_eq m k || c) h ∙ moved (tied n ms) (bytes_eq m k) (bytes_eq n k) (is_among ms k)
    ∙ sym (ap (λ c. with_one (is_tie c || tied n ms) (bytes_eq n k) (bytes_eq m k || is_among ms k)) e)

members_insert : (n k : Key) (ms : List Key) → AreRising ms
    → is_among (insert_key n ms) k ≡ with_one (tied n ms) (bytes_eq n k) (is_among ms k)
members_insert n k [] s = refl
members_insert n k (m ∷ ms) (b, s) = members_placed (key_cmp n m) n m k ms refl b (members_insert n k ms s)

among_chosen : (t : Bool) (n k : Key) (ns : List Key)
    → with_one t (bytes_eq n k) (is_among ns k) ≡ is_among (cond t ns (n ∷ ns)) k
among_chosen true n k ns = refl
among_chosen false n k ns = refl

members : (ns : List Key) (k : Key) → is_among (in_order ns) k ≡ is_among (last_of ns) k
members [] k = refl
members (n ∷ ns) k =
    members_insert n k (in_order ns) (rising ns)
    ∙ ap₂ (λ t b. with_one t (bytes_eq n k) b) (tied_order n ns) (members ns k)
    ∙ among_chosen (tied n ns) n k (last_of ns)

-- ---- under new names, of which the empty list is none

-- a key without a space ties with the key of the space 0 without a name
abbrev full : Key → Key
full k = space_of k ∷ name_in k

tie_is : (r : Ordering) → is_tie r ≡ true → r ≡ Equal
tie_is Less e = absurd (true≢false (sym e))
tie_is Equal e = refl
tie_is Greater e = absurd (true≢false (sym e))

tie_full : (n m : Key) → is_tie (key_cmp n m) ≡ true → full n ≡ full m
tie_full n m e = key_exact (full n) (full m) tt tt (tie_is (key_cmp n m) e)

full_tie : (n m : Key) → full n ≡ full m → is_tie (key_cmp n m) ≡ true
full_tie n m e = ap is_tie (subst (λ k. key_cmp (full n) k ≡ Equal) e (key_same (full n)))

module _ (p : Permutation) (empty : p.to [] ≡ []) where
  full_new : (k : Key) → full (new_key p k) ≡ new_key p (full k)
  full_new [] = ap (λ n. 0 ∷ n) (sym empty)
  full_new (s ∷ n) = refl

  tie_new : (n m : Key) → is_tie (key_cmp (new_key p n) (new_key p m)) ≡ is_tie (key_cmp n m)
  tie_new n m = both_ways (is_tie (key_cmp (new_key p n) (new_key p m))) (is_tie (key_cmp n m))
      (λ e.
      let same : new_key p (full n) ≡ new_key p (full m) = sym (full_new n) ∙ tie_full (new_key p n) (new_key p m) e
      ∙ full_new m in
      full_tie n m (sym (undo_key p (full n)) ∙ ap (old_key p) same ∙ undo_key p (full m)))
      (λ e. full_tie (new_key p n) (new_key p m) (full_new n ∙ ap (new_key p) (tie_full n m e) ∙ sym (full_new m)))

  tied_new : (n : Key) (ms : List Key) → tied (new_key p n) (map (new_key p) ms) ≡ tied n ms
  tied_new n [] = refl
  tied_new n (m ∷ ms) = ap₂ (λ a b. a || b) (tie_new n m) (tied_new n ms)

  last_new : (ns : List Key) → last_of (map (new_key p) ns) ≡ map (new_key p) (last_of ns)
  last_new [] = refl
  last_new (n ∷ ns) =
      ap₂ (λ t l. cond t l (new_key p n ∷ l)) (tied_new n ns) (last_new ns) ∙ kept-new p (tied n ns) n (last_of ns)

  pub same_in_order : (ns : List Key) (k : Key)
      → is_among (map (new_key p) (in_order ns)) k ≡ is_among (in_order (map (new_key p) ns)) k
  same_in_order ns k =
      among_old p (in_order ns) k ∙ members ns (old_key p k) ∙ sym (among_old p (last_of ns) k)
      ∙ ap (λ l. is_among l k) (sym (last_new ns)) ∙ sym (members (map (new_key p) ns) k)
