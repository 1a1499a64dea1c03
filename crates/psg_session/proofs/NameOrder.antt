-- Names in the order of bytes, each once: what they are does not depend on the order in which they were found.
use Rattle.std.proofs.Common.{◌≡◌, ◌⊎◌, inl, inr, ℕ, ◌+◌, ◌<◌, ◌||◌, Bool, true, false, true≢false, List, [], ◌∷◌, reverse, take, length, get_or, cond, refl, sym, ◌∙◌, ap, ap₂, subst, arith}
use Rattle.std.specs.List.{AllByRecursion}
use Rattle.std.specs.List.Sorted.{IsPermutation, IsSortedByClosure}
use Rattle.std.specs.Fn.{Called}
use denote.Ref.{Bor}
use denote.Param.Members.{Mut}
use Rattle.std.specs.Cmp.{IsStrictWeakOrder}
use Rattle.std.specs.Cmp.Lexicographic.{slice_cmp}
use Rattle.std.specs.Ordering.{is_lt, nat_cmp, ordering_reverse}
use Rattle.std.specs.declared.cmp.Ordering.{Ordering}
use Rattle.std.specs.declared.cmp.Ordering.TheVariants.{Less, Equal, Greater}
use Rattle.std.proofs.lemmas.Bool.{cases_Bool, false≢true}
use Rattle.std.proofs.lemmas.Cmp.{nat_list_cmp_total}
use Rattle.std.proofs.lemmas.List.Elements.{All-from_recursion, recursion_from_All}
use Rattle.std.proofs.lemmas.Fn.{always_returns_same}
use Rattle.std.proofs.lemmas.List.{get_or-take, length-take-le, get_or_default}
use Rattle.std.proofs.lemmas.List.Sorted.{All-permutation, IsPermutation-reverse, IsPermutation-sym, IsStrictWeakOrder-flip, ranks_by, sorted_far}
use Rattle.std.proofs.lemmas.Map.Lookups.{exact_bytes}
use Rattle.std.proofs.lemmas.Slice.Eq.{bytes_eq-Decides}
use Rattle.std.specs.Prelude.{bytes_eq}
use Rattle.psg_terms.specs.Names.{Name, is_among}
use Rattle.psg_grammar.specs.Keys.{placed}
use Rattle.psg_menu.specs.Menus.{in_byte_order, insert_name}
use Rattle.psg_session.specs.Gathered.{is_first, IsFalling}
use Rattle.psg_session.proofs.NameWalks.{all_inserted, all_ordered, turned_more, used_in_order}

abbrev IsBelow : Name → Name → Type 0
IsBelow n m = slice_cmp nat_cmp n m ≡ Less

-- each name is below those after it
abbrev IsAscending : List Name → Type 0
IsAscending [] = Unit {0}
IsAscending (n ∷ ns) = AllByRecursion (IsBelow n) ns × IsAscending ns

abbrev AreAmong : List Name → List Name → Type 0
AreAmong ns = AllByRecursion (λ k. is_among ns k ≡ true)

-- ---- the order

turned : (n m : Name) → slice_cmp nat_cmp n m ≡ Greater → IsBelow m n
turned n m e = nat_list_cmp_total.antisymm m n ∙ ap ordering_reverse e

below_not : (n : Name) → IsBelow n n → ⊥
below_not n e = let d : Less ≡ Greater = sym e ∙ nat_list_cmp_total.antisymm n n ∙ ap ordering_reverse e in absurd (cc)

not_both : (n m : Name) → IsBelow n m → IsBelow m n → ⊥
not_both n m e d = below_not n (nat_list_cmp_total.trans n m n e d)

all_below : (n m : Name) (ks : List Name) → IsBelow n m → AllByRecursion (IsBelow m) ks → AllByRecursion (IsBelow n) ks
all_below n m [] e all = tt
all_below n m (k ∷ ks) e all = (nat_list_cmp_total.trans n m k e all.0, all_below n m ks e all.1)

insert_ascending : (n : Name) (ms : List Name) → IsAscending ms → IsAscending (insert_name n ms)
insert_ascending n [] h = (tt, tt)
insert_ascending n (m ∷ ms) h = by_order (slice_cmp nat_cmp n m) refl (insert_ascending n ms h.1) where
  by_order : (r : Ordering) → slice_cmp nat_cmp n m ≡ r → IsAscending (insert_name n ms)
      → IsAscending (placed r n m ms (insert_name n ms))
  by_order Less e more = ((e, all_below n m ms e h.0), h)
  by_order Equal e more = h
  by_order Greater e more = (all_inserted (IsBelow m) n ms (turned n m e) h.0, more)

ordered_ascending : (ns : List Name) → IsAscending (in_byte_order ns)
ordered_ascending [] = tt
ordered_ascending (n ∷ ns) = insert_ascending n (in_byte_order ns) (ordered_ascending ns)

-- ---- ascending names are known by which names they are

among_cases : (m : Name) (ms : List Name) (k : Name) → is_among (m ∷ ms) k ≡ true → (m ≡ k) ⊎ (is_among ms k ≡ true)
among_cases m ms k h = elim (cases_Bool (bytes_eq m k)) [
  | inl e ↦ inl ((bytes_eq-Decides m k).0 e)
  | inr e ↦ inr (sym (ap (λ x. x || is_among ms k) e) ∙ h)
]

at_name : (P : Name → Type 0) (ks : List Name) (k : Name) → AllByRecursion P ks → is_among ks k ≡ true → P k
at_name P [] k all h = absurd (false≢true h)
at_name P (m ∷ ms) k all h = elim (among_cases m ms k h) [
  | inl e ↦ subst P e all.0
  | inr more ↦ at_name P ms k all.1 more
]

without : (x : Name) (xs ys : List Name) → AllByRecursion (IsBelow x) ys → AreAmong (x ∷ xs) ys → AreAmong xs ys
without x xs [] low all = tt
without x xs (y ∷ ys) low all = (not_first, without x xs ys low.1 all.1) where
  not_first : is_among xs y ≡ true
  not_first = elim (among_cases x xs y all.0) [
    | inl e ↦ absurd (below_not x (subst (IsBelow x) (sym e) low.0))
    | inr h ↦ h
  ]

same_first : (x : Name) (xs : List Name) (y : Name) (ys : List Name) → IsAscending (x ∷ xs) → IsAscending (y ∷ ys)
    → is_among (x ∷ xs) y ≡ true → is_among (y ∷ ys) x ≡ true → x ≡ y
same_first x xs y ys a b h g = elim (among_cases x xs y h) [
  | inl e ↦ e
  | inr i ↦ elim (among_cases y ys x g) [
    | inl e ↦ sym e
    | inr j ↦ absurd (not_both x y (at_name (IsBelow x) xs y a.0 i) (at_name (IsBelow y) ys x b.0 j))
  ]
]

same_names : (xs ys : List Name) → IsAscending xs → IsAscending ys → AreAmong xs ys → AreAmong ys xs → xs ≡ ys
same_names [] [] a b h g = refl
same_names [] (y ∷ ys) a b h g = absurd (false≢true h.0)
same_names (x ∷ xs) [] a b h g = absurd (false≢true g.0)
same_names (x ∷ xs) (y ∷ ys) a b h g =
    let one : x ≡ y = same_first x xs y ys a b h.0 g.0 in
    let more = same_names xs ys a.1 b.1
    (without x xs ys (subst (λ n. AllByRecursion (IsBelow n) ys) (sym one) b.0) h.1)
    (without y ys xs (subst (λ n. AllByRecursion (IsBelow n) xs) one a.0) g.1) in
    ap₂ (λ n ns. n ∷ ns) one more

among_moved : (xs ys : List Name) → IsPermutation xs ys → AreAmong (in_byte_order xs) (in_byte_order ys)
among_moved xs ys moved =
    all_ordered (λ k. is_among (in_byte_order xs) k ≡ true) ys
    (recursion_from_All (λ k. is_among (in_byte_order xs) k ≡ true) ys
    (All-permutation (λ k. is_among (in_byte_order xs) k ≡ true) xs ys moved
    (All-from_recursion (λ k. is_among (in_byte_order xs) k ≡ true) xs (used_in_order xs))))

pub order_free : (xs ys : List Name) → IsPermutation xs ys → in_byte_order ys ≡ in_byte_order xs
order_free xs ys moved =
    sym (same_names (in_byte_order xs) (in_byte_order ys) (ordered_ascending xs) (ordered_ascending ys)
    (among_moved xs ys moved) (among_moved ys xs (IsPermutation-sym xs ys moved)))

-- from the last to the first
pub order_turned : (found falling : List Name) → IsPermutation found falling
    → in_byte_order (reverse falling) ≡ in_byte_order found
order_turned found falling moved = order_free falling (reverse falling) (IsPermutation-reverse falling) ∙ order_free found falling moved

-- ---- one more name, which is above none of them

pub put_first : (n : Name) (ms : List Name) → AllByRecursion (λ m. is_lt (slice_cmp nat_cmp m n) ≡ false) ms
    → insert_name n ms ≡ cond (is_first ms n) ms (n ∷ ms)
put_first n [] all = refl
put_first n (m ∷ ms) all = by_order (slice_cmp nat_cmp n m) refl where
  goal_of : (b : Bool) → bytes_eq m n ≡ b → cond b (m ∷ ms) (n ∷ m ∷ ms) ≡ cond (bytes_eq m n) (m ∷ ms) (n ∷ m ∷ ms)
  goal_of b e = ap (λ x. cond x (m ∷ ms) (n ∷ m ∷ ms)) (sym e)

  apart : IsBelow n m → bytes_eq m n ≡ false
  apart e = elim (cases_Bool (bytes_eq m n)) [
    | inl t ↦ absurd (below_not n (subst (IsBelow n) ((bytes_eq-Decides m n).0 t) e))
    | inr f ↦ f
  ]

  by_order : (r : Ordering) → slice_cmp nat_cmp n m ≡ r
      → placed r n m ms (insert_name n ms) ≡ cond (bytes_eq m n) (m ∷ ms) (n ∷ m ∷ ms)
  by_order Less e = goal_of false (apart e)
  by_order Equal e = goal_of true ((bytes_eq-Decides m n).1 (sym (exact_bytes n m e)))
  by_order Greater e = absurd (true≢false (sym (ap is_lt (turned n m e)) ∙ all.0))

-- ---- names from the last to the first

-- one more of them
pub next_once : (ns : List Name) (i : ℕ) (n : Name) (old new : List Name) → IsFalling ns → i < length ns → n ≡ get_or ns i n
    → old ≡ in_byte_order (reverse (take i ns)) → new ≡ cond (is_first old n) old (n ∷ old)
    → new ≡ in_byte_order (reverse (take (i + 1) ns))
next_once ns i n old new falling small is so_far more =
    more ∙ ap (λ l. cond (is_first l n) l (n ∷ l)) so_far
    ∙ sym (put_first n (in_byte_order (reverse (take i ns))) (all_ordered (λ m. is_lt (slice_cmp nat_cmp m n) ≡ false) (reverse (take i ns)) turned_all))
    ∙ sym (turned_more ns i n small is)
  where
    turned_all : AllByRecursion (λ m. is_lt (slice_cmp nat_cmp m n) ≡ false) (reverse (take i ns))
    turned_all =
        recursion_from_All (λ m. is_lt (slice_cmp nat_cmp m n) ≡ false) (reverse (take i ns))
        (All-permutation (λ m. is_lt (slice_cmp nat_cmp m n) ≡ false) (take i ns) (reverse (take i ns)) (IsPermutation-reverse (take i ns))
        (λ k d within.
        let long = length-take-le i ns (omega (arith, small)) in
        let low : k < i = omega (arith, within, long) in
        let here : get_or ns i d ≡ n = get_or_default ns i d n small ∙ sym is in
        subst (λ m. is_lt (slice_cmp nat_cmp m n) ≡ false) (sym (get_or-take i ns k d low))
        (subst (λ m. is_lt (slice_cmp nat_cmp (get_or ns k d) m) ≡ false) here (falling k i d low small))))

falling_order : IsStrictWeakOrder (λ (n m : Name). is_lt (slice_cmp nat_cmp m n))
falling_order = IsStrictWeakOrder-flip (λ (n m : Name). is_lt (slice_cmp nat_cmp n m)) (ranks_by nat_list_cmp_total (λ (n : Name). n))

-- a sort by a closure that compares the other way round
pub sorted_falling : {F : Type 0} {g : Mut F (Bor Name × (Bor Name × Unit {0})) Ordering} {f : F} (ns : List Name) → IsSortedByClosure g f ns
    → ((a : Bor Name × (Bor Name × Unit {0})) (r : Ordering) (f' : F) → Called g f a r f' → (r ≡ slice_cmp nat_cmp a.1.0.now a.0.now) × (f' ≡ f))
    → IsFalling ns
sorted_falling {g = g} {f = f} ns up h i j d before within =
    sorted_far (λ n m. is_lt (slice_cmp nat_cmp m n)) falling_order ns
    (up (λ n m. is_lt (slice_cmp nat_cmp m n)) falling_order
    (always_returns_same g (λ a r. is_lt r ≡ is_lt (slice_cmp nat_cmp a.1.0.now a.0.now)) f (λ a r f' k. (ap is_lt (h a r f' k).0, (h a r f' k).1))))
    i j d (omega (arith, before)) within
