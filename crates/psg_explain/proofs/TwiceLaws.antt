-- Keys that stand at two places of a list.
use Rattle.std.proofs.Common.{◌≡◌, ◌⊎◌, inl, inr, ◌+◌, ◌<◌, ◌≤◌, ◌||◌, ◌&&◌, ℕ, zero, suc, Bool, true, false, bytes_eq, Bor, List, [], ◌∷◌, ◌++◌, drop, take, get_or, length, Option, Some, None, option_copied, refl, ap, sym, subst, ◌∙◌, arith}
use Rattle.std.specs.Prelude.{MatchOption}
use Rattle.std.specs.declared.cmp.Ordering.{Ordering}
use Rattle.std.specs.declared.cmp.Ordering.TheVariants.{Less, Equal, Greater}
use Rattle.std.proofs.lemmas.Bool.{cases_Bool, or_cases, or_right, true≢false}
use Rattle.psg_terms.specs.Names.{has_twice, is_among}
use Rattle.psg_terms.proofs.DeclareLaws.{is_among-append}
use Rattle.std.proofs.lemmas.List.{map-append}
use Rattle.psg_terms.proofs.Lists.{drop_item, take_item}
use Rattle.psg_grammar.specs.Keys.{Key, key_cmp}
use Rattle.psg_scope.specs.declared.header.NameCol.{NameCol}
use Rattle.psg_scope.specs.Headers.{key_of, keys}
use Rattle.psg_scope.proofs.KeyLists.{below-through, key_is, key_refl}
use Rattle.psg_scope.proofs.KeyOrder.{key_exact, key_turned}
use Rattle.psg_explain.specs.DeclaredParts.{IsFirstAmong, IsLeast}
use Rattle.psg_explain.specs.Explanations.{IsFirstTwice}
use Rattle.psg_explain.specs.Refutations.{is_twice_among}

module _ (k : Key) where
  twice_among : (ns : List Key) → is_twice_among ns k ≡ true → is_among ns k ≡ true
  twice_among [] h = h
  twice_among (n ∷ ns) h = by (bytes_eq n k) (is_among ns k) (is_twice_among ns k) (twice_among ns) h
    where
      by : (b a t : Bool) → (t ≡ true → a ≡ true) → ((b && a) || t) ≡ true → (b || a) ≡ true
      by true a t f h = refl
      by false a t f h = f h

  twice_here : (ns : List Key) → (is_among ns k || is_twice_among ns k) ≡ is_among ns k
  twice_here ns = by (is_among ns k) (is_twice_among ns k) (twice_among ns)
    where
      by : (a t : Bool) → (t ≡ true → a ≡ true) → (a || t) ≡ a
      by true t f = refl
      by false true f = sym (f refl)
      by false false f = refl

  module _ (ns : List NameCol) (i : ℕ) (n : NameCol) (lt : i < length ns) (at : n ≡ get_or ns i n) where
    there_drop : is_among (keys (drop i ns)) k ≡ (bytes_eq (key_of n) k || is_among (keys (drop (i + 1) ns)) k)
    there_drop = ap (λ (l : List NameCol). is_among (keys l) k) (drop_item ns i n lt at)

    pub there_here : bytes_eq (key_of n) k ≡ true → is_among (keys (drop i ns)) k ≡ true
    there_here e = there_drop ∙ ap (λ b. b || is_among (keys (drop (i + 1) ns)) k) e

    pub there_next : bytes_eq (key_of n) k ≡ false → is_among (keys (drop (i + 1) ns)) k ≡ is_among (keys (drop i ns)) k
    there_next e = sym (there_drop ∙ ap (λ b. b || is_among (keys (drop (i + 1) ns)) k) e)

    twice_drop : is_twice_among (keys (drop i ns)) k ≡ ((bytes_eq (key_of n) k && is_among (keys (drop (i + 1) ns)) k) || is_twice_among (keys (drop (i + 1) ns)) k)
    twice_drop = ap (λ (l : List NameCol). is_twice_among (keys l) k) (drop_item ns i n lt at)

    pub twice_found : bytes_eq (key_of n) k ≡ true → is_twice_among (keys (drop i ns)) k ≡ is_among (keys (drop (i + 1) ns)) k
    twice_found e =
        twice_drop ∙ ap (λ b. (b && is_among (keys (drop (i + 1) ns)) k) || is_twice_among (keys (drop (i + 1) ns)) k) e ∙ twice_here (keys (drop (i + 1) ns))

    pub twice_next : bytes_eq (key_of n) k ≡ false → is_twice_among (keys (drop (i + 1) ns)) k ≡ is_twice_among (keys (drop i ns)) k
    twice_next e = sym (twice_drop ∙ ap (λ b. (b && is_among (keys (drop (i + 1) ns)) k) || is_twice_among (keys (drop (i + 1) ns)) k) e)

  none_dropped : (ns : List NameCol) (i : ℕ) → length ns ≤ i → drop i ns ≡ []
  none_dropped [] zero h = refl
  none_dropped [] (suc i) h = refl
  none_dropped (n ∷ ns) zero h = absurd (omega (arith, h))
  none_dropped (n ∷ ns) (suc i) h = none_dropped ns i (omega (arith, h))

  pub there_end : (ns : List NameCol) (i : ℕ) → length ns ≤ i → is_among (keys (drop i ns)) k ≡ false
  there_end ns i h = ap (λ (l : List NameCol). is_among (keys l) k) (none_dropped ns i h)

  pub twice_end : (ns : List NameCol) (i : ℕ) → length ns ≤ i → is_twice_among (keys (drop i ns)) k ≡ false
  twice_end ns i h = ap (λ (l : List NameCol). is_twice_among (keys l) k) (none_dropped ns i h)

-- ---- the first key that stands at two places

pub some_twice : (ks : List Key) → has_twice ks ≡ true → (k : Key) × (is_twice_among ks k ≡ true)
some_twice [] h = absurd (true≢false (sym h))
some_twice (n ∷ ns) h = elim (or_cases (is_among ns n) (has_twice ns) h) [
  | inl e ↦ (n, ap (λ b. (b && is_among ns n) || is_twice_among ns n) (key_refl n) ∙ ap (λ b. b || is_twice_among ns n) e)
  | inr e ↦ (let (k, twice) = some_twice ns e in (k, or_right (bytes_eq n k && is_among ns k) (is_twice_among ns k) twice))
]

-- a key of the list, or one more
among_more : (front : List Key) (k other : Key) → is_among (front ++ k ∷ []) other ≡ true → (is_among front other ≡ true) ⊎ (k ≡ other)
among_more front k other h =
    elim (or_cases (is_among front other) (bytes_eq k other || false) (sym (is_among-append front (k ∷ []) other) ∙ h)) [
      | inl e ↦ inl e
      | inr e ↦ elim (or_cases (bytes_eq k other) false e) [ inl d ↦ inr (key_is k other d) | inr d ↦ absurd (true≢false (sym d)) ]
    ]

less_through : (n m k : Key) → key_cmp n m ≡ Less → key_cmp m k ≡ Less → key_cmp n k ≡ Less
less_through n m k h j = (below-through n m (k ∷ []) h (j, tt)).0

not_less : (n m : NameCol) → (key_cmp (key_of n) (key_of m) ≡ Less → ⊥) → (key_of n ≡ key_of m) ⊎ (key_cmp (key_of m) (key_of n) ≡ Less)
not_less n m h = by (key_cmp (key_of n) (key_of m)) refl
  where
    by : (o : Ordering) → key_cmp (key_of n) (key_of m) ≡ o → (key_of n ≡ key_of m) ⊎ (key_cmp (key_of m) (key_of n) ≡ Less)
    by Less e = absurd (h e)
    by Equal e = inl (key_exact (key_of n) (key_of m) tt tt e)
    by Greater e = inr (key_turned (key_of n) (key_of m) e)

module _ (ks front : List Key) (key : NameCol) where
  pub first_skipped : (found : Option NameCol) → is_twice_among ks (key_of key) ≡ false → IsFirstAmong ks front found → IsFirstAmong ks (front ++ key_of key ∷ []) found
  first_skipped None once h = λ other among twice.
      elim (among_more front (key_of key) other among) [ inl e ↦ h other e twice | inr e ↦ true≢false (sym twice ∙ ap (is_twice_among ks) (sym e) ∙ once) ]
  first_skipped (Some c) once (own, h) = (
    own,
    λ other among twice.
        elim (among_more front (key_of key) other among) [ inl e ↦ h other e twice | inr e ↦ absurd (true≢false (sym twice ∙ ap (is_twice_among ks) (sym e) ∙ once)) ],
  )

  pub first_found : (found : Option NameCol) (least : NameCol) → is_twice_among ks (key_of key) ≡ true → IsLeast found key least → IsFirstAmong ks front found
      → IsFirstAmong ks (front ++ key_of key ∷ []) (Some least)
  first_found None least own is h =
      let e : key_of least ≡ key_of key = ap key_of is in (
        ap (is_twice_among ks) e ∙ own,
        λ other among twice. elim (among_more front (key_of key) other among) [ inl d ↦ absurd (h other d twice) | inr d ↦ inl (sym d ∙ sym e) ],
      )
  first_found (Some c) least own (inl (less, is)) (twice_too, h) =
      let e : key_of least ≡ key_of key = ap key_of is in (
        ap (is_twice_among ks) e ∙ own,
        λ other among twice. elim (among_more front (key_of key) other among) [
          | inl d ↦ inr (ap (λ k. key_cmp k other) e ∙ elim (h other d twice) [ inl same ↦ ap (key_cmp (key_of key)) same ∙ less | inr more ↦ less_through (key_of key) (key_of c) other less more ])
          | inr d ↦ inl (sym d ∙ sym e)
        ],
      )
  first_found (Some c) least own (inr (more, is)) (twice_too, h) =
      let e : key_of least ≡ key_of c = ap key_of is in (
        ap (is_twice_among ks) e ∙ twice_too,
        λ other among twice. elim (among_more front (key_of key) other among) [
          | inl d ↦ elim (h other d twice) [ inl same ↦ inl (same ∙ sym e) | inr less ↦ inr (ap (λ k. key_cmp k other) e ∙ less) ]
          | inr d ↦ elim (not_less key c more) [
            | inl same ↦ inl (sym d ∙ same ∙ sym e)
            | inr less ↦ inr (ap (λ k. key_cmp k other) e ∙ ap (key_cmp (key_of c)) (sym d) ∙ less)
          ]
        ],
      )

pub first_none : (ks : List Key) → IsFirstAmong ks ks None → has_twice ks ≡ false
first_none ks h = elim (cases_Bool (has_twice ks)) [
  | inl e ↦ (let (k, twice) = some_twice ks e in absurd (h k (twice_among k ks twice) twice))
  | inr e ↦ e
]

pub first_some : (ks : List Key) (c : NameCol) → IsFirstAmong ks ks (Some c) → IsFirstTwice ks (key_of c)
first_some ks c (own, h) = record { twice = own; first = λ other twice. h other (twice_among other ks twice) twice }

pub least_first : (o : Option NameCol) (key other : NameCol) (r : Ordering) → o ≡ Some other → r ≡ key_cmp (key_of key) (key_of other) → r ≡ Less → IsLeast o key key
least_first o key other r at is e = subst (λ x. IsLeast x key key) (sym at) (inl (sym is ∙ e, refl))

pub least_other : (o : Option NameCol) (key other : NameCol) (r : Ordering) → o ≡ Some other → r ≡ key_cmp (key_of key) (key_of other) → (r ≡ Less → ⊥) → IsLeast o key other
least_other o key other r at is no_less = subst (λ x. IsLeast x key other) (sym at) (inr ((λ e. no_less (is ∙ e)), refl))

pub least_only : (o : Option NameCol) (key : NameCol) → o ≡ None → IsLeast o key key
least_only o key none = subst (λ x. IsLeast x key key) (sym none) refl

pub first_end : (ks : List Key) (o : Option (Bor NameCol)) → IsFirstAmong ks ks (option_copied o) → MatchOption o (has_twice ks ≡ false) (λ k. IsFirstTwice ks (key_of k.now))
first_end ks None h = first_none ks h
first_end ks (Some k) h = first_some ks k.now h

-- one key more was looked at
pub first_next : (ks : List Key) (ns : List NameCol) (i : ℕ) (n : NameCol) (o : Option NameCol) → i < length ns → n ≡ get_or ns i n → IsFirstAmong ks (keys (take i ns) ++ key_of n ∷ []) o → IsFirstAmong ks (keys (take (i + 1) ns)) o
first_next ks ns i n o lt at h = subst (λ l. IsFirstAmong ks l o) (sym (ap keys (take_item ns i n lt at) ∙ map-append key_of (take i ns) (n ∷ []))) h

pub nothing_found : (ks : List Key) (ns : List NameCol) → IsFirstAmong ks (keys (take 0 ns)) None
nothing_found ks [] other among twice = true≢false (sym among)
nothing_found ks (n ∷ ns) other among twice = true≢false (sym among)
