-- Two ascending lists of spaces made one.
use Rattle.std.proofs.Common.{◌≡◌, inl, inr, ℕ, zero, suc, ◌<◌, ◌≤◌, ◌==◌, get_or, Result, Ok, Err, MatchResult, is_ok, true, ◌||◌, List, [], ◌∷◌, ◌++◌, length, sym, ap, subst, ◌∙◌, arith, true≢false}
use Rattle.std.specs.List.{AllByRecursion}
use Rattle.std.proofs.lemmas.Bool.{cases_lt, false_from_ne_true, or_cases, or_right, or_left, eqb-true}
use Rattle.std.specs.Ordering.{nat_cmp}
use Rattle.std.specs.List.Sorted.{IsBinarySearchResult}
use Rattle.std.proofs.lemmas.List.Sorted.{searched}
use Rattle.std.proofs.Math.Bool.{or-false, or_assoc}
use Rattle.psg_terms.proofs.Lists.{eqb-refl}
use Rattle.psg_scope.specs.Headers.{AreAscending, has_space}
use Rattle.psg_scope.specs.Spaces.{IsLeast}

pub all-has : (P : ℕ → Type 0) (ss : List ℕ) (t : ℕ) → AllByRecursion P ss → has_space ss t ≡ true → P t
all-has P [] t a e = absurd (true≢false (sym e))
all-has P (s ∷ ss) t a e = elim (or_cases (s == t) (has_space ss t) e) [
  | inl same ↦ subst P (eqb-true s t same) a.0
  | inr later ↦ all-has P ss t a.1 later
]

pub all-of : (P : ℕ → Type 0) (ss : List ℕ) → ((t : ℕ) → has_space ss t ≡ true → P t) → AllByRecursion P ss
all-of P [] f = tt
all-of P (s ∷ ss) f = (f s (or_left (s == s) (has_space ss s) (eqb-refl s)), all-of P ss (λ t e. f t (or_right (s == t) (has_space ss t) e)))

pub has-push : (ss : List ℕ) (s t : ℕ) → has_space (ss ++ s ∷ []) t ≡ (has_space ss t || (s == t))
has-push [] s t = or-false (s == t)
has-push (r ∷ ss) s t = ap (λ b. (r == t) || b) (has-push ss s t) ∙ sym (or_assoc (r == t) (has_space ss t) (s == t))

ascending-push : (ss : List ℕ) (s : ℕ) → AreAscending ss → ((t : ℕ) → has_space ss t ≡ true → t < s) → AreAscending (ss ++ s ∷ [])
ascending-push [] s a f = (tt, tt)
ascending-push (r ∷ ss) s a f = (all-of (λ t. r < t) (ss ++ s ∷ []) behind, ascending-push ss s a.1 (λ t e. f t (or_right (r == t) (has_space ss t) e)))
  where
    behind : (t : ℕ) → has_space (ss ++ s ∷ []) t ≡ true → r < t
    behind t e = elim (or_cases (has_space ss t) (s == t) (sym (has-push ss s t) ∙ e)) [
      | inl there ↦ all-has (λ q. r < q) ss t a.0 there
      | inr same ↦ subst (λ q. r < q) (eqb-true s t same) (f r (or_left (r == r) (has_space ss r) (eqb-refl r)))
    ]

-- ---- as far as the walk has come

pub record IsUnionSoFar (left right a b all : List ℕ) : Type 0 where
  pub spaces : (s : ℕ) → (has_space all s || (has_space a s || has_space b s)) ≡ (has_space left s || has_space right s)
  pub lefts : AreAscending a
  pub rights : AreAscending b
  pub ascending : AreAscending all
  pub below : (s t : ℕ) → has_space all s ≡ true → (has_space a t || has_space b t) ≡ true → s < t

pub union_step : {left right a b all lefts rights new : List ℕ} {s : ℕ} → IsUnionSoFar left right a b all → IsLeast a b s lefts rights
    → new ≡ all ++ s ∷ [] → IsUnionSoFar left right lefts rights new
union_step {left} {right} {a} {b} {all} {lefts} {rights} {new} {s} u h e = record {
  spaces = λ t. ap (λ l. has_space l t || (has_space lefts t || has_space rights t)) e ∙ ap (λ c. c || (has_space lefts t || has_space rights t)) (has-push all s t)
      ∙ or_assoc (has_space all t) (s == t) (has_space lefts t || has_space rights t) ∙ ap (λ c. has_space all t || c) (sym (h.spaces t)) ∙ u.spaces t;
  lefts = h.left_ascending u.lefts;
  rights = h.right_ascending u.rights;
  ascending = subst AreAscending (sym e) (ascending-push all s u.ascending (λ t there. u.below t s there here));
  below = λ t r there later. under t r (sym (has-push all s t) ∙ (ap (λ l. has_space l t) (sym e) ∙ there)) later;
}
  where
    here : (has_space a s || has_space b s) ≡ true
    here = h.spaces s ∙ or_left (s == s) (has_space lefts s || has_space rights s) (eqb-refl s)

    under : (t r : ℕ) → (has_space all t || (s == t)) ≡ true → (has_space lefts r || has_space rights r) ≡ true → t < r
    under t r there later = elim (or_cases (has_space all t) (s == t) there) [
      | inl before ↦ u.below t r before (h.spaces r ∙ or_right (s == r) (has_space lefts r || has_space rights r) later)
      | inr same ↦ subst (λ q. q < r) (eqb-true s t same) (elim (or_cases (has_space lefts r) (has_space rights r) later) [
        | inl one ↦ all-has (λ q. s < q) lefts r (h.above_left u.lefts u.rights) one
        | inr two ↦ all-has (λ q. s < q) rights r (h.above_right u.lefts u.rights) two
      ])
    ]

-- ---- a search

all-at : (P : ℕ → Type 0) (ss : List ℕ) (j : ℕ) → AllByRecursion P ss → j < length ss → P (get_or ss j 0)
all-at P [] j a h = absurd (omega arith)
all-at P (s ∷ ss) zero a h = a.0
all-at P (s ∷ ss) (suc j) a h = all-at P ss j a.1 (omega arith)

ascending-at : (ss : List ℕ) (i j : ℕ) → AreAscending ss → i ≤ j → j < length ss → get_or ss i 0 ≤ get_or ss j 0
ascending-at [] i j a h k = absurd (omega arith)
ascending-at (s ∷ ss) zero zero a h k = omega arith
ascending-at (s ∷ ss) zero (suc j) a h k =
    let f : s < get_or ss j 0 = all-at (λ t. s < t) ss j a.0 (omega arith) in
    omega (arith, f)
ascending-at (s ∷ ss) (suc i) zero a h k = absurd (omega arith)
ascending-at (s ∷ ss) (suc i) (suc j) a h k = ascending-at ss i j a.1 (omega arith) (omega arith)

has-at : (ss : List ℕ) (i : ℕ) → i < length ss → has_space ss (get_or ss i 0) ≡ true
has-at [] i h = absurd (omega arith)
has-at (s ∷ ss) zero h = or_left (s == s) (has_space ss s) (eqb-refl s)
has-at (s ∷ ss) (suc i) h = or_right (s == get_or ss i 0) (has_space ss (get_or ss i 0)) (has-at ss i (omega arith))

has-index : (ss : List ℕ) (s : ℕ) → has_space ss s ≡ true → (k : ℕ) × (k < length ss) × (get_or ss k 0 ≡ s)
has-index [] s e = absurd (true≢false (sym e))
has-index (r ∷ ss) s e = elim (or_cases (r == s) (has_space ss s) e) [
  | inl same ↦ (0, omega arith, eqb-true r s same)
  | inr later ↦ let f = has-index ss s later in (suc f.0, omega arith, f.2)
]

pub search_tells : (ss : List ℕ) (s : ℕ) (r : Result ℕ ℕ) → AreAscending ss → IsBinarySearchResult (λ y. nat_cmp y s) ss r → is_ok r ≡ has_space ss s
search_tells ss s r a h = by r (searched ss s r h (λ i j. ascending-at ss i j a))
  where
    by : (q : Result ℕ ℕ) → MatchResult q (λ i. (i < length ss) × (get_or ss i 0 ≡ s)) (λ i. (i ≤ length ss) × ((k : ℕ) → k < i → get_or ss k 0 < s) × ((k : ℕ) → i ≤ k → k < length ss → s < get_or ss k 0))
        → is_ok q ≡ has_space ss s
    by (Ok i) f = sym (subst (λ t. has_space ss t ≡ true) f.1 (has-at ss i f.0))
    by (Err i) f = sym (false_from_ne_true (has_space ss s) (λ e. absurd (
        let w = has-index ss s e in
        elim (cases_lt w.0 i) [
          | inl below ↦ let g : get_or ss w.0 0 < s = f.1 w.0 below in omega (arith, g, w.2)
          | inr above ↦ let g : s < get_or ss w.0 0 = f.2 w.0 (omega (arith, above)) w.1 in omega (arith, g, w.2)
        ])))
