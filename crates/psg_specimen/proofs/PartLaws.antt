-- Laws of proper subterms.
use Rattle.std.proofs.Common.{◌≡◌, ◌⊎◌, inl, inr, ℕ, zero, suc, ◌<◌, ◌≤◌, min, List, [], ◌∷◌, length, get_or, refl, sym, ap, subst, arith}
use Rattle.std.specs.Prelude.{◌↔◌}
use Rattle.psg_terms.specs.Terms.{Term, variable, symbol, apply, applied}
use Rattle.psg_terms.specs.Weight.{symbols_of}
use Rattle.psg_completions.specs.Places.{IsPart}
use Rattle.psg_specimen.specs.Parts.{IsAmong}
use Rattle.psg_covering.proofs.Firsts.{At}

positive : (t : Term) → 1 ≤ symbols_of t
positive (variable s n) = omega arith
positive (symbol c) = omega arith
positive (apply f a) = let h = positive f in omega (arith, h)

part_smaller : (u t : Term) → IsPart u t → symbols_of u < symbols_of t
part_smaller u (variable s n) h = absurd h
part_smaller u (symbol c) h = absurd h
part_smaller u (apply f a) h = elim h [
  | inl e ↦ (let k = positive f in let same : symbols_of u ≡ symbols_of a = ap symbols_of e in omega (arith, k, same))
  | inr more ↦ elim more [
    | inl p ↦ (let k = part_smaller u a p in omega (arith, k))
    | inr p ↦ (let k = part_smaller u f p in omega (arith, k))
  ]
]

part_most : (u t : Term) → (u ≡ t) ⊎ IsPart u t → symbols_of u ≤ symbols_of t
part_most u t h = elim h [
  | inl e ↦ (let same : symbols_of u ≡ symbols_of t = ap symbols_of e in omega (arith, same))
  | inr p ↦ (let k = part_smaller u t p in omega (arith, k))
]

pub too_small : (u t : Term) (p q m : ℕ) → p ≡ min (symbols_of u) m → q ≡ min (symbols_of t) m → q < p → (u ≡ t) ⊎ IsPart u t → ⊥
too_small u t p q m e f lt h = let k = part_most u t h in omega (arith, e, f, lt, k)

one_in : (u a : Term) (P : Type 0) → (u ≡ a) ⊎ (IsPart u a ⊎ P) → P ⊎ ((u ≡ a) ⊎ IsPart u a)
one_in u a P h = elim h [ inl e ↦ inr (inl e) | inr k ↦ elim k [ inl p ↦ inr (inr p) | inr p ↦ inl p ] ]

in_applied : (u t : Term) (args : List Term) → IsPart u (applied t args) → IsPart u t ⊎ IsAmong u args
in_applied u t [] h = inl h
in_applied u t (a ∷ rest) h = elim (in_applied u (apply t a) rest h) [
  | inl p ↦ elim (one_in u a (IsPart u t) p) [ inl q ↦ inl q | inr q ↦ inr (inl q) ]
  | inr q ↦ inr (inr q)
]

applied_in : (u t : Term) (args : List Term) → IsPart u t ⊎ IsAmong u args → IsPart u (applied t args)
applied_in u t [] h = elim h [ inl p ↦ p | inr q ↦ absurd q ]
applied_in u t (a ∷ rest) h = applied_in u (apply t a) rest (elim h [
  | inl p ↦ inl (inr (inr p))
  | inr q ↦ elim q [ inl here ↦ elim here [ inl e ↦ inl (inl e) | inr p ↦ inl (inr (inl p)) ] | inr later ↦ inr later ]
])

pub part_of_constructor : (u t : Term) (c : ℕ) (args : List Term) → t ≡ applied (symbol c) args → IsAmong u args ↔ IsPart u t
part_of_constructor u t c args e = (
  λ h. subst (IsPart u) (sym e) (applied_in u (symbol c) args (inr h)),
  λ h. elim (in_applied u (symbol c) args (subst (IsPart u) e h)) [ inl p ↦ absurd p | inr q ↦ q ],
)

pub among_at : (u : Term) (terms : List Term) (i : ℕ) (a : Term) → i < length terms → a ≡ get_or terms i a → (u ≡ a) ⊎ IsPart u a → IsAmong u terms
among_at u [] i a lt e h = absurd (omega (arith, lt))
among_at u (x ∷ terms) zero a lt e h = inl (subst (λ t. (u ≡ t) ⊎ IsPart u t) e h)
among_at u (x ∷ terms) (suc i) a lt e h = inr (among_at u terms i a (omega (arith, lt)) e h)

pub among_none : (u : Term) (terms : List Term) → ((m : ℕ) → At terms (λ a. (u ≡ a) ⊎ IsPart u a → ⊥) m) → IsAmong u terms → ⊥
among_none u [] none h = h
among_none u (x ∷ terms) none h = elim h [ inl p ↦ none zero x refl p | inr q ↦ among_none u terms (λ m. none (suc m)) q ]
