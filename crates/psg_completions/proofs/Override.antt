-- A substitution with another term for one variable, and the terms of sorts with ground terms.
use Rattle.std.proofs.Common.{◌≡◌, ◌⊎◌, inl, inr, ℕ, zero, suc, ◌<◌, ◌==◌, ◌&&◌, cond, List, [], ◌∷◌, length, slice_get, Some, ap, ap₂, sym, subst, refl, eq-eqb}
use Rattle.std.proofs.lemmas.Bool.Decides.{eqb_tells}
use Rattle.std.proofs.lemmas.Option.{none-some}
use Rattle.psg_terms.specs.Terms.{Term}
use Rattle.psg_terms.specs.Signature.{Signature, Symbol, HasSort, AreClosed}
use Rattle.psg_terms.specs.Instances.{Substitution, IsGround, IsGrounding}

abbrev pub override : Substitution → ℕ → ℕ → Term → Substitution
override f s n u s' n' = cond ((s == s') && (n == n')) u (f s' n')

pub override_same : (f : Substitution) (s n : ℕ) (u : Term) → override f s n u s n ≡ u
override_same f s n u = ap₂ (λ a b. cond (a && b) u (f s n)) (eq-eqb s s refl) (eq-eqb n n refl)

pub override_cases : (f : Substitution) (s n : ℕ) (u : Term) (s' n' : ℕ)
    → ((s ≡ s') × (n ≡ n')) ⊎ (override f s n u s' n' ≡ f s' n')
override_cases f s n u s' n' = elim (eqb_tells s s') [
  | inl a ↦ elim (eqb_tells n n')
      [ inl b ↦ inl (a.1, b.1) | inr b ↦ inr (ap₂ (λ x y. cond (x && y) u (f s' n')) a.0 b.0) ]
  | inr a ↦ inr (ap (λ x. cond (x && (n == n')) u (f s' n')) a.0)
]

pub override_grounding : (sig : Signature) (f : Substitution) (s n : ℕ) (u : Term) → IsGrounding sig f → IsGround u
    → HasSort sig u s → IsGrounding sig (override f s n u)
override_grounding sig f s n u h ground sorted = record {
  variable_free = λ s' n' lt. elim (override_cases f s n u s' n') [
    | inl e ↦ subst (λ x. IsGround (override f s n u s' x)) e.1
        (subst (λ x. IsGround (override f s n u x n)) e.0 (subst IsGround (sym (override_same f s n u)) ground))
    | inr e ↦ subst IsGround (sym e) (h.variable_free s' n' lt)
  ];
  sorted = λ s' n' lt. elim (override_cases f s n u s' n') [
    | inl e ↦ subst (λ x. HasSort sig (override f s n u s' x) s') e.1
        (subst (λ x. HasSort sig (override f s n u x n) x) e.0
        (subst (λ x. HasSort sig x s) (sym (override_same f s n u)) sorted))
    | inr e ↦ subst (λ x. HasSort sig x s') (sym e) (h.sorted s' n' lt)
  ];
}

-- a constructor makes a sort that is there
pub made_in : (sig : Signature) (symbols : List Symbol) (c : ℕ) (s : Symbol) → AreClosed sig symbols
    → slice_get symbols c ≡ Some s → s.sort < length sig.sorts
made_in sig [] c s h e = absurd (none-some s e)
made_in sig (x ∷ symbols) zero s (a, lt, h) e = let same : x ≡ s = (let q : Some x ≡ Some s = e in cc) in
    subst (λ (y : Symbol). y.sort < length sig.sorts) same lt
made_in sig (x ∷ symbols) (suc c) s (a, lt, h) e = made_in sig symbols c s h e
