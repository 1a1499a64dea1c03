-- Two different terms have different ground instances, if their one-constant sorts are written out.
use Rattle.std.proofs.Common.{◌≡◌, ◌≢◌, ℕ, ◌<◌, ◌⊎◌, true, false, cond, List, [], ◌∷◌, refl, ap, ap₂, sym, ◌∙◌, length, subst, inl, inr, None}
use Rattle.std.proofs.lemmas.Bool.{cases_eq}
use Rattle.psg_terms.specs.Terms.{Term, variable, symbol, apply}
use Rattle.psg_terms.specs.Signature.{Signature, HasSort, Takes, only_constructor}
use Rattle.psg_terms.specs.Instances.{Substitution, substitute, IsGround, IsGrounding}
use Rattle.psg_terms.specs.Canonical.{Variable, same_variable, IsWrittenOut}
use Rattle.psg_terms.proofs.Variables.{variable_cases, same_variable-refl}

-- the constructor that a term is made by; at a variable it says nothing
abbrev pub head : Term → ℕ
head (variable s n) = 0
head (symbol c) = c
head (apply f a) = head f

-- a constructor's term keeps its constructor
pub head-substitute : (sig : Signature) (g : Substitution) (t : Term) (first sort : ℕ) (wanted : List ℕ) → Takes sig t (first ∷ wanted) sort → head (substitute g t) ≡ head t
head-substitute sig g (variable s n) first sort wanted (lt, e, d) = absurd (cc)
head-substitute sig g (symbol c) first sort wanted p = refl
head-substitute sig g (apply f a) first sort wanted (x, p, q) = head-substitute sig g f x sort (first ∷ wanted) p

-- ground terms to choose from: one for each sort, and one with another constructor wherever there is a choice
pub record Choices (sig : Signature) : Type 0 where
  pub some : ℕ → Term
  pub some_ground : (s : ℕ) → s < length sig.sorts → IsGround (some s)
  pub some_sorted : (s : ℕ) → s < length sig.sorts → HasSort sig (some s) s
  pub other : (s c : ℕ) → s < length sig.sorts → only_constructor sig s ≡ None → (t : Term) × IsGround t × HasSort sig t s × (head t ≢ c)

-- one variable gets a term of its own
abbrev pub at : Variable → Term → (ℕ → Term) → Substitution
at x t d s n = cond (same_variable x (s, n)) t (d s)

module _ (sig : Signature) (k : Choices sig) where
  pub grounding : IsGrounding sig (λ s n. k.some s)
  grounding = record { variable_free = λ s n lt. k.some_ground s lt; sorted = λ s n lt. k.some_sorted s lt }

  pub grounding-at : (s n : ℕ) (t : Term) → IsGround t → HasSort sig t s → IsGrounding sig (at (s, n) t k.some)
  grounding-at s n t g h = record {
    variable_free = λ p q lt. elim (same_variable (s, n) (p, q)) as (λ b. IsGround (cond b t (k.some p))) [ true ↦ g | false ↦ k.some_ground p lt ];
    sorted = λ p q lt. elim (variable_cases (s, n) (p, q)) [
      | inl e ↦ subst (λ (x : Variable). HasSort sig (cond (same_variable (s, n) x) t (k.some x.0)) x.0) e (subst (λ b. HasSort sig (cond b t (k.some s)) s) (sym (same_variable-refl (s, n))) h)
      | inr e ↦ subst (λ b. HasSort sig (cond b t (k.some p)) p) (sym e) (k.some_sorted p lt)
    ];
  }

  pub at-here : (s n : ℕ) (t : Term) → at (s, n) t k.some s n ≡ t
  at-here s n t = ap (λ b. cond b t (k.some s)) (same_variable-refl (s, n))

  -- a grounding tells the terms apart
  abbrev pub Apart : Term → Term → Type 0
  Apart a b = (g : Substitution) × IsGrounding sig g × (substitute g a ≢ substitute g b)

  -- a variable with a choice, and a term whose constructor stays
  pub apart_from_head : (s n : ℕ) (b : Term) → s < length sig.sorts → only_constructor sig s ≡ None → ((g : Substitution) → head (substitute g b) ≡ head b) → Apart (variable s n) b
  apart_from_head s n b lt o stays =
      let choice = k.other s (head b) lt o in
      let g : Substitution = at (s, n) choice.0 k.some in
      (g, grounding-at s n choice.0 choice.1 choice.2, λ e. choice.3 (ap head (sym (at-here s n choice.0)) ∙ ap head e ∙ stays g))

  pub apart_variables : (s n p q : ℕ) → s < length sig.sorts → only_constructor sig s ≡ None → same_variable (s, n) (p, q) ≡ false → Apart (variable s n) (variable p q)
  apart_variables s n p q lt o ne =
      let choice = k.other s (head (k.some p)) lt o in
      let g : Substitution = at (s, n) choice.0 k.some in
      let there : g p q ≡ k.some p = ap (λ b. cond b choice.0 (k.some p)) ne in
      (g, grounding-at s n choice.0 choice.1 choice.2, λ e. choice.3 (ap head (sym (at-here s n choice.0)) ∙ ap head e ∙ ap head there))

  pub swapped : (a b : Term) → Apart a b → Apart b a
  swapped a b (g, h, n) = (g, h, λ e. n (sym e))

  abbrev pub function_of : Term → Term → Term
  function_of d (variable s n) = d
  function_of d (symbol c) = d
  function_of d (apply f a) = f

  abbrev pub argument_of : Term → Term → Term
  argument_of d (variable s n) = d
  argument_of d (symbol c) = d
  argument_of d (apply f a) = a

  pub separated : (a b : Term) (v w : List ℕ) (r s : ℕ) → Takes sig a v r → Takes sig b w s → IsWrittenOut sig a → IsWrittenOut sig b → (a ≡ b) ⊎ Apart a b
  separated (variable s n) (variable p q) v w r t (lt, _, _) _ o _ =
      elim (variable_cases (s, n) (p, q)) [ inl e ↦ inl (ap (λ (x : Variable). variable x.0 x.1) e) | inr e ↦ inr (apart_variables s n p q lt o e) ]
  separated (variable s n) (symbol c) v w r t (lt, _, _) _ o _ = inr (apart_from_head s n (symbol c) lt o (λ g. refl))
  separated (variable s n) (apply f b) v w r t (lt, _, _) (x, p, _) o _ = inr (apart_from_head s n (apply f b) lt o (λ g. head-substitute sig g f x t w p))
  separated (symbol c) (variable s n) v w r t _ (lt, _, _) _ o = inr (swapped (variable s n) (symbol c) (apart_from_head s n (symbol c) lt o (λ g. refl)))
  separated (symbol c) (symbol d) v w r t _ _ _ _ =
      elim (cases_eq c d) [ inl e ↦ inl (ap symbol e) | inr n ↦ inr (λ s n. k.some s, grounding, λ e. n (ap head e)) ]
  separated (symbol c) (apply f b) v w r t _ _ _ _ = inr (λ s n. k.some s, grounding, λ e. cc)
  separated (apply f a) (variable s n) v w r t (x, p, _) (lt, _, _) _ o = inr (swapped (variable s n) (apply f a) (apart_from_head s n (apply f a) lt o (λ g. head-substitute sig g f x r v p)))
  separated (apply f a) (symbol c) v w r t _ _ _ _ = inr (λ s n. k.some s, grounding, λ e. cc)
  separated (apply f a) (apply g b) v w r t (x, p, q) (y, p', q') (o1, o2) (o3, o4) =
      elim (separated f g (x ∷ v) (y ∷ w) r t p p' o1 o3) [
        | inl e ↦ elim (separated a b [] [] x y q q' o2 o4) [ inl d ↦ inl (ap₂ apply e d) | inr (h, i, n) ↦ inr (h, i, λ d. n (cc)) ]
        | inr (h, i, n) ↦ inr (h, i, λ d. n (cc))
      ]
