-- A term put for a variable, and where a variable occurs.
use Rattle.std.proofs.Common.{◌≡◌, ℕ, zero, suc, ◌+◌, ◌<◌, ◌≤◌, ◌||◌, ◌==◌, ◌&&◌, Bool, true, false, cond, List, [], ◌∷◌, ◌++◌, map, take, get_or, length, refl, ap, ap₂, sym, ◌∙◌, arith}
use Rattle.std.proofs.lemmas.Bool.{or_parts}
use Rattle.std.proofs.lemmas.List.{map-append}
use Rattle.psg_terms.specs.Terms.{Term, variable, symbol, apply, applied}
use Rattle.psg_terms.specs.Instances.{Substitution, substitute}
use Rattle.psg_terms.specs.Weight.{above_of}
use Rattle.psg_terms.specs.Canonical.{Variable, variables, variables_of, is_noted, same_variable}
use Rattle.psg_terms.proofs.Applied.{applied-substitute}
use Rattle.psg_terms.proofs.Covers.{among-append}
use Rattle.psg_terms.proofs.Lists.{take_item}
use Rattle.psg_terms.proofs.RenamingLaws.{variables-applied, variables_of-append}
use Rattle.psg_terms.proofs.Variables.{same_variable-false}
use Rattle.psg_explain.specs.Equations.{put_for}

or_none : (b : Bool) → (b || false) ≡ b
or_none true = refl
or_none false = refl

-- a variable of a greater number does not occur
pub beyond : (x : Variable) (t : Term) → above_of t ≤ x.1 → is_noted x (variables t) ≡ false
beyond x (variable s n) h =
    or_none (same_variable x (s, n)) ∙ same_variable-false x (s, n) (λ e. let d : x.1 ≡ n = ap (λ (y : Variable). y.1) e in absurd (omega (arith, h, d)))
beyond x (symbol c) h = refl
beyond x (apply f a) h = among-append x (variables f) (variables a) ∙ ap₂ (λ p q. p || q) (beyond x f (omega (arith, h))) (beyond x a (omega (arith, h)))

-- where the variable does not occur, nothing is put
pub put-none : (x : Variable) (u t : Term) → is_noted x (variables t) ≡ false → substitute (put_for x u) t ≡ t
put-none x u (variable s n) h = ap (λ b. cond b u (variable s n)) (sym (or_none (same_variable x (s, n))) ∙ h)
put-none x u (symbol c) h = refl
put-none x u (apply f a) h =
    let (one, two) = or_parts (is_noted x (variables f)) (is_noted x (variables a)) (sym (among-append x (variables f) (variables a)) ∙ h) in
    ap₂ apply (put-none x u f one) (put-none x u a two)

pub put-beyond : (x : Variable) (u t : Term) → above_of t ≤ x.1 → substitute (put_for x u) t ≡ t
put-beyond x u t h = put-none x u t (beyond x t h)

-- ---- a term by its node

pub occurs_variable : (x : Variable) (s n : ℕ) (t : Term) → t ≡ variable s n → ((x.0 == s) && (x.1 == n)) ≡ is_noted x (variables t)
occurs_variable x s n t e = sym (ap (λ u. is_noted x (variables u)) e ∙ or_none (same_variable x (s, n)))

pub occurs_con : (x : Variable) (c : ℕ) (args : List Term) (t : Term) → t ≡ applied (symbol c) args → is_noted x (variables_of args) ≡ is_noted x (variables t)
occurs_con x c args t e = sym (ap (λ u. is_noted x (variables u)) e ∙ ap (is_noted x) (variables-applied (symbol c) args))

pub put_variable : (x : Variable) (u t : Term) (s n : ℕ) → t ≡ variable s n → substitute (put_for x u) t ≡ cond (same_variable x (s, n)) u t
put_variable x u t s n e = ap (substitute (put_for x u)) e ∙ ap (λ z. cond (same_variable x (s, n)) u z) (sym e)

pub made_con : (g : Substitution) (c : ℕ) (args parts : List Term) (t u : Term) → t ≡ applied (symbol c) args → u ≡ applied (symbol c) parts → parts ≡ map (substitute g) args → u ≡ substitute g t
made_con g c args parts t u e d h = d ∙ ap (applied (symbol c)) h ∙ sym (applied-substitute g (symbol c) args) ∙ sym (ap (substitute g) e)

pub made_step : (g : Substitution) (row now after : List Term) (i : ℕ) (t u : Term) → now ≡ map (substitute g) (take i row) → u ≡ substitute g t → after ≡ now ++ u ∷ [] → i < length row → t ≡ get_or row i t → after ≡ map (substitute g) (take (i + 1) row)
made_step g row now after i t u h k e lt at =
    e ∙ ap₂ (λ xs y. xs ++ y ∷ []) h k ∙ sym (ap (map (substitute g)) (take_item row i t lt at) ∙ map-append (substitute g) (take i row) (t ∷ []))

-- ---- rows

pub occurs_at : (x : Variable) (row : List Term) (i : ℕ) (t : Term) → i < length row → t ≡ get_or row i t → is_noted x (variables t) ≡ true → is_noted x (variables_of row) ≡ true
occurs_at x [] i t lt at h = absurd (omega (arith, lt))
occurs_at x (u ∷ row) zero t lt at h =
    among-append x (variables u) (variables_of row) ∙ ap (λ b. b || is_noted x (variables_of row)) (ap (λ z. is_noted x (variables z)) (sym at) ∙ h)
occurs_at x (u ∷ row) (suc i) t lt at h =
    among-append x (variables u) (variables_of row) ∙ ap (λ b. is_noted x (variables u) || b) (occurs_at x row i t (omega (arith, lt)) at h) ∙ or_true (is_noted x (variables u))
  where
    or_true : (b : Bool) → (b || true) ≡ true
    or_true true = refl
    or_true false = refl

pub occurs_next : (x : Variable) (row : List Term) (i : ℕ) (t : Term) → i < length row → t ≡ get_or row i t → is_noted x (variables_of (take i row)) ≡ false → is_noted x (variables t) ≡ false
    → is_noted x (variables_of (take (i + 1) row)) ≡ false
occurs_next x row i t lt at h e =
    ap (λ l. is_noted x (variables_of l)) (take_item row i t lt at) ∙ ap (is_noted x) (variables_of-append (take i row) (t ∷ []))
    ∙ among-append x (variables_of (take i row)) (variables_of (t ∷ []))
    ∙ ap₂ (λ p q. p || q) h (among-append x (variables t) [] ∙ ap (λ b. b || false) e)
