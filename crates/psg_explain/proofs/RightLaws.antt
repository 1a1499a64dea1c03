-- When a verdict is right, by its parts.
use Rattle.std.proofs.Common.{◌≡◌, ◌↔◌, ℕ, ◌+◌, ◌≤◌, Bool, IsTrue, List, [], ◌∷◌, length, Some, None, slice_get, ap, sym, ◌∙◌, subst, arith}
use Rattle.std.specs.List.{AllByRecursion}
use Rattle.psg_terms.specs.Terms.{Term}
use Rattle.psg_terms.specs.Signature.{Signature}
use Rattle.psg_terms.specs.Canonical.{Variable, variables_of, first_occurrences, IsNumberedFrom, IsCanonical}
use Rattle.psg_terms.proofs.Unique.{Each, each-noted_all, noted_all-each}
use Rattle.psg_explain.specs.declared.refutation.Rule.{Rule}
use Rattle.psg_explain.specs.declared.refutation.Verdict.TheVariants as verdicts
use Rattle.psg_explain.specs.Equations.{Equation, IsCircle, IsClash}
use Rattle.psg_explain.specs.Verdicts.{AreMade, HasValue, IsDerived, IsMadeBy, IsRight, IsUnder}
use Rattle.psg_explain.proofs.ApplyingLaws.{give_once, some_is}

-- ---- rows whose variables are numbered from 1 on

each_of : (P : Variable → Type 0) (xs : List Variable) → AllByRecursion P xs → Each P xs
each_of P [] h = tt
each_of P (x ∷ xs) (p, h) = (p, each_of P xs h)

all_of : (P : Variable → Type 0) (xs : List Variable) → Each P xs → AllByRecursion P xs
all_of P [] h = tt
all_of P (x ∷ xs) (p, h) = (p, all_of P xs h)

numbered_valued : (values : List Term) (n : ℕ) (xs : List Variable) → IsNumberedFrom n xs → 1 ≤ n → n + length xs ≤ length values + 1 → Each (HasValue values) xs
numbered_valued values n [] h one le = tt
numbered_valued values n (x ∷ xs) (e, h) one le = ((omega (arith, e, one), omega (arith, e, le)), numbered_valued values (n + 1) xs h (omega arith) (omega (arith, le)))

valued_many : (values : List Term) (n : ℕ) (xs : List Variable) → IsNumberedFrom n xs → n ≤ length values + 1 → Each (HasValue values) xs → n + length xs ≤ length values + 1
valued_many values n [] h le k = omega (arith, le)
valued_many values n (x ∷ xs) (e, h) le ((one, most), k) =
    let more = valued_many values (n + 1) xs h (omega (arith, e, most)) k in
    omega (arith, more)

pub canonical_under : (sig : Signature) (values row made : List Term) → IsCanonical sig row → AreMade values row made ↔ IsUnder values row made
canonical_under sig values row made canonical = (
  (λ (h, is). record {
    enough =
        (let k = valued_many values 1 (first_occurrences row) canonical.numbered (omega arith) (each-noted_all (HasValue values) [] (variables_of row) tt (each_of (HasValue values) (variables_of row) h)) in
        omega (arith, k));
    same = is;
  }),
  (λ (u : IsUnder values row made). (
    all_of (HasValue values) (variables_of row)
        (noted_all-each (HasValue values) [] (variables_of row) (numbered_valued values 1 (first_occurrences row) canonical.numbered (omega arith) (let k = u.enough in omega (arith, k)))).1,
    u.same,
  )),
)

-- ---- verdicts

derived_once : (given : List Equation) (rules : List Rule) (number : ℕ) (d e : Equation) → IsDerived given rules number d → IsDerived given rules number e → d ≡ e
derived_once given rules number d e (all, h, at) (other, k, there) =
    some_is (sym at ∙ ap (λ (l : List Equation). slice_get l number) (give_once given [] rules all other h k) ∙ there)

module _ (given : List Equation) (columns : List Term) (rules : List Rule) where
  module _ (rows : List (List Term)) where
    pub no_row : (to : ℕ) (bindings : List ℕ) (values : List Term) → slice_get rows to ≡ None → IsRight rows given columns (verdicts.Covered to rules bindings values) → ⊥
    no_row to bindings values none (all, d, made, is, row, at, under) = let f : None ≡ Some row = sym none ∙ at in absurd (cc)

    pub covered_right : (to : ℕ) (bindings : List ℕ) (values row : List Term) → slice_get rows to ≡ Some row → (sig : Signature) × IsCanonical sig row
        → IsMadeBy given columns row rules bindings values ↔ IsRight rows given columns (verdicts.Covered to rules bindings values)
    covered_right to bindings values row at (sig, canonical) = (
      (λ (all, d, made, is, h). (all, d, made, is, row, at, (canonical_under sig values row made canonical).0 h)),
      (λ (all, d, made, is, other, there, under). (
        all,
        d,
        made,
        is,
        subst (λ r. AreMade values r made) (sym (some_is (sym at ∙ there)))
            ((canonical_under sig values other made (subst (IsCanonical sig) (some_is (sym at ∙ there)) canonical)).1 under),
      )),
    )

  pub clash_right : (number : ℕ) (b : Bool) (e : Equation) → IsDerived given rules number e → IsTrue b ↔ IsClash e → (rows : List (List Term)) → IsTrue b ↔ IsRight rows given columns (verdicts.Clash rules number)
  clash_right number b e (all, d, at) (on, back) rows = (
    (λ h. (all, d, e, at, on h)),
    (λ (other, k, f, there, c). back (subst IsClash (derived_once given rules number f e (other, k, there) (all, d, at)) c)),
  )

  pub circle_right : (number : ℕ) (b : Bool) (e : Equation) → IsDerived given rules number e → IsTrue b ↔ IsCircle e → (rows : List (List Term)) → IsTrue b ↔ IsRight rows given columns (verdicts.Circle rules number)
  circle_right number b e (all, d, at) (on, back) rows = (
    (λ h. (all, d, e, at, on h)),
    (λ (other, k, f, there, c). back (subst IsCircle (derived_once given rules number f e (other, k, there) (all, d, at)) c)),
  )

  pub no_clash : (number : ℕ) → ((e : Equation) → IsDerived given rules number e → ⊥) → (rows : List (List Term)) → IsRight rows given columns (verdicts.Clash rules number) → ⊥
  no_clash number none rows (all, d, e, at, c) = none e (all, d, at)

  pub no_circle : (number : ℕ) → ((e : Equation) → IsDerived given rules number e → ⊥) → (rows : List (List Term)) → IsRight rows given columns (verdicts.Circle rules number) → ⊥
  no_circle number none rows (all, d, e, at, c) = none e (all, d, at)
