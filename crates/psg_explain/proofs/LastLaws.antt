-- The first given equation with which there is no common solution.
use Rattle.std.proofs.Common.{◌≡◌, ℕ, zero, suc, ◌+◌, ◌<◌, ◌≤◌, List, [], ◌∷◌, ◌++◌, take, drop, get_or, length, Option, Some, None, slice_get, refl, ap, sym, ◌∙◌, subst, arith}
use Rattle.std.proofs.lemmas.List.{take_all}
use Rattle.psg_terms.proofs.Lists.{take_item}
use Rattle.psg_explain.specs.declared.given.Case.{Case}
use Rattle.psg_explain.specs.declared.last.First.{First}
use Rattle.psg_explain.specs.declared.last.Span.{Span}
use Rattle.psg_explain.specs.declared.refutation.CaseReason.{CaseReason}
use Rattle.psg_explain.specs.declared.refutation.Reason.{Reason}
use Rattle.psg_explain.specs.declared.refutation.Subject.{Subject}
use Rattle.psg_explain.specs.Equations.{Equation}
use Rattle.psg_explain.specs.LastReasons.{AreCaseReasons, IsReasonOf}
use Rattle.psg_explain.specs.Reached.{IsFirst, IsSpan}
use Rattle.psg_explain.specs.Reasons.{IsReason, solved}
use Rattle.psg_explain.proofs.OneReason.{one, reason_more}

-- no equations have no reason
no_reason : (r : Reason) → IsReason [] (Some r) → ⊥
no_reason r h = let e : None ≡ Some r = one [] None (Some r) solved h in absurd (cc)

some_given : (given : List Equation) (r : Reason) → IsReason given (Some r) → 0 < length given
some_given [] r h = absurd (no_reason r h)
some_given (e ∷ given) r h = omega arith

take_drop : (n : ℕ) (xs : List Equation) → take n xs ++ drop n xs ≡ xs
take_drop zero xs = refl
take_drop (suc n) [] = refl
take_drop (suc n) (x ∷ xs) = ap (λ (l : List Equation). x ∷ l) (take_drop n xs)

module _ (given : List Equation) where
  pub span_begun : (low high : ℕ) (r : Reason) (s : Span) → low ≡ 0 → high ≡ length given → s.low ≡ low → s.high ≡ high → s.reason ≡ r → IsReason given (Some r) → IsSpan given s
  span_begun low high r s a b p q t h =
      let some = some_given given r h in
      let zero_low : s.low ≡ 0 = p ∙ a in
      let all_high : s.high ≡ length given = q ∙ b in
      record {
        apart = omega (arith, some, zero_low, all_high);
        within = omega (arith, all_high);
        solved = subst (λ (n : ℕ). IsReason (take n given) None) (sym zero_low) solved;
        failing = subst (λ (x : Reason). IsReason (take s.high given) (Some x)) (sym t) (subst (λ (l : List Equation). IsReason l (Some r)) (sym (take_all s.high given (omega (arith, all_high)))) h);
      }

  pub span_first : (s : Span) → IsSpan given s → s.high ≤ s.low + 1 → (f : First) → f.number ≡ s.low → f.reason ≡ s.reason → IsFirst given f
  span_first s span le f e k =
      let apart = span.apart in
      let within = span.within in
      let next : s.high ≡ f.number + 1 = omega (arith, apart, le, e) in
      let failing : IsReason (take s.high given) (Some f.reason) = subst (λ (x : Reason). IsReason (take s.high given) (Some x)) (sym k) span.failing in
      record {
        within = omega (arith, apart, within, e);
        before = subst (λ (n : ℕ). IsReason (take n given) None) (sym e) span.solved;
        first = subst (λ (n : ℕ). IsReason (take n given) (Some f.reason)) next failing;
        whole = subst (λ (l : List Equation). IsReason l (Some f.reason)) (take_drop s.high given) (reason_more (take s.high given) f.reason failing (drop s.high given));
      }

  pub span_lower : (s : Span) → IsSpan given s → (middle : ℕ) → s.low < middle → middle ≤ s.high → (front : List Equation) → front ≡ take middle given → (o : Option Reason) → IsReason front o → (r : Reason) → o ≡ Some r
      → IsSpan given (record { low = s.low; high = middle; reason = r })
  span_lower s span middle a b front e o h r is =
      let within = span.within in
      record {
        apart = a;
        within = omega (arith, within, b);
        solved = span.solved;
        failing = subst (λ (l : List Equation). IsReason l (Some r)) e (subst (IsReason front) is h);
      }

  pub span_upper : (s : Span) → IsSpan given s → (middle : ℕ) → middle < s.high → (front : List Equation) → front ≡ take middle given → (o : Option Reason) → IsReason front o → o ≡ None
      → IsSpan given (record { low = middle; high = s.high; reason = s.reason })
  span_upper s span middle a front e o h is = record {
    apart = a;
    within = span.within;
    solved = subst (λ (l : List Equation). IsReason l None) e (subst (IsReason front) is h);
    failing = span.failing;
  }

-- ---- one for each case

reasons_push : (cases : List Case) (told : List CaseReason) (c : Case) (t : CaseReason) → AreCaseReasons cases told → IsReasonOf c t → AreCaseReasons (cases ++ c ∷ []) (told ++ t ∷ [])
reasons_push [] told c t h is = subst (λ (l : List CaseReason). AreCaseReasons (c ∷ []) (l ++ t ∷ [])) (sym h) (is, refl)
reasons_push (x ∷ cases) [] c t h is = absurd h
reasons_push (x ∷ cases) (y ∷ told) c t (k, h) is = (k, reasons_push cases told c t h is)

pub reasons_next : (cases : List Case) (i : ℕ) (c : Case) (told new : List CaseReason) (t : CaseReason) → i < length cases → c ≡ get_or cases i c → AreCaseReasons (take i cases) told → IsReasonOf c t → new ≡ told ++ t ∷ []
    → AreCaseReasons (take (i + 1) cases) new
reasons_next cases i c told new t lt at h is made =
    subst (λ (l : List Case). AreCaseReasons l new) (sym (take_item cases i c lt at)) (subst (AreCaseReasons (take i cases ++ c ∷ [])) (sym made) (reasons_push (take i cases) told c t h is))

pub reasons_end : (cases : List Case) (i : ℕ) (told : List CaseReason) → length cases ≤ i → AreCaseReasons (take i cases) told → AreCaseReasons cases told
reasons_end cases i told le h = subst (λ (l : List Case). AreCaseReasons l told) (take_all i cases le) h

-- the reason of a case by its first equation that fails
pub reason_made : (c : Case) (f : First) (number : ℕ) (e : Equation) (subject : Subject) → IsFirst c.given f → number ≡ f.number → slice_get c.given number ≡ Some e → slice_get c.subjects number ≡ Some subject
    → IsReasonOf c (record { label = c.label; number = number; subject = subject; left = e.0; right = e.1; reason = f.reason })
reason_made c f number e subject is same given told = record {
  label = refl;
  subject = told;
  given = given;
  before = subst (λ (n : ℕ). IsReason (take n c.given) None) (sym same) is.before;
  first = subst (λ (n : ℕ). IsReason (take (n + 1) c.given) (Some f.reason)) (sym same) is.first;
  reason = is.whole;
}
