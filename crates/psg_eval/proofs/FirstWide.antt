-- The first of some steps that passes the limit.
use Rattle.std.proofs.Common.{◌≡◌, ◌⊎◌, inl, inr, ℕ, zero, suc, ◌+◌, ◌<◌, ◌≤◌, List, [], ◌∷◌, ◌++◌, refl, sym, ◌∙◌, ap, subst, append_assoc, arith}
use Rattle.psg_terms.proofs.Lists.{in_either}
use Rattle.std.specs.Prelude.{Result, Ok, Err}
use Rattle.psg_terms.specs.Relations.{first, later}
use Rattle.psg_grammar.specs.declared.types.Definition.{Definition}
use Rattle.psg_grammar.specs.Fragments.{Fragment}
use Rattle.psg_grammar.specs.Paths.{Path}
use Rattle.psg_grammar.specs.Steps.{Place, PassesAt, last_step, steps_up_to, own_steps, AreWithin, IsFirstOf}
use Rattle.psg_eval.specs.declared.summary.EvalFault.{EvalFault}
use Rattle.psg_eval.specs.declared.summary.EvalFault.TheVariants as faults
use Rattle.psg_eval.specs.declared.summary.SummaryParts.{SummaryParts}
use Rattle.psg_eval.specs.Climbing.{IsReached}
use Rattle.psg_eval.specs.Summaries.{Answers, IsFirstPassing, StaysWithin}

module _ (def : Definition) where
  pub within-none : AreWithin def []
  within-none place h = elim h [ ]

  pub within-append : (xs ys : List Place) → AreWithin def xs → AreWithin def ys → AreWithin def (xs ++ ys)
  within-append xs ys h k place i = elim (in_either place xs ys i) [ inl a ↦ h place a | inr b ↦ k place b ]

  first-left : (xs ys : List Place) (place : Place) → IsFirstOf def xs place → IsFirstOf def (xs ++ ys) place
  first-left xs ys place h = record {
    front = h.front;
    rest = h.rest ++ ys;
    split = ap (λ l. l ++ ys) h.split ∙ append_assoc h.front (place ∷ h.rest) ys;
    within = h.within;
    passes = h.passes;
  }

  first-after : (xs ys : List Place) (place : Place) → AreWithin def xs → IsFirstOf def ys place → IsFirstOf def (xs ++ ys) place
  first-after xs ys place c h = record {
    front = xs ++ h.front;
    rest = h.rest;
    split = ap (λ l. xs ++ l) h.split ∙ sym (append_assoc xs h.front (place ∷ h.rest));
    within = within-append xs h.front c h.within;
    passes = h.passes;
  }

  within-one : (place : Place) → (PassesAt def place.part place.step → ⊥) → AreWithin def (place ∷ [])
  within-one place h other first = h
  within-one place h other (later i) = elim i [ ]

  up_within : (path : Path) (f : Fragment) (n : ℕ) → ((k : ℕ) → k ≤ n → PassesAt def f k → ⊥) → AreWithin def (steps_up_to path f n)
  up_within path f zero h = within-one (record { path = path; part = f; step = 0 }) (h 0 (omega arith))
  up_within path f (suc n) h =
      within-append (steps_up_to path f n) (record { path = path; part = f; step = suc n } ∷ []) (up_within path f n (λ k l. h k (omega (arith, l))))
      (within-one (record { path = path; part = f; step = suc n }) (h (suc n) (omega arith)))

  up_first : (path : Path) (f : Fragment) (n step : ℕ) → step ≤ n → PassesAt def f step → ((k : ℕ) → k < step → PassesAt def f k → ⊥)
      → IsFirstOf def (steps_up_to path f n) (record { path = path; part = f; step = step })
  up_first path f zero step l p h =
      let e : 0 ≡ step = omega (arith, l) in
      record { front = []; rest = []; split = ap (λ k. record { path = path; part = f; step = k } ∷ []) e; within = within-none; passes = p }
  up_first path f (suc n) step l p h = elim (last step n l) [
    | inl small ↦ first-left (steps_up_to path f n) (record { path = path; part = f; step = suc n } ∷ [])
        (record { path = path; part = f; step = step }) (up_first path f n step small p h)
    | inr same ↦ first-after (steps_up_to path f n) (record { path = path; part = f; step = suc n } ∷ [])
        (record { path = path; part = f; step = step }) (up_within path f n (λ k m. h k (omega (arith, m, same))))
        (record { front = []; rest = []; split = ap (λ k. record { path = path; part = f; step = k } ∷ []) (sym same); within = within-none; passes = p })
  ] where
    last : (step n : ℕ) → step ≤ suc n → (step ≤ n) ⊎ (step ≡ suc n)
    last zero n l = inl (omega arith)
    last (suc k) zero l = inr (omega (arith, l))
    last (suc k) (suc n) l = elim (last k n (omega (arith, l))) [ inl a ↦ inl (omega (arith, a)) | inr b ↦ inr (omega (arith, b)) ]

  pub own_within : (path : Path) (f : Fragment) → StaysWithin def f → AreWithin def (own_steps def path f)
  own_within path f h = up_within path f (last_step def f) h

  pub own_first : (path : Path) (f : Fragment) (step : ℕ) → IsFirstPassing def f step → IsFirstOf def (own_steps def path f) (record { path = path; part = f; step = step })
  own_first path f step p = up_first path f (last_step def f) step p.there p.passes p.first

  -- an answer for a node is one for its own steps
  pub own_reached : (path : Path) (f : Fragment) (result : Result SummaryParts EvalFault) → Answers def f result → IsReached def (own_steps def path f) f result
  own_reached path f (Ok s) (is, stays) = (is, own_within path f stays)
  own_reached path f (Err (faults.Wide step)) p = (record { path = path; part = f; step = step }, own_first path f step p, refl)
  own_reached path f (Err faults.Memory) p = tt

  -- a fault after steps that do not pass the limit, whatever steps follow
  pub fault_among : (done own after : List Place) (v u : Fragment) (fault : EvalFault) → AreWithin def done → IsReached def own v (Err fault)
      → IsReached def (done ++ (own ++ after)) u (Err fault)
  fault_among done own after v u (faults.Wide step) within (place, h, e) = (place, first-after done (own ++ after) place within (first-left own after place h), e)
  fault_among done own after v u faults.Memory within h = tt
