-- The steps of a tree in their order, and the first of them that passes the limit.
use Rattle.std.proofs.Common.{◌≡◌, ◌⊎◌, inl, inr, ℕ, zero, suc, ◌+◌, ◌<◌, ◌≤◌, List, [], ◌∷◌, ◌++◌, length, slice_get, Some, refl, sym, ◌∙◌, ap, ap₂, subst, append_assoc, append-nil, arith}
use Rattle.std.proofs.lemmas.Option.{same_Some}
use Rattle.psg_terms.proofs.Lists.{in_either, slice_get-middle}
use Rattle.std.specs.Prelude.{Result}
use Rattle.psg_terms.specs.Relations.{IsIn, first, later}
use Rattle.psg_grammar.specs.declared.types.Definition.{Definition}
use Rattle.psg_grammar.specs.Fragments.{Fragment, hole, ending, cell, operator, with_child, with_name, with_number, with_text, anything, observed, children_of}
use Rattle.psg_grammar.specs.Paths.{Path, IsList}
use Rattle.psg_grammar.specs.Steps.{AreWithin, IsFirstOf, Place, PassesAt, last_step, steps_up_to, own_steps}
use Rattle.psg_grammar.specs.Steps.{list_steps, steps_of, steps_below, IsFirstWide, IsWide}
use Rattle.psg_eval.specs.declared.summary.SummaryParts.{SummaryParts}
use Rattle.psg_eval.specs.declared.summary.EvalFault.{EvalFault}
use Rattle.psg_eval.specs.Summaries.{IsFirstPassing, StaysWithin, Answers}
use Rattle.psg_cache.specs.declared.note.NoteFault.{NoteFault}
use Rattle.psg_cache.specs.declared.note.NoteFault.TheVariants as faults
use Rattle.psg_cache.specs.Walks.{each_steps, top_steps, IsStepFault, IsAnswerFault}
use Rattle.psg_cache.proofs.RealTrees.{IsReal, IsSpine}

got_in : {X : Type 0} (x : X) (xs ys : List X) (k : ℕ) → k < length xs → slice_get (xs ++ ys) k ≡ Some x → IsIn x xs
got_in x [] ys k h e = absurd (omega (arith, h))
got_in x (y ∷ xs) ys zero h e = let same : y ≡ x = same_Some y x e in subst (λ z. IsIn z (y ∷ xs)) same first
got_in x (y ∷ xs) ys (suc k) h e = later (got_in x xs ys k (omega (arith, h)) e)

pub each_steps-push : (def : Definition) (path : Path) (n : ℕ) (cs : List Fragment) (c : Fragment)
    → each_steps def path n (cs ++ c ∷ []) ≡ each_steps def path n cs ++ steps_of def (path ++ (n + length cs) ∷ []) c
each_steps-push def path n [] c =
    append-nil (steps_of def (path ++ n ∷ []) c) ∙ ap (λ k. steps_of def (path ++ k ∷ []) c)
    (let e : n ≡ n + 0 = omega arith in e)
each_steps-push def path n (d ∷ cs) c =
    let e : n + 1 + length cs ≡ n + suc (length cs) = omega arith in
    ap (λ l. steps_of def (path ++ n ∷ []) d ++ l)
    (each_steps-push def path (n + 1) cs c
    ∙ ap (λ k. each_steps def path (n + 1) cs ++ steps_of def (path ++ k ∷ []) c) e)
    ∙ sym (append_assoc (steps_of def (path ++ n ∷ []) d) (each_steps def path (n + 1) cs)
    (steps_of def (path ++ (n + suc (length cs)) ∷ []) c))

pub each_steps-append : (def : Definition) (path : Path) (n : ℕ) (cs ds : List Fragment) → (m : ℕ) → m ≡ n + length cs
    → each_steps def path n (cs ++ ds) ≡ each_steps def path n cs ++ each_steps def path m ds
each_steps-append def path n [] ds m e = ap (λ k. each_steps def path k ds) (let h : n ≡ m = omega (arith, e) in h)
each_steps-append def path n (c ∷ cs) ds m e =
    ap (λ l. steps_of def (path ++ n ∷ []) c ++ l) (each_steps-append def path (n + 1) cs ds m (omega (arith, e)))
    ∙ sym (append_assoc (steps_of def (path ++ n ∷ []) c) (each_steps def path (n + 1) cs) (each_steps def path m ds))

module _ (def : Definition) where
  pub within-none : AreWithin def []
  within-none place h = elim h [ ]

  pub within-append : (xs ys : List Place) → AreWithin def xs → AreWithin def ys → AreWithin def (xs ++ ys)
  within-append xs ys h k place i = elim (in_either place xs ys i) [ inl a ↦ h place a | inr b ↦ k place b ]

  first-left : (xs ys : List Place) (place : Place) → IsFirstOf def xs place → IsFirstOf def (xs ++ ys) place
  first-left xs ys place h = record {
    front =
        h.front;
    rest = h.rest ++ ys;
    split =
        ap (λ l. l ++ ys) h.split ∙ append_assoc h.front (place ∷ h.rest) ys;
    within = h.within;
    passes = h.passes;
  }

  first-behind : (xs ys : List Place) (place : Place) → AreWithin def xs → IsFirstOf def ys place
      → IsFirstOf def (xs ++ ys) place
  first-behind xs ys place c h = record {
    front = xs ++ h.front;
    rest = h.rest;
    split = ap (λ l. xs ++ l) h.split ∙ sym (append_assoc xs h.front (place ∷ h.rest));
    within = within-append xs h.front c h.within;
    passes = h.passes;
  }

  pub fault-left : (xs ys : List Place) (fault : NoteFault) → IsStepFault def xs fault
      → IsStepFault def (xs ++ ys) fault
  fault-left xs ys (faults.Wide path step) (part, h) =
      (part, first-left xs ys (record { path = path; part = part; step = step }) h)
  fault-left xs ys faults.Memory h = tt
  fault-left xs ys faults.Deep h = absurd h
  fault-left xs ys faults.Big h = absurd h
  fault-left xs ys faults.Heavy h = absurd h

  pub fault-behind : (xs ys : List Place) (fault : NoteFault) → AreWithin def xs → IsStepFault def ys fault
      → IsStepFault def (xs ++ ys) fault
  fault-behind xs ys (faults.Wide path step) c (part, h) =
      (part, first-behind xs ys (record { path = path; part = part; step = step }) c h)
  fault-behind xs ys faults.Memory c h = tt
  fault-behind xs ys faults.Deep c h = absurd h
  fault-behind xs ys faults.Big c h = absurd h
  fault-behind xs ys faults.Heavy c h = absurd h

  within-one : (place : Place) → (PassesAt def place.part place.step → ⊥) → AreWithin def (place ∷ [])
  within-one place h other first = h
  within-one place h other (later i) = elim i [ ]

  up_within : (path : Path) (f : Fragment) (n : ℕ) → ((k : ℕ) → k ≤ n → PassesAt def f k → ⊥)
      → AreWithin def (steps_up_to path f n)
  up_within path f zero h = within-one (record { path = path; part = f; step = 0 }) (h 0 (omega arith))
  up_within path f (suc n) h =
      within-append (steps_up_to path f n) (record {
        path =
            path;
        part = f;
        step = suc n;
      } ∷ []) (up_within path f n (λ k l. h k (omega (arith, l))))
      (within-one (record { path = path; part = f; step = suc n }) (h (suc n) (omega arith)))

  up_first : (path : Path) (f : Fragment) (n step : ℕ) → step ≤ n → PassesAt def f step
      → ((k : ℕ) → k < step → PassesAt def f k → ⊥) → IsFirstOf def (steps_up_to path f n)
      (record { path = path; part = f; step = step })
  up_first path f zero step l p h =
      let e : 0 ≡ step = omega (arith, l) in
      record {
        front =
            [];
        rest = [];
        split = ap (λ k. record { path = path; part = f; step = k } ∷ []) e;
        within =
            within-none;
        passes = p;
      }
  up_first path f (suc n) step l p h = elim (last step n l) [
    | inl small ↦ first-left (steps_up_to path f n) (record { path = path; part = f; step = suc n } ∷ [])
        (record { path = path; part = f; step = step }) (up_first path f n step small p h)
    | inr same ↦ first-behind (steps_up_to path f n) (record { path = path; part = f; step = suc n } ∷ [])
        (record { path = path; part = f; step = step }) (up_within path f n (λ k m. h k (omega (arith, m, same))))
        (record {
          front = [];
          rest = [];
          split = ap (λ k. record { path = path; part = f; step = k } ∷ []) (sym same);
          within = within-none;
          passes = p;
        })
  ] where
    last : (step n : ℕ) → step ≤ suc n → (step ≤ n) ⊎ (step ≡ suc n)
    last zero n l = inl (omega arith)
    last (suc k) zero l = inr (omega (arith, l))
    last (suc k) (suc n) l = elim (last k n (omega (arith, l))) [
      | inl a ↦ inl (omega (arith, a))
      | inr b ↦ inr
          (omega (arith, b))
    ]

  pub own_within : (path : Path) (f : Fragment) → StaysWithin def f → AreWithin def (own_steps def path f)
  own_within path f h = up_within path f (last_step def f) h

  pub own_fault : (path : Path) (f : Fragment) (answer : Result SummaryParts EvalFault) (fault : NoteFault)
      → Answers def f answer → IsAnswerFault path answer fault → IsStepFault def (own_steps def path f) fault
  own_fault path f answer fault h (inl memory) = subst (IsStepFault def (own_steps def path f)) (sym memory) tt
  own_fault path f answer fault h (inr (step, wide, is)) =
      let p : IsFirstPassing def f step = subst (Answers def f) wide h in
      subst (IsStepFault def (own_steps def path f)) (sym is)
      (f, up_first path f (last_step def f) step p.there p.passes p.first)

  -- ---- the steps of a tree are those of its children, and then its own

  spine_steps : (path : Path) (f : Fragment) → IsReal f → IsSpine f
      → steps_below def path 0 f ≡ each_steps def path 0 (children_of f)
  spine_steps path (operator o) real s = refl
  spine_steps path (with_child f t) real s =
      let e : length (children_of f) ≡ 0 + length (children_of f) = omega arith in
      ap₂ (λ xs n. xs ++ steps_of def (path ++ n ∷ []) t) (spine_steps path f real.0 s) e
      ∙ sym (each_steps-push def path 0 (children_of f) t)
  spine_steps path (with_name f n) real s = spine_steps path f real.0 s
  spine_steps path (with_number f n) real s = spine_steps path f real.0 s
  spine_steps path (with_text f t) real s = spine_steps path f real.0 s
  spine_steps path (hole p) real s = absurd s
  spine_steps path (ending l u) real s = absurd s
  spine_steps path (cell l e r) real s = absurd s
  spine_steps path anything real s = absurd s
  spine_steps path (observed f) real s = absurd s

  list_below : (path : Path) (n : ℕ) (f : Fragment) → IsReal f → IsList f
      → steps_below def path n f ≡ each_steps def path n (children_of f)
  list_below path n (ending l u) real s = refl
  list_below path n (cell l e r) real s =
      ap (λ x. steps_of def (path ++ n ∷ []) e ++ x) (list_below path (n + 1) r real.1 real.2)
  list_below path n (hole p) real s = absurd s
  list_below path n (operator o) real s = absurd s
  list_below path n (with_child f t) real s = absurd s
  list_below path n (with_name f x) real s = absurd s
  list_below path n (with_number f x) real s = absurd s
  list_below path n (with_text f x) real s = absurd s
  list_below path n anything real s = absurd s
  list_below path n (observed f) real s = absurd s

  pub steps_split : (path : Path) (f : Fragment) → IsReal f
      → steps_of def path f ≡ each_steps def path 0 (children_of f) ++ top_steps def path f
  steps_split path (hole p) real = refl
  steps_split path (ending l u) real = refl
  steps_split path (cell l e r) real =
      ap (λ x. (steps_of def (path ++ 0 ∷ []) e ++ x) ++ list_steps def path (cell l e r))
      (list_below path 1 r real.1 real.2)
  steps_split path (operator o) real = refl
  steps_split path (with_child f t) real =
      ap (λ x. x ++ own_steps def path (with_child f t)) (spine_steps path (with_child f t) real real.2)
  steps_split path (with_name f n) real =
      ap (λ x. x ++ own_steps def path (with_name f n)) (spine_steps path f real.0 real.1)
  steps_split path (with_number f n) real =
      ap (λ x. x ++ own_steps def path (with_number f n)) (spine_steps path f real.0 real.1)
  steps_split path (with_text f t) real =
      ap (λ x. x ++ own_steps def path (with_text f t)) (spine_steps path f real.0 real.1)
  steps_split path anything real = absurd real
  steps_split path (observed f) real = absurd real

  -- ---- of the whole tree

  pub first_wide : (f : Fragment) (place : Place) → IsFirstOf def (steps_of def [] f) place → IsFirstWide def f place
  first_wide f place h = record {
    number = length h.front;
    found = subst (λ l. slice_get l (length h.front) ≡ Some place) (sym h.split) (slice_get-middle h.front place h.rest);
    passes = h.passes;
    first =
        λ k earlier l e. h.within earlier (got_in earlier h.front (place ∷ h.rest) k l
        (subst (λ x. slice_get x k ≡ Some earlier) h.split e));
  }

  pub not_wide : (f : Fragment) → AreWithin def (steps_of def [] f) → IsWide def f → ⊥
  not_wide f c (place, h, p) = c place h p
