-- What the evaluator's steps of a node are to its plan.
use Rattle.std.proofs.Common.{◌≡◌, ◌⊎◌, inl, inr, ℕ, zero, suc, ◌+◌, ◌<◌, List, [], ◌∷◌, ◌++◌, map, length, length-append, Some, slice_get, refl, ap, sym, ◌∙◌, subst, append_assoc, append-nil, arith}
use Rattle.std.proofs.lemmas.Option.{none-some}
use Rattle.psg_terms.proofs.Lists.{slice_get-middle}
use Rattle.psg_grammar.specs.declared.types.Definition.{Definition}
use Rattle.psg_grammar.specs.Fragments.{Fragment}
use Rattle.psg_grammar.specs.Steps.{IsStepRelation, adding, closing, last_step}
use Rattle.psg_eval.specs.declared.steps.StepRows.{StepRows}
use Rattle.psg_eval.specs.StepRows.{AreSteps, IsStepOf}
use Rattle.psg_eval.specs.StepRows.{adding as step_adding, closing as step_closing}
use Rattle.psg_explain.specs.Relations.{AreOwnFrom, rel_of}
use Rattle.psg_explain.proofs.PlanLaws.{Rows}

pub none_or_some : (rows : Rows) → (rows ≡ []) ⊎ (rows ≡ [] → ⊥)
none_or_some [] = inl refl
none_or_some (r ∷ rows) = inr (λ e. absurd (cc))

module _ (def : Definition) (f : Fragment) where
  of_step : (n : ℕ) (s : StepRows) → IsStepOf def f n s → IsStepRelation def f n s.rel
  of_step n s (step_adding le is) = adding n s.rel le (is.sorts, is.relation)
  of_step n s (step_closing z scope header is) = closing n s.rel z scope is

  module _ (steps : List StepRows) (are : AreSteps def f steps) where
    -- those of the front have rows
    abbrev HaveRows : List StepRows → Type 0
    HaveRows front = (k : ℕ) (s : StepRows) → slice_get front k ≡ Some s → s.rel ≡ [] → ⊥

    more_rows : (front : List StepRows) (s : StepRows) → HaveRows front → (s.rel ≡ [] → ⊥) → HaveRows (front ++ s ∷ [])
    more_rows front s have some k t at = by front k at (λ i u a. have i u a)
      where
        by : (xs : List StepRows) (i : ℕ) → slice_get (xs ++ s ∷ []) i ≡ Some t → ((j : ℕ) (u : StepRows) → slice_get xs j ≡ Some u → u.rel ≡ [] → ⊥) → t.rel ≡ [] → ⊥
        by [] zero e h = let d : s ≡ t = cc in subst (λ (x : StepRows). x.rel ≡ [] → ⊥) d some
        by [] (suc i) e h = absurd (none-some t e)
        by (x ∷ xs) zero e h = h zero t e
        by (x ∷ xs) (suc i) e h = by xs i e (λ j u a. h (suc j) u a)

    front_of : (front rest : List StepRows) (k : ℕ) (s : StepRows) → slice_get (front ++ rest) k ≡ Some s → k < length front → slice_get front k ≡ Some s
    front_of [] rest k s e lt = absurd (omega (arith, lt))
    front_of (x ∷ front) rest zero s e lt = e
    front_of (x ∷ front) rest (suc k) s e lt = front_of front rest k s e (omega (arith, lt))

    own_at : (rest front : List StepRows) (n : ℕ) → steps ≡ front ++ rest → length front ≡ n → HaveRows front → AreOwnFrom def f n (map rel_of rest)
    own_at [] front n split many have = by are.all
      where
        whole : steps ≡ front
        whole = split ∙ append-nil front

        by : (length steps ≡ last_step def f + 1) ⊎ ((k : ℕ) × (s : StepRows) × (slice_get steps k ≡ Some s) × (s.rel ≡ [])) → n ≡ last_step def f + 1
        by (inl e) = sym many ∙ sym (ap length whole) ∙ e
        by (inr (k, s, at, none)) = absurd (have k s (subst (λ (l : List StepRows). slice_get l k ≡ Some s) whole at) none)
    own_at (s ∷ rest) front n split many have =
        let here : slice_get steps n ≡ Some s = ap (λ (l : List StepRows). slice_get l n) split ∙ ap (slice_get (front ++ s ∷ rest)) (sym many) ∙ slice_get-middle front s rest in
        let longer = length-append front (s ∷ []) in
        (of_step n s (are.each n s here), by here (none_or_some s.rel) (λ some. own_at rest (front ++ s ∷ []) (n + 1) (split ∙ sym (append_assoc front (s ∷ []) rest)) (omega (arith, longer, many)) (more_rows front s have some)))
      where
        empty : (xs : List StepRows) → length xs ≡ 0 → map rel_of xs ≡ []
        empty [] e = refl
        empty (x ∷ xs) e = absurd (omega (arith, e))

        by : slice_get steps n ≡ Some s → (s.rel ≡ []) ⊎ (s.rel ≡ [] → ⊥) → ((s.rel ≡ [] → ⊥) → AreOwnFrom def f (n + 1) (map rel_of rest)) → ((s.rel ≡ []) × (map rel_of rest ≡ [])) ⊎ ((s.rel ≡ [] → ⊥) × AreOwnFrom def f (n + 1) (map rel_of rest))
        by here (inl none) next =
            let over = are.ended n s here none in
            let count = length-append front (s ∷ rest) in
            let all = ap length split in
            inl (none, empty rest (omega (arith, over, count, all, many)))
        by here (inr some) next = inr (some, next some)

    pub own_relations : AreOwnFrom def f 0 (map rel_of steps)
    own_relations = own_at steps [] 0 refl refl (λ k s at none. none-some s at)
