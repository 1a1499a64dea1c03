-- A written term as a list of steps, each of which puts a term on a stack: how a model keeps it.
use Rattle.std.specs.Prelude.{ℕ, List, [], ◌∷◌, ◌++◌, ◌≡◌, ◌⊎◌, refl}
use Rattle.std.specs.Coded.{Coded, code_by, coded_list, coded⊎, coded_ℕ}
use Rattle.std.proofs.Common.{inl, inr, ap, ◌∙◌}
use base.Stored.{coded_unit}
use Rattle.psg_deflines.specs.WrittenTerms.{WrittenTerm, variable, named, apply}

-- a variable, a constructor, or an application of the two terms on top
abbrev pub Step : Type 0
Step = List ℕ ⊎ (List ℕ ⊎ Unit {0})

-- the steps that build the term on a stack
abbrev pub steps : WrittenTerm → List Step
steps (variable n) = inl n ∷ []
steps (named n) = inr (inl n) ∷ []
steps (apply f a) = steps f ++ steps a ++ inr (inr tt) ∷ []

-- the second term of the stack applied to the first one
abbrev pub applied_top : List WrittenTerm → List WrittenTerm
applied_top (a ∷ f ∷ stack) = apply f a ∷ stack
applied_top stack = stack

-- what a step does to the stack
abbrev pub step : Step → List WrittenTerm → List WrittenTerm
step (inl n) stack = variable n ∷ stack
step (inr (inl n)) stack = named n ∷ stack
step (inr (inr u)) stack = applied_top stack

-- the stack after the steps
abbrev pub run : List Step → List WrittenTerm → List WrittenTerm
run [] stack = stack
run (s ∷ rest) stack = run rest (step s stack)

-- the first term of the stack
abbrev pub top : List WrittenTerm → WrittenTerm
top [] = named []
top (t ∷ ts) = t

pub run-append : (xs ys : List Step) (stack : List WrittenTerm) → run (xs ++ ys) stack ≡ run ys (run xs stack)
run-append [] ys stack = refl
run-append (x ∷ xs) ys stack = run-append xs ys (step x stack)

pub run-steps : (t : WrittenTerm) (stack : List WrittenTerm) → run (steps t) stack ≡ t ∷ stack
run-steps (variable n) stack = refl
run-steps (named n) stack = refl
run-steps (apply f a) stack =
    run-append (steps f ++ steps a) (inr (inr tt) ∷ []) stack
    ∙ ap applied_top (run-append (steps f) (steps a) stack ∙ ap (run (steps a)) (run-steps f stack) ∙ run-steps a
    (f ∷ stack))

pub top-steps : (t : WrittenTerm) → top (run (steps t) []) ≡ t
top-steps t = ap top (run-steps t [])

-- terms as lists of steps, so that contracts can see them as values
abbrev pub coded_term : Coded WrittenTerm
coded_term = code_by (List Step)
    (coded_list (coded⊎ (coded_list coded_ℕ) (coded⊎ (coded_list coded_ℕ) coded_unit))) steps
    (λ xs. top (run xs [])) top-steps
