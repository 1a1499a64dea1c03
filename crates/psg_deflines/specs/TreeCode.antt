-- A written specimen as a list of steps, each of which puts a tree on a stack: how a model keeps it.
use Rattle.std.specs.Prelude.{ℕ, List, [], ◌∷◌, ◌++◌, ◌≡◌, ◌⊎◌, refl}
use Rattle.std.specs.Coded.{Coded, code_by, coded_list, coded×, coded⊎, coded_ℕ}
use Rattle.std.proofs.Common.{inl, inr, ap, ◌∙◌}
use base.Stored.{coded_unit}
use Rattle.psg_deflines.specs.WrittenTerms.{WrittenTerm}
use Rattle.psg_deflines.specs.TermCode.{coded_term}
use Rattle.psg_deflines.specs.WrittenTrees.{WrittenTree, operator, with_tree, with_name, with_number, with_text}
use Rattle.psg_deflines.specs.WrittenTrees.{list_end, list_rest, element, place}

-- a step that builds specimens on a stack
pub data Step : Type 0 where
  an_operator : (name : List ℕ) → Step
  a_tree : Step
  a_name : (name : List ℕ) → Step
  a_number : (digits : List ℕ) → Step
  a_text : (text : List ℕ) → Step
  an_end : Step
  a_rest : (list : List ℕ) (term : WrittenTerm) → Step
  an_element : Step
  a_place : (kind : List ℕ) (term : WrittenTerm) → Step

-- the steps that build the specimen on a stack
abbrev pub steps : WrittenTree → List Step
steps (operator o) = an_operator o ∷ []
steps (with_tree f t) = steps f ++ (steps t ++ a_tree ∷ [])
steps (with_name f n) = steps f ++ a_name n ∷ []
steps (with_number f d) = steps f ++ a_number d ∷ []
steps (with_text f w) = steps f ++ a_text w ∷ []
steps list_end = an_end ∷ []
steps (list_rest l t) = a_rest l t ∷ []
steps (element e r) = steps e ++ (steps r ++ an_element ∷ [])
steps (place k t) = a_place k t ∷ []

-- the second and the first specimen of the stack as one
abbrev pub on_two : (WrittenTree → WrittenTree → WrittenTree) → List WrittenTree → List WrittenTree
on_two f (b ∷ a ∷ stack) = f a b ∷ stack
on_two f stack = stack

-- the first specimen of the stack changed
abbrev pub on_one : (WrittenTree → WrittenTree) → List WrittenTree → List WrittenTree
on_one f (a ∷ stack) = f a ∷ stack
on_one f [] = []

-- what a step does to the stack
abbrev pub step : Step → List WrittenTree → List WrittenTree
step (an_operator o) stack = operator o ∷ stack
step a_tree stack = on_two with_tree stack
step (a_name n) stack = on_one (λ f. with_name f n) stack
step (a_number d) stack = on_one (λ f. with_number f d) stack
step (a_text w) stack = on_one (λ f. with_text f w) stack
step an_end stack = list_end ∷ stack
step (a_rest l t) stack = list_rest l t ∷ stack
step an_element stack = on_two element stack
step (a_place k t) stack = place k t ∷ stack

-- the stack after the steps
abbrev pub run : List Step → List WrittenTree → List WrittenTree
run [] stack = stack
run (s ∷ rest) stack = run rest (step s stack)

-- the first specimen of the stack
abbrev pub top : List WrittenTree → WrittenTree
top [] = list_end
top (t ∷ ts) = t

pub run-append : (xs ys : List Step) (stack : List WrittenTree) → run (xs ++ ys) stack ≡ run ys (run xs stack)
run-append [] ys stack = refl
run-append (x ∷ xs) ys stack = run-append xs ys (step x stack)

pub run-two : (f g : WrittenTree) (s : Step) (xs ys : List Step) (stack : List WrittenTree)
    → run xs stack ≡ f ∷ stack → run ys (f ∷ stack) ≡ g ∷ f ∷ stack
    → run (xs ++ (ys ++ s ∷ [])) stack ≡ step s (g ∷ f ∷ stack)
run-two f g s xs ys stack p q =
    run-append xs (ys ++ s ∷ []) stack ∙ ap (run (ys ++ s ∷ [])) p ∙ run-append ys (s ∷ []) (f ∷ stack) ∙ ap (step s) q

pub run-one : (f : WrittenTree) (s : Step) (xs : List Step) (stack : List WrittenTree)
    → run xs stack ≡ f ∷ stack → run (xs ++ s ∷ []) stack ≡ step s (f ∷ stack)
run-one f s xs stack p = run-append xs (s ∷ []) stack ∙ ap (step s) p

pub run-steps : (t : WrittenTree) (stack : List WrittenTree) → run (steps t) stack ≡ t ∷ stack
run-steps (operator o) stack = refl
run-steps (with_tree f t) stack =
    run-two f t a_tree (steps f) (steps t) stack (run-steps f stack) (run-steps t (f ∷ stack))
run-steps (with_name f n) stack = run-one f (a_name n) (steps f) stack (run-steps f stack)
run-steps (with_number f d) stack = run-one f (a_number d) (steps f) stack (run-steps f stack)
run-steps (with_text f w) stack = run-one f (a_text w) (steps f) stack (run-steps f stack)
run-steps list_end stack = refl
run-steps (list_rest l t) stack = refl
run-steps (element e r) stack =
    run-two e r an_element (steps e) (steps r) stack (run-steps e stack) (run-steps r (e ∷ stack))
run-steps (place k t) stack = refl

pub top-steps : (t : WrittenTree) → top (run (steps t) []) ≡ t
top-steps t = ap top (run-steps t [])

-- a step as its kind and what it has
abbrev pub Kept : Type 0
Kept = ((List ℕ × WrittenTerm) ⊎ (List ℕ × WrittenTerm))
    ⊎ ((List ℕ ⊎ List ℕ) ⊎ ((List ℕ ⊎ List ℕ) ⊎ (Unit {0} ⊎ (Unit {0} ⊎ Unit {0}))))

-- a step as a value of sums and pairs
abbrev pub kept : Step → Kept
kept (a_rest l t) = inl (inl (l, t))
kept (a_place k t) = inl (inr (k, t))
kept (an_operator o) = inr (inl (inl o))
kept (a_name n) = inr (inl (inr n))
kept (a_number d) = inr (inr (inl (inl d)))
kept (a_text w) = inr (inr (inl (inr w)))
kept a_tree = inr (inr (inr (inl tt)))
kept an_end = inr (inr (inr (inr (inl tt))))
kept an_element = inr (inr (inr (inr (inr tt))))

-- the step that such a value is
abbrev pub given_back : Kept → Step
given_back (inl (inl (l, t))) = a_rest l t
given_back (inl (inr (k, t))) = a_place k t
given_back (inr (inl (inl o))) = an_operator o
given_back (inr (inl (inr n))) = a_name n
given_back (inr (inr (inl (inl d)))) = a_number d
given_back (inr (inr (inl (inr w)))) = a_text w
given_back (inr (inr (inr (inl u)))) = a_tree
given_back (inr (inr (inr (inr (inl u))))) = an_end
given_back (inr (inr (inr (inr (inr u))))) = an_element

pub back-kept : (s : Step) → given_back (kept s) ≡ s
back-kept (an_operator o) = refl
back-kept a_tree = refl
back-kept (a_name n) = refl
back-kept (a_number d) = refl
back-kept (a_text w) = refl
back-kept an_end = refl
back-kept (a_rest l t) = refl
back-kept an_element = refl
back-kept (a_place k t) = refl

-- steps as values of sums and pairs
abbrev pub coded_step : Coded Step
coded_step = code_by Kept (coded⊎
    (coded⊎ (coded× (coded_list coded_ℕ) coded_term) (coded× (coded_list coded_ℕ) coded_term))
    (coded⊎ (coded⊎ (coded_list coded_ℕ) (coded_list coded_ℕ))
    (coded⊎ (coded⊎ (coded_list coded_ℕ) (coded_list coded_ℕ))
    (coded⊎ coded_unit (coded⊎ coded_unit coded_unit))))) kept given_back back-kept

-- specimens as lists of steps, so that contracts can see them as values
abbrev pub coded_tree : Coded WrittenTree
coded_tree = code_by (List Step) (coded_list coded_step) steps (λ xs. top (run xs [])) top-steps
