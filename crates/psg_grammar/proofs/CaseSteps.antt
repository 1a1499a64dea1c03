-- Sizes, and the steps of trees with their paths in order.
use Rattle.std.proofs.Common.{◌≡◌, ℕ, zero, suc, ◌<◌, true, false, List, [], ◌∷◌, length, codes, refl, inl, inr, arith}
use Rattle.psg_grammar.specs.declared.limits.TheConstants.{MOST_NODES, MOST_ELEMENTS, MOST_DEPTH, MOST_WEIGHTS, MOST_BRACKETS}
use Rattle.psg_grammar.specs.Fragments.{Fragment, hole, ending, cell, operator, anything, observed, children_of}
use Rattle.psg_grammar.specs.Sizes.{nodes_of, depth_of, longest_of, HasLongList, IsBig, IsDeep}
use Rattle.psg_grammar.specs.Steps.{first_children, children_count, last_step, Place, steps_of, steps_above}
use Rattle.psg_grammar.proofs.CaseLanguage.{spaces, constants, one, block, zero_leaf, plus_of, mark_of, let_of}

-- ---- sizes

leaves : (nodes_of (hole 0) ≡ 1) × (depth_of (hole 0) ≡ 1) × (nodes_of (ending 0 true) ≡ 1) × (depth_of (ending 0 true) ≡ 1)
leaves = (refl, refl, refl, refl)

-- a list is one node beside its elements, and names are none
sized : (nodes_of (plus_of (plus_of zero_leaf zero_leaf) (hole 0)) ≡ 5) × (depth_of (plus_of (plus_of zero_leaf zero_leaf) (hole 0)) ≡ 3) × (nodes_of (block (cell 0 (mark_of (codes "x")) (cell 0 (let_of (codes "x") one) (ending 0 true)))) ≡ 5) × (depth_of (block (cell 0 (mark_of (codes "x")) (cell 0 (let_of (codes "x") one) (ending 0 true)))) ≡ 4)
sized = (refl, refl, refl, refl)

-- the longest list counts, wherever it is
lists_measured : (longest_of (ending 0 true) ≡ 0) × (longest_of (plus_of zero_leaf zero_leaf) ≡ 0) × (longest_of (block (cell 0 (mark_of (codes "x")) (cell 0 (let_of (codes "x") one) (ending 0 true)))) ≡ 2) × (longest_of (cell 0 (block (cell 0 one (cell 0 one (cell 0 one (ending 0 true))))) (cell 0 one (ending 0 true))) ≡ 3)
lists_measured = (refl, refl, refl, refl)

-- the code tests by the limits of the definitions
limits_of_code : (MOST_NODES ≡ 20000) × (MOST_ELEMENTS ≡ 4096) × (MOST_DEPTH ≡ 200) × (MOST_WEIGHTS ≡ 4000000) × (MOST_BRACKETS ≡ 400)
limits_of_code = (refl, refl, refl, refl, refl)

-- a list of so many blocks
abbrev many : ℕ → Fragment
many zero = ending 0 false
many (suc n) = cell 0 (operator 0) (many n)

many_elements : (n : ℕ) → length (children_of (many n)) ≡ n
many_elements zero = refl
many_elements (suc n) = let e : length (children_of (many n)) ≡ n = many_elements n in omega arith

long_is_big : (n : ℕ) → 4096 ≡ n → IsBig (many (suc n))
long_is_big n e = inr (inl (let l : length (children_of (many (suc n))) ≡ suc n = many_elements (suc n) in omega arith))

-- one element fewer is not too long
as_long_as_may_be : (n : ℕ) → 4096 ≡ n → HasLongList (many n) → ⊥
as_long_as_may_be n e = none n (omega arith) where
  none : (m : ℕ) → m < suc 4096 → HasLongList (many m) → ⊥
  none zero lt h = h
  none (suc m) lt (inl h) = let l : length (children_of (many (suc m))) ≡ suc m = many_elements (suc m) in absurd (omega arith)
  none (suc m) lt (inr (inl h)) = h
  none (suc m) lt (inr (inr h)) = none m (omega arith) h

not_deep : IsDeep (plus_of zero_leaf zero_leaf) → ⊥
not_deep h = absurd (omega (arith, h))

-- ---- steps

counts : (children_count (plus_of zero_leaf zero_leaf) ≡ 2) × (children_count (let_of (codes "x") one) ≡ 1) × (children_count (cell 0 one (ending 0 true)) ≡ 2) × (children_count (ending 0 true) ≡ 0) × (last_step spaces (block (ending 0 true)) ≡ 2) × (last_step spaces one ≡ 0)
counts = (refl, refl, refl, refl, refl, refl)

-- the names of an operator are there from step 0 on
first : (first_children 0 (let_of (codes "x") one) ≡ let_of (codes "x") anything) × (first_children 1 (plus_of zero_leaf (hole 0)) ≡ plus_of zero_leaf anything) × (first_children 1 (cell 0 one (ending 0 true)) ≡ cell 0 one anything) × (first_children 2 (cell 0 one (ending 0 true)) ≡ cell 0 one (ending 0 true))
first = (refl, refl, refl, refl)

abbrev place : List ℕ → Fragment → ℕ → Place
place path part step = record { path = path; part = part; step = step }

-- children, then the node in the steps 0 to 2
operator_steps : steps_of constants [] (plus_of zero_leaf (hole 0))
    ≡ place (0 ∷ []) zero_leaf 0 ∷ place (1 ∷ []) (hole 0) 0 ∷ place [] (plus_of zero_leaf (hole 0)) 0 ∷ place [] (plus_of zero_leaf (hole 0)) 1 ∷ place [] (plus_of zero_leaf (hole 0)) 2 ∷ []
operator_steps = refl

abbrev mark_a : Fragment
mark_a = mark_of (codes "a")

abbrev mark_b : Fragment
mark_b = mark_of (codes "b")

-- elements, then the end, then the cells from the last to the first, all by the path of the list
list_steps_in_order : steps_of spaces (7 ∷ []) (cell 0 mark_a (cell 0 mark_b (ending 0 true)))
    ≡ place (7 ∷ 0 ∷ []) mark_a 0 ∷ place (7 ∷ 1 ∷ []) mark_b 0 ∷ place (7 ∷ []) (ending 0 true) 0
    ∷ place (7 ∷ []) (cell 0 mark_b (ending 0 true)) 0 ∷ place (7 ∷ []) (cell 0 mark_b (ending 0 true)) 1 ∷ place (7 ∷ []) (cell 0 mark_b (ending 0 true)) 2
    ∷ place (7 ∷ []) (cell 0 mark_a (cell 0 mark_b (ending 0 true))) 0 ∷ place (7 ∷ []) (cell 0 mark_a (cell 0 mark_b (ending 0 true))) 1 ∷ place (7 ∷ []) (cell 0 mark_a (cell 0 mark_b (ending 0 true))) 2 ∷ []
list_steps_in_order = refl

-- a scope operator has one step more, and a list below it stands in front of it
scope_steps : steps_of spaces [] (block (ending 0 true)) ≡ place (0 ∷ []) (ending 0 true) 0 ∷ place [] (block (ending 0 true)) 0 ∷ place [] (block (ending 0 true)) 1 ∷ place [] (block (ending 0 true)) 2 ∷ []
scope_steps = refl

-- an observed node has the steps of the node
observed_steps : steps_of spaces [] (observed (block (ending 0 true))) ≡ steps_of spaces [] (block (ending 0 true))
observed_steps = refl

-- above the second element are the list's second cell and then its first one; a node has no step above itself
above_element : steps_above spaces [] (1 ∷ []) (cell 0 mark_a (cell 0 mark_b (cell 0 mark_a (ending 0 true))))
    ≡ place [] (cell 0 mark_b (cell 0 mark_a (ending 0 true))) 0 ∷ place [] (cell 0 mark_b (cell 0 mark_a (ending 0 true))) 1 ∷ place [] (cell 0 mark_b (cell 0 mark_a (ending 0 true))) 2
    ∷ place [] (cell 0 mark_a (cell 0 mark_b (cell 0 mark_a (ending 0 true)))) 0 ∷ place [] (cell 0 mark_a (cell 0 mark_b (cell 0 mark_a (ending 0 true)))) 1 ∷ place [] (cell 0 mark_a (cell 0 mark_b (cell 0 mark_a (ending 0 true)))) 2 ∷ []
above_element = refl

above_root : steps_above spaces [] [] (block (ending 0 true)) ≡ []
above_root = refl
