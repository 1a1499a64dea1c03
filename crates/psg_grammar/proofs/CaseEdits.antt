-- Paths, insertion, and the trees of specimens.
use Rattle.std.proofs.Common.{◌≡◌, ℕ, true, false, List, [], ◌∷◌, codes, Some, None, refl, inr}
use Rattle.psg_terms.specs.Terms.{variable}
use Rattle.psg_grammar.specs.declared.types.Kind.TheVariants as kinds
use Rattle.psg_grammar.specs.declared.types.SpecimenHole.{SpecimenHole}
use Rattle.psg_grammar.specs.declared.types.Specimen.{Specimen, Op', List', end_of-Specimen, more_of-Specimen, end_of-SpecimenPart}
use Rattle.psg_grammar.specs.Fragments.{Fragment, hole, ending, cell, anything, observed}
use Rattle.psg_grammar.specs.Paths.{node_at, change_child, replaced, observe, inserted, removed, ended}
use Rattle.psg_grammar.specs.Insertion.{blank, fresh_operator, with_operator, AreLeaves, a_name, a_number}
use Rattle.psg_grammar.specs.Specimens.{tree_of, holes_of, HasOwnRests}
use Rattle.psg_grammar.specs.Placed.{FitsPlaces}
use Rattle.psg_grammar.proofs.CaseLanguage.{spaces, constants, op_let, op_one, op_plus, op_zero, one, yes, block, zero_leaf, plus_of, mark_of, let_of, let_it}

abbrev x : List ℕ
x = codes "x"

-- { mark x ; let x = one }
abbrev tree : Fragment
tree = block (cell 0 (mark_of x) (cell 0 (let_of x one) (ending 0 true)))

-- ---- paths

nodes_by_path : (node_at tree [] ≡ Some tree) × (node_at tree (0 ∷ []) ≡ Some (cell 0 (mark_of x) (cell 0 (let_of x one) (ending 0 true)))) × (node_at tree (0 ∷ 1 ∷ []) ≡ Some (let_of x one)) × (node_at tree (0 ∷ 1 ∷ 0 ∷ []) ≡ Some one)
nodes_by_path = (refl, refl, refl, refl)

-- there is no second slot, no third element, and nothing below a name
no_nodes : (node_at tree (1 ∷ []) ≡ None) × (node_at tree (0 ∷ 2 ∷ []) ≡ None) × (node_at tree (0 ∷ 0 ∷ 0 ∷ []) ≡ None)
no_nodes = (refl, refl, refl)

replaced_below : replaced (0 ∷ 1 ∷ 0 ∷ []) yes tree ≡ block (cell 0 (mark_of x) (cell 0 (let_of x yes) (ending 0 true)))
replaced_below = refl

replaced_root : replaced [] (hole 1) tree ≡ hole 1
replaced_root = refl

replaced_nowhere : replaced (0 ∷ 2 ∷ []) yes tree ≡ tree
replaced_nowhere = refl

-- the first slot of two, behind which the second stands
replaced_first : replaced (0 ∷ []) (hole 0) (plus_of zero_leaf zero_leaf) ≡ plus_of (hole 0) zero_leaf
replaced_first = refl

observed_element : observe (0 ∷ 1 ∷ []) tree ≡ block (cell 0 (mark_of x) (cell 0 (observed (let_of x one)) (ending 0 true)))
observed_element = refl

-- the last child of an operator, whichever its number
changed_last : (g : Fragment → Fragment) (f t : Fragment) → change_child g 1 (plus_of f t) ≡ plus_of f (g t)
changed_last g f t = refl

-- ---- lists

abbrev marks : Fragment
marks = cell 0 (mark_of (codes "a")) (cell 0 (mark_of (codes "b")) (ending 0 true))

put_first : inserted 0 one marks ≡ cell 0 one marks
put_first = refl

put_last : inserted 2 one marks ≡ cell 0 (mark_of (codes "a")) (cell 0 (mark_of (codes "b")) (cell 0 one (ending 0 true)))
put_last = refl

taken_out : (removed 0 marks ≡ cell 0 (mark_of (codes "b")) (ending 0 true)) × (removed 1 marks ≡ cell 0 (mark_of (codes "a")) (ending 0 true))
taken_out = (refl, refl)

finished : ended false marks ≡ cell 0 (mark_of (codes "a")) (cell 0 (mark_of (codes "b")) (ending 0 false))
finished = refl

-- ---- insertion

blanks : (blank spaces (kinds.Phylum 0) ≡ hole 0) × (blank spaces (kinds.List 0) ≡ ending 0 true)
blanks = (refl, refl)

two_slots : fresh_operator constants 2 [] ≡ plus_of (hole 0) (hole 0)
two_slots = refl

refined : with_operator constants (plus_of zero_leaf (hole 0)) (1 ∷ []) None 2 [] ≡ plus_of zero_leaf (plus_of (hole 0) (hole 0))
refined = refl

-- the name goes to its position, the slot gets a placeholder
let_before_first : with_operator spaces tree (0 ∷ []) (Some 0) 1 (a_name (codes "y") ∷ []) ≡ block (cell 0 (let_of (codes "y") (hole 0)) (cell 0 (mark_of x) (cell 0 (let_of x one) (ending 0 true))))
let_before_first = refl

block_behind_last : with_operator spaces tree (0 ∷ []) (Some 2) 0 [] ≡ block (cell 0 (mark_of x) (cell 0 (let_of x one) (cell 0 (block (ending 0 true)) (ending 0 true))))
block_behind_last = refl

-- a name wants a name, and none is left over
no_number_for_name : AreLeaves spaces op_let.items (a_number 1 ∷ []) → ⊥
no_number_for_name h = h

-- ---- specimens

abbrev rest_hole : SpecimenHole
rest_hole = record { kind = kinds.List 0; term = variable 0 1 }

abbrev one_specimen : Specimen
one_specimen = Op' 5 [] end_of-SpecimenPart

let_it_tree : (tree_of (let_it 5) ≡ let_of (codes "it") one) × (holes_of (let_it 5) ≡ [])
let_it_tree = (refl, refl)

-- [one|hole(Items,?1)] and [|hole(Items,?1)]
with_rest : (tree_of (List' 0 (_ ∷ []) (more_of-Specimen one_specimen end_of-Specimen) (Some rest_hole)) ≡ cell 0 one anything) × (holes_of (List' 0 (_ ∷ []) (more_of-Specimen one_specimen end_of-Specimen) (Some rest_hole)) ≡ rest_hole ∷ [])
with_rest = (refl, refl)

rest_alone : (tree_of (List' 0 [] end_of-Specimen (Some rest_hole)) ≡ anything) × (holes_of (List' 0 [] end_of-Specimen (Some rest_hole)) ≡ rest_hole ∷ [])
rest_alone = (refl, refl)

finished_specimen : tree_of (List' 0 [] end_of-Specimen None) ≡ ending 0 false
finished_specimen = refl

-- the same tree with another list's number, which its rest refuses
own_rest : HasOwnRests (List' 0 [] end_of-Specimen (Some rest_hole))
own_rest = (refl, tt)

other_rest : HasOwnRests (List' 1 [] end_of-Specimen (Some rest_hole)) → ⊥
other_rest (e, t) = cc

let_it_fits : FitsPlaces spaces ⊥ (tree_of (let_it 5)) [] (kinds.Phylum 1) [] []
let_it_fits = (kinds.Phylum 0, [], inr (0, (refl, op_let, refl, refl, refl)), (refl, op_one, refl, refl, refl))

-- a place stands for a tree of the kind that is wanted there
place_fits : FitsPlaces constants ⊥ (plus_of zero_leaf anything) [] (kinds.Phylum 0) (kinds.Phylum 0 ∷ []) []
place_fits = (kinds.Phylum 0, kinds.Phylum 0 ∷ [], (kinds.Phylum 0, kinds.Phylum 0 ∷ [], (refl, op_plus, refl, refl, refl), (refl, op_zero, refl, refl, refl)), ((λ h. h), refl, refl))

no_placeholder_in_specimens : FitsPlaces constants ⊥ (hole 0) [] (kinds.Phylum 0) [] [] → ⊥
no_placeholder_in_specimens h = h.0
