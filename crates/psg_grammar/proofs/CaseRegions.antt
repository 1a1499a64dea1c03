-- Regions: what declares, what is unfinished, and which keys pass outward.
use Rattle.std.proofs.Common.{◌≡◌, ℕ, Bool, true, false, List, [], ◌∷◌, codes, Some, None, refl, true≢false}
use Rattle.psg_grammar.specs.declared.types.Kind.TheVariants as kinds
use Rattle.psg_grammar.specs.declared.types.Item.TheVariants as items
use Rattle.psg_grammar.specs.Fragments.{Fragment, ending, cell, operator, with_name, observed}
use Rattle.psg_terms.specs.Names.{has_twice}
use Rattle.psg_grammar.specs.Lookups.{is_scope, next_item, is_declares, key_at}
use Rattle.psg_grammar.specs.Declaring.{Declares, by_list, by_operator, here, later, is_declaring}
use Rattle.psg_grammar.specs.Regions.{declared_inside, declared_in, unfinished_inside, names_inside, names_of, IsDistinct}
use Rattle.psg_grammar.proofs.CaseLanguage.{spaces, op_let, op_mark, list_items, one, yes, ref_to, let_of, mark_of, jump_to, block}

abbrev x : List ℕ
x = codes "x"

abbrev y : List ℕ
y = codes "y"

abbrev z : List ℕ
z = codes "z"

-- ---- looking up

blocks_are_scopes : (is_scope spaces (block (ending 0 false)) ≡ true) × (is_scope spaces (observed (block (ending 0 true))) ≡ true) × (is_scope spaces one ≡ false) × (is_scope spaces (ending 0 true) ≡ false)
blocks_are_scopes = (refl, refl, refl, refl)

-- words and marks are no parts, so the name is the first part of a let and the expression the next one
next_of_let : (next_item spaces (operator 1) ≡ Some (items.Declares 0)) × (next_item spaces (with_name (operator 1) x) ≡ Some (items.Slot (kinds.Phylum 0))) × (next_item spaces (let_of x one) ≡ None)
next_of_let = (refl, refl, refl)

keys_of_positions : (key_at spaces (operator 1) x ≡ 0 ∷ x) × (key_at spaces (operator 2) x ≡ 1 ∷ x) × (key_at spaces (operator 3) x ≡ 1 ∷ x)
keys_of_positions = (refl, refl, refl)

only_declaring_positions : (is_declares (next_item spaces (operator 2)) ≡ true) × (is_declares (next_item spaces (operator 3)) ≡ false)
only_declaring_positions = (refl, refl)

-- ---- declaring kinds

items_declare : (is_declaring spaces 0 (kinds.Phylum 1) ≡ true) × (is_declaring spaces 1 (kinds.Phylum 1) ≡ true) × (is_declaring spaces 0 (kinds.List 0) ≡ true) × (is_declaring spaces 1 (kinds.List 0) ≡ true)
items_declare = (refl, refl, refl, refl)

no_third_space : is_declaring spaces 2 (kinds.List 0) ≡ false
no_third_space = refl

expressions_do_not : (s : ℕ) → is_declaring spaces s (kinds.Phylum 0) ≡ false
expressions_do_not s = refl

items_declare_labels : Declares spaces 1 (kinds.List 0)
items_declare_labels = by_list list_items refl (by_operator 2 op_mark refl refl refl (later here))

items_declare_values : Declares spaces 0 (kinds.Phylum 1)
items_declare_values = by_operator 1 op_let refl refl refl (later here)

-- ---- keys of regions

-- jump y ; let z = y
abbrev used : Bool → Fragment
used u = cell 0 (jump_to y) (cell 0 (let_of z (ref_to y)) (ending 0 u))

used_names : names_of spaces (used false) ≡ (0 ∷ y) ∷ (1 ∷ y) ∷ (0 ∷ z) ∷ []
used_names = refl

used_declares : (declared_in spaces (used false) ≡ (0 ∷ z) ∷ []) × (declared_inside spaces (used false) ≡ (0 ∷ z) ∷ [])
used_declares = (refl, refl)

-- a list that is the whole tree is in its region, so it may be unfinished there; its keys stay
used_unfinished : (unfinished_inside spaces 0 (used true) ≡ true) × (unfinished_inside spaces 1 (used true) ≡ true) × (unfinished_inside spaces 0 (used false) ≡ false)
used_unfinished = (refl, refl, refl)

used_names_unfinished : names_of spaces (used true) ≡ (0 ∷ y) ∷ (1 ∷ y) ∷ (0 ∷ z) ∷ []
used_names_unfinished = refl

-- out of a block pass the keys that it does not declare, and none while it may still declare them
from_block : names_of spaces (block (used false)) ≡ (0 ∷ y) ∷ (1 ∷ y) ∷ []
from_block = refl

from_unfinished_block : names_of spaces (block (used true)) ≡ []
from_unfinished_block = refl

block_declares : (declared_inside spaces (block (used false)) ≡ (0 ∷ z) ∷ []) × (declared_in spaces (block (used false)) ≡ [])
block_declares = (refl, refl)

-- an inner block is no part of the outer region, and what passes out of it is
abbrev nested : Fragment
nested = cell 0 (let_of y one) (cell 0 (block (used false)) (ending 0 false))

nested_names : (names_of spaces nested ≡ (0 ∷ y) ∷ (1 ∷ y) ∷ []) × (declared_in spaces nested ≡ (0 ∷ y) ∷ [])
nested_names = (refl, refl)

-- the outer block declares the value y, so only the label y goes on outward
nested_block : (names_of spaces (block nested) ≡ (1 ∷ y) ∷ []) × (names_inside spaces (block nested) ≡ (0 ∷ y) ∷ (1 ∷ y) ∷ (0 ∷ y) ∷ [])
nested_block = (refl, refl)

-- an unfinished list inside a block leaves the region outside finished
inner_unfinished : unfinished_inside spaces 0 (cell 0 (block (ending 0 true)) (ending 0 false)) ≡ false
inner_unfinished = refl

-- ---- declared twice

-- let x = one ; let x = yes
abbrev both : Fragment
both = cell 0 (let_of x one) (cell 0 (let_of x yes) (ending 0 false))

both_twice : has_twice (declared_inside spaces both) ≡ true
both_twice = refl

both_not_distinct : IsDistinct spaces both → ⊥
both_not_distinct h = true≢false h.0

-- a value and a label of one name are apart, and so are two blocks that declare the same
apart : IsDistinct spaces (cell 0 (let_of x one) (cell 0 (mark_of x) (ending 0 false)))
apart = (refl, ((tt, tt, (λ e. refl)), (λ e. refl), (tt, (λ e. refl), tt)))

blocks_apart : IsDistinct spaces (cell 0 (block (cell 0 (mark_of x) (ending 0 false))) (cell 0 (mark_of x) (ending 0 false)))
blocks_apart = (refl, ((tt, (tt, (λ e. refl), tt), (λ e. refl)), (λ e. refl), (tt, (λ e. refl), tt)))

-- what an inner block declares twice is a fault of the whole tree, also inside another one
inside_not_distinct : IsDistinct spaces (block (cell 0 (block both) (ending 0 false))) → ⊥
inside_not_distinct (own, (unit, (inner, twice, rest), outer)) = true≢false (twice refl)
