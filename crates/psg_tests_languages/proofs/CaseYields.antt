-- Which tokens sums and lists yield: the levels of slots, brackets, separators, unfinished lists.
use Rattle.std.proofs.Common.{◌≡◌, ◌≤◌, ◌∙◌, ◌++◌, ℕ, max, Bool, true, false, List, [], ◌∷◌, codes, Some, refl, sym, ap, subst, slice_get, lit≤, arith}
use Rattle.psg_grammar.specs.declared.types.Kind.TheVariants as kinds
use Rattle.psg_grammar.specs.declared.types.Item.{Item}
use Rattle.psg_grammar.specs.declared.types.Operator.{Operator}
use Rattle.psg_grammar.specs.Fragments.{Fragment, hole, ending, cell, top_operator}
use Rattle.psg_grammar.specs.Levels.{level_number}
use Rattle.psg_class.specs.Terminals.{Token, numeral, placeholder, dots}
use Rattle.psg_class.specs.Yields.{Yields, TreeYields, of_hole, of_operator, in_brackets, PartsYield, no_items, of_word, of_refers, of_declares, of_number, of_text, of_slot, of_list_slot, ListYields, no_elements, only_more, elements, SomeYield, last_element, and_more, and_elements}
use Rattle.psg_tests_languages.proofs.CaseSums.{sums, op_number, op_sum, op_all, list_all, the, sum_of, all_of, add, open_round, close_round, open_square, close_square, comma}

-- ---- operators

-- a number yields itself, at each level up to 10
number_yields : (n level : ℕ) → level ≤ 10 → TreeYields sums (the n) 0 level 0 (numeral n ∷ [])
number_yields n level le = of_operator 0 op_number refl refl le (of_number n no_items)

placeholder_yields : (level : ℕ) → Yields sums (hole 0) (kinds.Phylum 0) level 0 (placeholder (codes "Exp") ∷ [])
placeholder_yields level = of_hole _ refl (λ s. refl)

-- the parts of a sum, the left one at level 1 and the right one at level 2
sum_parts : (a b : Fragment) (d e : ℕ) (left right : List Token) → TreeYields sums a 0 1 d left → TreeYields sums b 0 2 e right
    → TreeYields sums (sum_of a b) 0 1 (max (max 0 d) e) (left ++ add ∷ (right ++ []))
sum_parts a b d e left right p q = of_operator 1 op_sum refl refl (lit≤ tt) (of_slot a d left _ p (of_word add refl (of_slot b e right [] q no_items)))

-- 1 + 2
sum_yields : Yields sums (sum_of (the 1) (the 2)) (kinds.Phylum 0) 1 0 (numeral 1 ∷ add ∷ numeral 2 ∷ [])
sum_yields = sum_parts (the 1) (the 2) 0 0 (numeral 1 ∷ []) (numeral 2 ∷ []) (number_yields 1 1 (lit≤ tt)) (number_yields 2 2 (lit≤ tt))

-- 1 + 2 + 3 groups to the left
left_yields : Yields sums (sum_of (sum_of (the 1) (the 2)) (the 3)) (kinds.Phylum 0) 1 0 (numeral 1 ∷ add ∷ numeral 2 ∷ add ∷ numeral 3 ∷ [])
left_yields = sum_parts (sum_of (the 1) (the 2)) (the 3) 0 0 (numeral 1 ∷ add ∷ numeral 2 ∷ []) (numeral 3 ∷ []) sum_yields (number_yields 3 2 (lit≤ tt))

-- ( 2 + 3 ) at any level
bracketed_yields : (level : ℕ) → Yields sums (sum_of (the 2) (the 3)) (kinds.Phylum 0) level 1 (open_round ∷ numeral 2 ∷ add ∷ numeral 3 ∷ close_round ∷ [])
bracketed_yields level = in_brackets _ open_round close_round refl refl refl refl
    (of_operator 1 op_sum refl refl (lit≤ tt) (of_slot (the 2) 0 (numeral 2 ∷ []) _ (number_yields 2 1 (lit≤ tt)) (of_word add refl (of_slot (the 3) 0 (numeral 3 ∷ []) [] (number_yields 3 2 (lit≤ tt)) no_items))))

-- 1 + ( 2 + 3 )
right_yields : Yields sums (sum_of (the 1) (sum_of (the 2) (the 3))) (kinds.Phylum 0) 1 1 (numeral 1 ∷ add ∷ open_round ∷ numeral 2 ∷ add ∷ numeral 3 ∷ close_round ∷ [])
right_yields = sum_parts (the 1) (sum_of (the 2) (the 3)) 0 1 (numeral 1 ∷ []) (open_round ∷ numeral 2 ∷ add ∷ numeral 3 ∷ close_round ∷ []) (number_yields 1 1 (lit≤ tt)) (bracketed_yields 2)

-- an operator stays the same, whatever parts it gets
same_top : {o : Operator} {first : Bool} {f g : Fragment} {d e : ℕ} {more : List Item} {ts : List Token} → PartsYield sums o first f d more g e ts → top_operator g ≡ top_operator f
same_top no_items = refl
same_top (of_word t is rest) = same_top rest
same_top (of_refers s x is rest) = same_top rest
same_top (of_declares s x is rest) = same_top rest
same_top (of_number x rest) = same_top rest
same_top (of_text x rest) = same_top rest
same_top (of_slot t depth own after tree rest) = same_top rest
same_top (of_list_slot t depth own after tree rest) = same_top rest

-- a sum is no right part of a sum without brackets
no_right_sum : (a b f : Fragment) (depth : ℕ) (ts : List Token) → f ≡ sum_of a b → depth ≡ 0 → TreeYields sums f 0 2 depth ts → ⊥
no_right_sum a b f depth ts e flat (of_hole phylum found holes) = cc
no_right_sum a b f depth ts e flat (of_operator n o found same level parts) =
    let top : Some 1 ≡ Some n = ap top_operator (sym e) ∙ same_top parts in
    let number : 1 ≡ n = cc in
    let o_is : o ≡ op_sum = let g : Some op_sum ≡ Some o = subst (λ k. slice_get sums.operators k ≡ Some o) (sym number) found in cc in
    let low : 2 ≤ 1 = subst (λ (k : Operator). 2 ≤ level_number k.level) o_is level in
    absurd (omega arith)
no_right_sum a b f depth ts e flat (in_brackets phylum open_token close_token found may open_is close_is inner) = absurd (omega (arith, flat))

-- ---- lists

-- [ 1 , 2 ]
two_yield : Yields sums (cell 0 (the 1) (cell 0 (the 2) (ending 0 false))) (kinds.List 0) 0 0 (numeral 1 ∷ comma ∷ numeral 2 ∷ [])
two_yield = elements (and_elements list_all 0 0 (numeral 1 ∷ []) (numeral 2 ∷ []) comma refl refl (number_yields 1 0 (lit≤ tt)) (last_element list_all refl (number_yields 2 0 (lit≤ tt))))

all_yield : Yields sums (all_of (cell 0 (the 1) (cell 0 (the 2) (ending 0 false)))) (kinds.Phylum 0) 10 0 (open_square ∷ numeral 1 ∷ comma ∷ numeral 2 ∷ close_square ∷ [])
all_yield = of_operator 2 op_all refl refl (lit≤ tt) (of_word open_square refl (of_list_slot _ 0 (numeral 1 ∷ comma ∷ numeral 2 ∷ []) (close_square ∷ []) two_yield (of_word close_square refl no_items)))

-- [ ] and [ ... ]
none_yields : Yields sums (ending 0 false) (kinds.List 0) 0 0 []
none_yields = no_elements list_all refl

unfinished_yields : Yields sums (ending 0 true) (kinds.List 0) 0 0 (dots ∷ [])
unfinished_yields = only_more list_all refl refl

-- 1 , 2 , ...
two_and_more : Yields sums (cell 0 (the 1) (cell 0 (the 2) (ending 0 true))) (kinds.List 0) 0 0 (numeral 1 ∷ comma ∷ numeral 2 ∷ comma ∷ dots ∷ [])
two_and_more = elements (and_elements list_all 0 0 (numeral 1 ∷ []) (numeral 2 ∷ comma ∷ dots ∷ []) comma refl refl (number_yields 1 0 (lit≤ tt))
    (and_more (numeral 2 ∷ []) list_all comma refl refl refl (number_yields 2 0 (lit≤ tt))))

-- a finished list without elements yields no tokens, so no dots
some_not_empty : {f : Fragment} {l depth : ℕ} {ts : List Token} → SomeYield sums f l depth ts → (u : Bool) → f ≡ ending l u → ⊥
some_not_empty (last_element kind found tree) u e = cc
some_not_empty (and_more ts kind separator found may is tree) u e = cc
some_not_empty (and_elements kind m n own after separator found is tree rest) u e = cc

no_dots_of_finished : (f : Fragment) (depth : ℕ) (ts : List Token) → f ≡ ending 0 false → ListYields sums f 0 depth ts → ts ≡ []
no_dots_of_finished f depth ts e (no_elements kind found) = refl
no_dots_of_finished f depth ts e (only_more kind found may) = cc
no_dots_of_finished f depth ts e (elements some) = absurd (some_not_empty some false e)
