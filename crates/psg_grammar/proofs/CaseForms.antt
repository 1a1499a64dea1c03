-- Well-formed trees, what is none, and fillings.
use Rattle.std.proofs.Common.{◌≡◌, zero, suc, true, false, [], ◌∷◌, codes, Some, None, refl, sym, subst, true≢false, lit<, lit≤, inl}
use Rattle.std.specs.List.{AllByRecursion}
use Rattle.std.specs.Str.{IsAscii}
use Rattle.std.proofs.lemmas.Str.{chars-IsAscii}
use Rattle.psg_terms.specs.Names.{is_among}
use Rattle.psg_grammar.specs.declared.types.Kind.TheVariants as kinds
use Rattle.psg_grammar.specs.declared.types.Item.TheVariants as items
use Rattle.psg_grammar.specs.Fragments.{Fragment, hole, ending, cell, operator, with_child, with_name, with_text, anything, observed, top_operator, parts_count, children_of}
use Rattle.psg_grammar.specs.FragmentCode.{steps, run, top, a_name, an_operator, a_child}
use Rattle.psg_grammar.specs.Lookups.{part_items}
use Rattle.psg_grammar.specs.WellFormed.{WellFormed, IsComplete, words_in, fixed_words, separators}
use Rattle.psg_grammar.specs.Fillings.{Fills}
use Rattle.psg_grammar.specs.Printable.{IsPrintable, IsShown}
use Rattle.psg_grammar.proofs.CaseLanguage.{spaces, constants, op_blk, op_one, op_plus, op_zero, list_items, one, block, zero_leaf, plus_of, let_of, mark_of}

-- ---- parts of trees

tops : (top_operator (let_of (codes "x") one) ≡ Some 1) × (top_operator (observed (block (ending 0 true))) ≡ Some 0) × (top_operator (ending 0 true) ≡ None)
tops = (refl, refl, refl)

-- names count as parts and are no children
parts : (parts_count (let_of (codes "x") one) ≡ 2) × (children_of (let_of (codes "x") one) ≡ one ∷ [])
parts = (refl, refl)

children : (children_of (plus_of zero_leaf (hole 0)) ≡ zero_leaf ∷ hole 0 ∷ []) × (children_of (cell 0 (mark_of (codes "a")) (cell 0 (mark_of (codes "b")) (ending 0 true))) ≡ mark_of (codes "a") ∷ mark_of (codes "b") ∷ [])
children = (refl, refl)

-- a tree is kept as the steps that build it, parts first
kept : steps (let_of (codes "x") one) ≡ an_operator 1 ∷ a_name (codes "x") ∷ an_operator 5 ∷ a_child ∷ []
kept = refl

built_again : top (run (steps (cell 0 one (ending 0 true))) []) ≡ cell 0 one (ending 0 true)
built_again = refl

-- ---- fixed words

words : (words_in op_plus.items ≡ codes "(" ∷ codes "+" ∷ codes ")" ∷ []) × (separators spaces.lists ≡ codes ";" ∷ []) × (fixed_words constants ≡ codes "zero" ∷ codes "true" ∷ codes "(" ∷ codes "+" ∷ codes ")" ∷ [])
words = (refl, refl, refl)

separators_are_fixed : (is_among (fixed_words spaces) (codes ";") ≡ true) × (is_among (fixed_words spaces) (codes "let") ≡ true) × (is_among (fixed_words spaces) (codes "x") ≡ false)
separators_are_fixed = (refl, refl, refl)

-- ---- well-formed

plus_fits : WellFormed constants (plus_of zero_leaf (hole 0)) (kinds.Phylum 0)
plus_fits = ((kinds.Phylum 0, (kinds.Phylum 0, (op_plus, refl, refl, refl), (op_zero, refl, refl, refl)), (refl, refl, lit< tt, (λ s. refl))), ((tt, tt), tt))

block_fits : WellFormed spaces (block (ending 0 true)) (kinds.Phylum 1)
block_fits = ((kinds.List 0, (op_blk, refl, refl, refl), (refl, refl, (list_items, refl, λ e. refl))), (tt, tt))

-- a part too few, a part of another phylum, a list of another kind
part_missing : WellFormed constants (with_child (operator 2) zero_leaf) (kinds.Phylum 0) → ⊥
part_missing ((k, (op, found, more, kind), child), plain) = let same : Some op_plus ≡ Some op = found in let e : items.Slot k ∷ [] ≡ part_items op.items = more in cc

one_is_no_item : WellFormed spaces one (kinds.Phylum 1) → ⊥
one_is_no_item ((op, found, more, kind), plain) = let same : Some op_one ≡ Some op = found in cc

-- a placeholder stands for no declaring phylum, and for none that is not there
no_placeholder_declares : WellFormed spaces (hole 1) (kinds.Phylum 1) → ⊥
no_placeholder_declares ((none, kind, there, quiet), plain) = true≢false (quiet 0)

-- an observed node is in no tree of a language
observed_is_no_tree : (f : Fragment) → WellFormed constants (observed f) (kinds.Phylum 0) → ⊥
observed_is_no_tree f (fits, plain) = plain

observed_inside_neither : WellFormed constants (plus_of zero_leaf (observed zero_leaf)) (kinds.Phylum 0) → ⊥
observed_inside_neither (fits, ((left, op), plain)) = plain

free_value_is_no_tree : WellFormed constants (plus_of zero_leaf anything) (kinds.Phylum 0) → ⊥
free_value_is_no_tree ((k, left, fits), plain) = fits

complete : (IsComplete (plus_of zero_leaf zero_leaf)) × (IsComplete (block (ending 0 false)))
complete = (((tt, tt), tt), (tt, refl))

unfinished_is_not_complete : IsComplete (block (ending 0 true)) → ⊥
unfinished_is_not_complete (f, e) = true≢false e

-- ---- fillings

zero_is_complete : WellFormed constants zero_leaf (kinds.Phylum 0) × IsComplete zero_leaf
zero_is_complete = (((op_zero, refl, refl, refl), tt), tt)

plus_filled : Fills constants (plus_of zero_leaf (hole 0)) (plus_of zero_leaf zero_leaf)
plus_filled = (with_child (operator 2) zero_leaf, zero_leaf, refl, (operator 2, zero_leaf, refl, refl, refl), zero_is_complete)

-- another operator is no filling
zero_stays : Fills constants zero_leaf (operator 1) → ⊥
zero_stays e = cc

-- a list of one block, empty inside
abbrev blocks : Fragment → Fragment
blocks end = cell 0 (block (ending 0 false)) end

blocks_fit : WellFormed spaces (blocks (ending 0 false)) (kinds.List 0) × IsComplete (blocks (ending 0 false))
blocks_fit = (
  ((refl, refl, list_items, refl, (kinds.List 0, (op_blk, refl, refl, refl), (refl, refl, (list_items, refl, λ e. refl))), (refl, refl, (list_items, refl, λ e. refl)), tt), ((tt, tt), tt)),
  ((tt, refl), refl),
)

-- an unfinished list takes further elements behind its own, a finished one none
lengthened : Fills spaces (blocks (ending 0 true)) (blocks (blocks (ending 0 false)))
lengthened = (block (ending 0 false), blocks (ending 0 false), refl, (operator 0, ending 0 false, refl, refl, refl), blocks_fit)

empty_lengthened : Fills spaces (ending 0 true) (blocks (ending 0 false))
empty_lengthened = blocks_fit

finished_stays : Fills spaces (blocks (ending 0 false)) (blocks (blocks (ending 0 false))) → ⊥
finished_stays (e, r, is, element, rest) = let same : blocks (ending 0 false) ≡ r = cc in cc

-- a filling is finished
not_left_unfinished : Fills spaces (ending 0 true) (ending 0 true) → ⊥
not_left_unfinished (fits, end) = true≢false end

-- ---- printable

feed_is_shown : IsShown 10
feed_is_shown = inl refl

feeds_are_ascii : IsAscii (10 ∷ 10 ∷ [])
feeds_are_ascii zero = lit< tt
feeds_are_ascii (suc zero) = lit< tt
feeds_are_ascii (suc (suc i)) = lit< tt

texts_of_feeds : IsPrintable (with_text (with_name (operator 0) (codes "x")) (10 ∷ 10 ∷ []))
texts_of_feeds = ((tt, lit≤ tt), lit≤ tt, subst (λ cs. AllByRecursion IsShown cs) (sym (chars-IsAscii (10 ∷ 10 ∷ []) feeds_are_ascii)) (inl refl, (inl refl, tt)))
