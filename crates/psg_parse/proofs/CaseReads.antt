-- What some texts are read as, in the language of the tests.
use Rattle.std.proofs.Common.{◌≤◌, inr, ℕ, true, [], ◌∷◌, codes, refl, lit<, lit≤}
use Rattle.psg_grammar.specs.declared.types.Kind.TheVariants as kinds
use Rattle.psg_grammar.specs.declared.types.Level.TheVariants as levels
use Rattle.psg_grammar.specs.declared.types.Item.TheVariants as items
use Rattle.psg_grammar.specs.declared.types.Definition.{Definition}
use Rattle.psg_grammar.specs.Fragments.{Fragment, hole, ending, cell, operator, with_child, with_number}
use Rattle.psg_lexis.specs.declared.token.Spanned.{Spanned}
use Rattle.psg_class.specs.Terminals.{Token, numeral, solo, symbols, placeholder, dots}
use Rattle.psg_class.specs.Yields.{TreeYields, of_hole, of_operator, in_brackets, no_items, of_word, of_number, of_slot, of_list_slot, elements, and_more}
use Rattle.psg_parse.specs.declared.fault.Goal.{Goal}
use Rattle.psg_parse.specs.Answers.{HasDeep, IsParsed}
use Rattle.psg_parse.specs.Expressions.{phylum_of, args_list, leaf_of, infix_of, list_of, expressions}

abbrev def : Definition
def = expressions (levels.InfixLeft 4) true

-- differences to the right
abbrev right : Definition
right = expressions (levels.InfixRight 5) true

-- a number
abbrev x : Token
x = numeral 7

abbrev minus : Token
minus = symbols (codes "-")

abbrev ex : Fragment
ex = with_number (operator 1) 7

abbrev difference : Fragment → Fragment → Fragment
difference f g = with_child (with_child (operator 5) f) g

ex_reads : (level : ℕ) → level ≤ 10 → TreeYields def ex 0 level 0 (x ∷ [])
ex_reads level h = of_operator 1 (leaf_of (codes "num") items.Number) refl refl h (of_number 7 no_items)

ex_right : (level : ℕ) → level ≤ 10 → TreeYields right ex 0 level 0 (x ∷ [])
ex_right level h = of_operator 1 (leaf_of (codes "num") items.Number) refl refl h (of_number 7 no_items)

-- x - x, at each level up to 4
one_reads : (level : ℕ) → level ≤ 4 → TreeYields def (difference ex ex) 0 level 0 (x ∷ minus ∷ x ∷ [])
one_reads level h = of_operator 5 (infix_of (codes "minus") (levels.InfixLeft 4) (codes "-")) refl refl h
    (of_slot ex 0 (x ∷ []) (minus ∷ x ∷ []) (ex_reads 4 (lit≤ tt)) (of_word {w = codes "-"} minus refl (of_slot ex 0 (x ∷ []) [] (ex_reads 5 (lit≤ tt)) no_items)))

one_right : (level : ℕ) → level ≤ 5 → TreeYields right (difference ex ex) 0 level 0 (x ∷ minus ∷ x ∷ [])
one_right level h = of_operator 5 (infix_of (codes "minus") (levels.InfixRight 5) (codes "-")) refl refl h
    (of_slot ex 0 (x ∷ []) (minus ∷ x ∷ []) (ex_right 6 (lit≤ tt)) (of_word {w = codes "-"} minus refl (of_slot ex 0 (x ∷ []) [] (ex_right 5 (lit≤ tt)) no_items)))

-- x - x - x in both ways
two_read : TreeYields def (difference (difference ex ex) ex) 0 0 0 (x ∷ minus ∷ x ∷ minus ∷ x ∷ [])
two_read = of_operator 5 (infix_of (codes "minus") (levels.InfixLeft 4) (codes "-")) refl refl (lit≤ tt)
    (of_slot (difference ex ex) 0 (x ∷ minus ∷ x ∷ []) (minus ∷ x ∷ []) (one_reads 4 (lit≤ tt)) (of_word {w = codes "-"} minus refl (of_slot ex 0 (x ∷ []) [] (ex_reads 5 (lit≤ tt)) no_items)))

two_right : TreeYields right (difference ex (difference ex ex)) 0 0 0 (x ∷ minus ∷ x ∷ minus ∷ x ∷ [])
two_right = of_operator 5 (infix_of (codes "minus") (levels.InfixRight 5) (codes "-")) refl refl (lit≤ tt)
    (of_slot ex 0 (x ∷ []) (minus ∷ x ∷ minus ∷ x ∷ []) (ex_right 6 (lit≤ tt)) (of_word {w = codes "-"} minus refl (of_slot (difference ex ex) 0 (x ∷ minus ∷ x ∷ []) [] (one_right 5 (lit≤ tt)) no_items)))

-- ( x - x ) stands at any level and nests once
bracketed : (level : ℕ) → TreeYields def (difference ex ex) 0 level 1 (solo 40 ∷ x ∷ minus ∷ x ∷ solo 41 ∷ [])
bracketed level = in_brackets (phylum_of (codes "Exp") true) (solo 40) (solo 41) refl refl refl refl (one_reads 0 (lit≤ tt))

-- ?Exp stands at any level
placed : (level : ℕ) → TreeYields def (hole 0) 0 level 0 (placeholder (codes "Exp") ∷ [])
placed level = of_hole (phylum_of (codes "Exp") true) refl (λ s. refl)

-- [ x , ... ]
listed : TreeYields def (with_child (operator 9) (cell 0 ex (ending 0 true))) 0 0 0 (solo 91 ∷ x ∷ solo 44 ∷ dots ∷ solo 93 ∷ [])
listed = of_operator 9 list_of refl refl (lit≤ tt)
    (of_word {w = codes "["} (solo 91) refl (of_list_slot (cell 0 ex (ending 0 true)) 0 (x ∷ solo 44 ∷ dots ∷ []) (solo 93 ∷ [])
    (elements (and_more (x ∷ []) (args_list true) (solo 44) refl refl refl (ex_reads 0 (lit≤ tt)))) (of_word {w = codes "]"} (solo 93) refl no_items)))

-- ---- within the limits and past them

abbrev at : Token → Spanned
at t = record { token = t; start = 0; end = 0 }

abbrev goal : ℕ → Goal
goal around = record { kind = kinds.Phylum 0; least = 0; around = around }

within_limits : IsParsed def (goal 399) (at (solo 40) ∷ at x ∷ at minus ∷ at x ∷ at (solo 41) ∷ []) (difference ex ex)
within_limits = record { nesting = 1; reads = bracketed 0; depth = lit≤ tt; brackets = lit≤ tt }

past_limits : HasDeep def (goal 400) (at (solo 40) ∷ at x ∷ at minus ∷ at x ∷ at (solo 41) ∷ [])
past_limits = record { tree = difference ex ex; nesting = 1; reads = bracketed 0; deep = inr (lit< tt) }
