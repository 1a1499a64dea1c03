-- Worked cases of the exported text. For proofs alone.
use Rattle.std.specs.Prelude.{ℕ, false, List, [], ◌∷◌, codes}
use Rattle.psg_grammar.specs.Fragments.{Fragment, ending, cell, operator, with_child, with_name, with_number, with_text}

abbrev pub list : ℕ → List Fragment → Fragment
list l [] = ending l false
list l (e ∷ es) = cell l e (list l es)

-- `a()`, as a constructor, a term and a specimen
abbrev pub con : List ℕ → Fragment
con n = with_child (with_name (operator 5) n) (list 2 [])

abbrev pub con1 : List ℕ → List ℕ → Fragment
con1 n a = with_child (with_name (operator 5) n) (list 2 (with_name (operator 6) a ∷ []))

abbrev pub tcon : List ℕ → List Fragment → Fragment
tcon n ts = with_child (with_name (operator 21) n) (list 5 ts)

abbrev pub tvar : List ℕ → Fragment
tvar n = with_name (operator 22) n

abbrev pub spec : List ℕ → Fragment
spec n = with_child (with_name (operator 23) n) (list 6 [])

abbrev pub row : Fragment → List Fragment → Fragment
row h cs = with_child (with_child (operator 20) h) (list 5 cs)

abbrev pub first_tree : Fragment
first_tree = list 0 (
    with_child (with_name (operator 0) (codes "T")) (list 1 (con (codes "a") ∷ con (codes "b") ∷ []))
    ∷ with_name (with_name (operator 1) (codes "P")) (codes "T")
    ∷ with_child (with_child (with_child (with_name (with_name (operator 3) (codes "x")) (codes "P")) (operator 7))
    (list 3 (with_text (operator 13) (codes "x") ∷ []))) (list 4 (row (tcon (codes "a") []) [] ∷ []))
    ∷ with_child (with_child (with_name (operator 4) (codes "P")) (tcon (codes "a") [])) (spec (codes "x"))
    ∷ [])

abbrev pub second_tree : Fragment
second_tree = list 0 (
    with_child (with_name (operator 0) (codes "T")) (list 1 (con (codes "a") ∷ con1 (codes "b") (codes "T") ∷ []))
    ∷ with_name (with_name (operator 2) (codes "P")) (codes "T")
    ∷ with_child (with_child (with_child (with_name (with_name (operator 3) (codes "x")) (codes "P"))
    (with_number (operator 10) 12))
    (list 3 (with_name (operator 14) (codes "P") ∷ with_text (operator 13) (codes "\"\\") ∷ operator 17
    ∷ with_name (operator 14) (codes "number") ∷ [])))
    (list 4 (row (tcon (codes "b") (tvar (codes "q") ∷ [])) (tvar (codes "q") ∷ tcon (codes "a") [] ∷ []) ∷ []))
    ∷ [])
