-- Worked cases of how lines are spelled.
use Rattle.std.proofs.Common.{◌≡◌, ℕ, true, false, zero, suc, List, [], ◌∷◌, ◌++◌, refl, arith}
use Rattle.std.proofs.Math.Bool.{and-false}
use Rattle.std.specs.Prelude.{codes, Some, None}
use Rattle.psg_deflines.specs.WrittenTerms.{WrittenTerm, variable, named, apply, term_depth, IsShallowTerm}
use Rattle.psg_deflines.specs.WrittenTrees.{operator, with_tree, with_name, list_end, list_rest, element, place, tree_parts, tree_depth}
use Rattle.psg_deflines.specs.Written.{IsWritten, ends_word}
use Rattle.psg_deflines.specs.Forms.{SpellsLine, parts_of, item_part}
use Rattle.psg_deflines.specs.declared.lines.LineItem.TheVariants as items
use Rattle.psg_deflines.specs.Entries.{takes_cases}
use Rattle.psg_deflines.specs.declared.lines.Line.TheVariants as lines

-- one space between two parts
abbrev pub spaced : List (List ℕ) → List ℕ
spaced [] = []
spaced (p ∷ []) = p
spaced (p ∷ q ∷ rest) = p ++ 32 ∷ spaced (q ∷ rest)

pub written-spaced : (parts : List (List ℕ)) → IsWritten parts (spaced parts)
written-spaced [] = refl
written-spaced (p ∷ []) = refl
written-spaced (p ∷ q ∷ rest) = (1, spaced (q ∷ rest), refl, and-false (ends_word p), written-spaced (q ∷ rest))

-- an entity line
pub entity_line : SpellsLine (codes "entity Ent") (lines.Space [] (codes "Ent"))
entity_line = record { form = (tt, refl); written = written-spaced (parts_of (lines.Space [] (codes "Ent"))) }

-- a row of a name in use: the entity of the name has the sort of the node; no space stands beside a bracket
pub row_line : SpellsLine (codes "row ?T : var(?T)") (lines.Row (variable (codes "T")) (apply (named (codes "var")) (variable (codes "T")) ∷ []))
row_line = record {
  form = (refl, ((refl, refl, refl), tt));
  written = (1, codes "?T : var(?T)", refl, refl, (1, codes ": var(?T)", refl, refl, (1, codes "var(?T)", refl, refl, (0, codes "(?T)", refl, refl, (0, codes "?T)", refl, refl, (0, codes ")", refl, refl, refl))))));
}

-- the parts of a list with a rest, and of a list of one element
pub list_parts : tree_parts (element (place (codes "Exp") (variable (codes "T"))) (list_rest (codes "Args") (variable (codes "Ts"))))
    ≡ codes "[" ∷ codes "hole" ∷ codes "(" ∷ codes "Exp" ∷ codes "," ∷ codes "?T" ∷ codes ")" ∷ codes "|" ∷ codes "hole" ∷ codes "(" ∷ codes "Args" ∷ codes "," ∷ codes "?Ts" ∷ codes ")" ∷ codes "]" ∷ []
list_parts = refl

pub operator_parts : tree_parts (with_tree (with_tree (operator (codes "body")) list_end) (operator (codes "skip")))
    ≡ codes "body" ∷ codes "(" ∷ codes "[" ∷ codes "]" ∷ codes "," ∷ codes "skip" ∷ codes ")" ∷ []
operator_parts = refl

-- a term with n constructors round a variable
abbrev nest : ℕ → WrittenTerm
nest zero = variable (codes "T")
nest (suc n) = apply (named (codes "arr")) (nest n)

nest-31 : term_depth (nest 31) ≡ 32
nest-31 = refl

nest-32 : term_depth (nest 32) ≡ 33
nest-32 = refl

pub deepest : IsShallowTerm (nest 31)
deepest = omega (arith, nest-31)

pub too_deep : IsShallowTerm (nest 32) → ⊥
too_deep h = omega (arith, h, nest-32)

-- a list counts one, and so do the operators in it; a name counts nothing
pub depth_of_list : tree_depth (element (with_name (operator (codes "a")) (codes "x")) list_end) ≡ 2
depth_of_list = refl

-- cases may follow a hole row without a specimen until one with a specimen stands between
pub case_follows : takes_cases false (lines.Hole (codes "Exp") (variable (codes "T")) None ∷ lines.Space [] (codes "Ent") ∷ []) ≡ true
case_follows = refl

pub no_case_follows : takes_cases false (lines.Hole (codes "A") (variable (codes "T")) None ∷ lines.Hole (codes "B") (variable (codes "T")) (Some list_end) ∷ []) ≡ false
no_case_follows = refl

-- a space of version 2, and a name position in it
pub space_line : SpellsLine (codes "space lab:Unit") (lines.Space (codes "lab") (codes "Unit"))
space_line = record { form = (refl, refl); written = (1, codes "lab:Unit", refl, refl, (0, codes ":Unit", refl, refl, (0, codes "Unit", refl, refl, refl))) }

-- a name of a space stands at its word, with no space between
pub apart_no_item : item_part (items.Refers (codes "lab")) ≡ codes "refers@lab"
apart_no_item = refl
