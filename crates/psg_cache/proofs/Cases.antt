-- Worked cases.
use Rattle.std.specs.Prelude.{ℕ, ◌≡◌, ◌+◌, true, false, List, [], ◌∷◌, refl}
use Rattle.psg_grammar.specs.Fragments.{Fragment, hole, ending, cell, operator, with_child, with_name, with_number}
use Rattle.psg_grammar.specs.Paths.{replaced, inserted, removed, ended}
use Rattle.psg_terms.specs.Terms.{Term}
use Rattle.psg_grammar.specs.declared.types.Kind.TheVariants as kinds
use Rattle.psg_eval.specs.declared.summary.SummaryParts.{SummaryParts}
use Rattle.psg_cache.specs.Annotated.{Annotated, topped, above}
use Rattle.psg_cache.specs.Blames.{culprits_in}
use Rattle.psg_cache.specs.Diff.{diff_of}
use Rattle.psg_grammar.specs.Work.{climb_of, work_of}

-- plus(?Exp,?Exp)
abbrev sum_of : Fragment → Fragment → Fragment
sum_of a b = with_child (with_child (operator 3) a) b

abbrev ref : List ℕ → Fragment
ref n = with_name (operator 5) n

-- assign x (t)
abbrev assign : List ℕ → Fragment → Fragment
assign n t = with_child (with_name (operator 7) n) t

-- three statements, unfinished
abbrev three : Fragment
three = cell 1 (assign (120 ∷ []) (sum_of (hole 0) (hole 0))) (cell 1 (hole 2) (cell 1 (assign (121 ∷ []) (ref (120 ∷ []))) (ending 1 true)))

work-three : work_of three ≡ 11
work-three = refl

climb-three : climb_of three (0 ∷ 0 ∷ 1 ∷ []) ≡ 3
climb-three = refl

climb-last : climb_of three (2 ∷ 0 ∷ []) ≡ 4
climb-last = refl

-- refine at the first statement: one of the leaf, plus, assign, cell 0
refine-first : diff_of three (replaced (0 ∷ 0 ∷ 1 ∷ []) (ref (121 ∷ [])) three) ≡ 4
refine-first = refl

-- a new literal is one
number-changed : diff_of (with_number (operator 9) 1) (with_number (operator 9) 2) ≡ 1
number-changed = refl

-- nothing changed
nothing-changed : diff_of three (replaced (2 ∷ 0 ∷ []) (ref (120 ∷ [])) three) ≡ 0
nothing-changed = refl

-- closing: the end and each cell
closed : diff_of three (ended false three) ≡ 4
closed = refl

-- an element less, by places: the element at 1, and all cells
shorter : diff_of three (removed 1 three) ≡ 2 + 3
shorter = refl

-- an element more at the front, by places
longer : diff_of three (inserted 0 (hole 2) three) ≡ (1 + (4 + 1)) + (2 + 5)
longer = refl

-- another operator is made whole
other : diff_of (ref (120 ∷ [])) (sum_of (hole 0) (ref (120 ∷ []))) ≡ 3
other = refl

-- two elements go wrong by themselves, so the list above them is none of the culprits
abbrev known : List (List Term) → SummaryParts
known rows = record { kind = kinds.List 1; header = record { names = []; unfinished = []; twice = false }; seen = 0; rel = rows }

abbrev leaf : List (List Term) → Annotated
leaf rows = topped (hole 2) (known rows) [] 0

below-first : culprits_in (above (above (above (topped three (known []) [] 0) (leaf [])) (leaf ([] ∷ []))) (leaf [])) ≡ (0 ∷ []) ∷ (2 ∷ []) ∷ []
below-first = refl

-- the elements are good, and the list is not
itself : culprits_in (above (topped three (known []) [] 0) (leaf ([] ∷ []))) ≡ [] ∷ []
itself = refl

good : culprits_in (above (topped three (known ([] ∷ [])) [] 0) (leaf ([] ∷ []))) ≡ []
good = refl
