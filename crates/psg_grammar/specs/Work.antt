-- How many evaluations a tree takes, and those of the ancestors of a node.
use Rattle.std.specs.Prelude.{ℕ, ◌+◌, [], ◌∷◌, slice_get, option_map, unwrap_or}
use Rattle.psg_grammar.specs.Fragments.{Fragment, hole, ending, cell, operator, with_child, with_name, with_number}
use Rattle.psg_grammar.specs.Fragments.{with_text, anything, observed, children_of}
use Rattle.psg_grammar.specs.Paths.{Path}

-- one of each operator and placeholder, and m + 1 of a list of m elements
abbrev pub work_of : Fragment → ℕ
work_of (hole p) = 1
work_of (ending l u) = 1
work_of (cell l e r) = work_of e + work_of r + 1
work_of (operator o) = 1
work_of (with_child f t) = work_of f + work_of t
work_of (with_name f n) = work_of f
work_of (with_number f n) = work_of f
work_of (with_text f t) = work_of f
work_of anything = 1
work_of (observed f) = work_of f

-- of the elements of a list
abbrev pub works_of : Fragment → ℕ
works_of (cell l e r) = work_of e + works_of r
works_of _ = 0

-- of a node that the path leaves by the child k: one of an operator, and the cells up to the element of a list
abbrev pub leaving : Fragment → ℕ → ℕ
leaving (cell l e r) k = k + 1
leaving (ending l u) k = k + 1
leaving _ k = 1

-- of the ancestors of the node at the path
abbrev pub climb_of : Fragment → Path → ℕ
climb_of f [] = 0
climb_of f (k ∷ path) = leaving f k + unwrap_or (option_map (λ t. climb_of t path) (slice_get (children_of f) k)) 0
