-- The first placeholder or unfinished list of a tree, by recursion on the tree. For proofs alone.
use Rattle.std.specs.Prelude.{ℕ, ◌+◌, Bool, true, false, cond, List, [], ◌∷◌, ◌++◌, length, Option, Some, None}
use Rattle.psg_grammar.specs.Fragments.{Fragment, hole, ending, cell, operator, with_child, with_name, with_number}
use Rattle.psg_grammar.specs.Fragments.{with_text, anything, observed, children_of}
use Rattle.psg_grammar.specs.Paths.{Path}

-- the first one that is there
abbrev pub first_of : Option Path → Option Path → Option Path
first_of (Some path) other = Some path
first_of None other = other

-- the node is a placeholder or a list that may go on
abbrev pub is_open_ended : Fragment → Bool
is_open_ended (hole p) = true
is_open_ended (ending l u) = u
is_open_ended (cell l e r) = is_open_ended r
is_open_ended _ = false

-- open_from: of the tree at the path; open_below: below the node at the path, where the first element of a list has the
-- number n
abbrev mutual
  pub open_from : Path → Fragment → Option Path
  open_from at (hole p) = Some at
  open_from at (ending l u) = cond u (Some at) None
  open_from at (cell l e r) =
      cond (is_open_ended r) (Some at) (first_of (open_from (at ++ 0 ∷ []) e) (open_below at 1 r))
  open_from at (operator o) = None
  open_from at (with_child f t) = first_of (open_below at 0 f) (open_from (at ++ length (children_of f) ∷ []) t)
  open_from at (with_name f n) = open_below at 0 f
  open_from at (with_number f n) = open_below at 0 f
  open_from at (with_text f t) = open_below at 0 f
  open_from at anything = None
  open_from at (observed f) = open_below at 0 f

  pub open_below : Path → ℕ → Fragment → Option Path
  open_below at n (hole p) = None
  open_below at n (ending l u) = None
  open_below at n (cell l e r) = first_of (open_from (at ++ n ∷ []) e) (open_below at (n + 1) r)
  open_below at n (operator o) = None
  open_below at n (with_child f t) = first_of (open_below at n f) (open_from (at ++ length (children_of f) ∷ []) t)
  open_below at n (with_name f x) = open_below at n f
  open_below at n (with_number f x) = open_below at n f
  open_below at n (with_text f x) = open_below at n f
  open_below at n anything = None
  open_below at n (observed f) = open_below at n f

-- among nodes whose first one is the child of the number n
abbrev pub first_among : Path → ℕ → List Fragment → Option Path
first_among at n [] = None
first_among at n (c ∷ cs) = first_of (open_from (at ++ n ∷ []) c) (first_among at (n + 1) cs)

-- of the whole tree
abbrev pub open_in : Fragment → Option Path
open_in f = open_from [] f
