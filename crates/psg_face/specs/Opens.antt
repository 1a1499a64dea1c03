-- The open places of a program, and where Tab leads.
use Rattle.std.specs.Prelude.{ℕ, suc, ◌-◌, ◌==◌, ◌&&◌, ◌||◌, Bool, true, false, cond, List, [], ◌∷◌, ◌++◌, Option, Some}
use Rattle.std.specs.Prelude.{None}
use Rattle.std.specs.Prelude.{length, slice_get, nat_lt}
use Rattle.psg_grammar.specs.Fragments.{Fragment, hole, ending, cell, operator, with_child, with_name, with_number}
use Rattle.psg_grammar.specs.Fragments.{with_text, anything, observed, children_of}
use Rattle.psg_grammar.specs.Paths.{Path}
use Rattle.psg_tree.specs.declared.tree.Part.{Part}
use Rattle.psg_tree.specs.declared.tree.Part.TheVariants.{Sub}
use Rattle.psg_unparse.specs.Splicing.{leads_along}

-- The paths of the placeholders and of the `...` of the unfinished lists of the node at the path, in the order of the
-- text. The first element of a list has the number n.
abbrev pub opens_from : Path → ℕ → Fragment → List Path
opens_from path n (hole p) = path ∷ []
opens_from path n (ending l u) = cond u ((path ++ n ∷ []) ∷ []) []
opens_from path n (cell l e r) = opens_from (path ++ n ∷ []) 0 e ++ opens_from path (suc n) r
opens_from path n (operator o) = []
opens_from path n (with_child f t) = opens_from path n f ++ opens_from (path ++ length (children_of f) ∷ []) 0 t
opens_from path n (with_name f x) = opens_from path n f
opens_from path n (with_number f x) = opens_from path n f
opens_from path n (with_text f x) = opens_from path n f
opens_from path n anything = []
opens_from path n (observed f) = opens_from path n f

abbrev pub opens : Fragment → List Path
opens f = opens_from [] 0 f

-- ---- where Tab leads

-- The first path leads along the second one, which goes on, or has the lower step where they part. This is the order of
-- the text, but that a node is before what is in it.
abbrev pub is_before : Path → Path → Bool
is_before [] [] = false
is_before [] (l ∷ other) = true
is_before (k ∷ path) [] = false
is_before (k ∷ path) (l ∷ other) = nat_lt k l || ((k == l) && is_before path other)

-- the first one that passes a test, and the last one
abbrev pub first_with : (Path → Bool) → List Path → Option Path
first_with test [] = None
first_with test (p ∷ ps) = cond (test p) (Some p) (first_with test ps)

abbrev pub last_with : (Path → Bool) → Option Path → List Path → Option Path
last_with test last [] = last
last_with test last (p ∷ ps) = last_with test (cond (test p) (Some p) last) ps

abbrev pub first_after : Path → List Path → Option Path
first_after path paths = first_with (λ other. is_before path other) paths

abbrev pub last_before : Path → List Path → Option Path
last_before path paths = last_with (λ other. is_before other path) None paths

abbrev pub first_below : Path → List Path → Option Path
first_below path paths = first_with (λ other. leads_along path other) paths

-- the first path that there is
abbrev pub first_of : Option Path → Option Path → Path → Path
first_of (Some found) far path = found
first_of None (Some found) path = found
first_of None None path = path

-- the next open place after the path, else the first one, else the path
abbrev pub next_open : Fragment → Path → Path
next_open f path = first_of (first_after path (opens f)) (slice_get (opens f) 0) path

-- the last open place before the path, else the last one, else the path
abbrev pub previous_open : Fragment → Path → Path
previous_open f path = first_of (last_before path (opens f)) (slice_get (opens f) (length (opens f) - 1)) path

-- the first open place at the path or below, else the next one after it
abbrev pub open_below : Fragment → Path → Path
open_below f path = first_of (first_below path (opens f)) (Some (next_open f path)) path

-- ---- steps of the walk

abbrev pub children_in : Part → ℕ
children_in (Sub t) = 1
children_in _ = 0

-- those of a part of the node at the path, which has c children before it
abbrev pub part_opens : Path → ℕ → Part → List Path
part_opens path c (Sub t) = opens_from (path ++ c ∷ []) 0 t
part_opens path c _ = []

-- those of elements, of which the first has the number k
abbrev pub elements_opens : Path → ℕ → List Fragment → List Path
elements_opens path k [] = []
elements_opens path k (e ∷ es) = opens_from (path ++ k ∷ []) 0 e ++ elements_opens path (suc k) es
