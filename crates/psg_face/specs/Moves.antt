-- Where the arrows lead. A chosen path leads to a node, or to the `...` of an unfinished list, which is the path of the
-- list with the number of its elements as the last step.
use Rattle.std.specs.Prelude.{ℕ, ◌+◌, ◌-◌, ◌==◌, ◌&&◌, ◌||◌, Bool, false, [], ◌∷◌, ◌++◌, Option, Some, None}
use Rattle.std.specs.Prelude.{cond, length, slice_get, is_some}
use Rattle.psg_grammar.specs.Fragments.{Fragment, ending, cell, children_of}
use Rattle.psg_grammar.specs.Paths.{Path, node_at}

-- whether the node is a list that is not finished
abbrev pub is_open_list : Fragment → Bool
is_open_list (ending l u) = u
is_open_list (cell l e r) = is_open_list r
is_open_list _ = false

-- the step leads from the node to its `...`
abbrev pub is_end : Fragment → ℕ → Bool
is_end f k = is_open_list f && (length (children_of f) == k)

abbrev pub is_end_at : Option Fragment → ℕ → Bool
is_end_at None k = false
is_end_at (Some f) k = is_end f k

-- the path without its last step; the top stays the top
abbrev pub parent_of : Path → Path
parent_of [] = []
parent_of (k ∷ []) = []
parent_of (k ∷ (l ∷ path)) = k ∷ parent_of (l ∷ path)

-- the last step of the path that begins with this one
abbrev pub last_step : ℕ → Path → ℕ
last_step k [] = k
last_step k (l ∷ path) = last_step l path

-- the path leads to the `...` of an unfinished list
abbrev pub is_dots : Fragment → Path → Bool
is_dots f [] = false
is_dots f (k ∷ path) = is_end_at (node_at f (parent_of (k ∷ path))) (last_step k path)

-- the path leads to a node, or to the `...` of an unfinished list
abbrev pub leads : Fragment → Path → Bool
leads f path = is_some (node_at f path) || is_dots f path

-- the other path where it leads somewhere
abbrev pub led_to : Fragment → Path → Path → Path
led_to f path other = cond (leads f other) other path

abbrev pub after : ℕ → ℕ
after k = k + 1

-- the path with another last step
abbrev pub with_last : (ℕ → ℕ) → Path → Path
with_last g [] = []
with_last g (k ∷ path) = parent_of (k ∷ path) ++ g (last_step k path) ∷ []

abbrev pub to_child : Fragment → Path → Path
to_child f path = led_to f path (path ++ 0 ∷ [])

abbrev pub to_next : Fragment → Path → Path
to_next f [] = []
to_next f (k ∷ path) = led_to f (k ∷ path) (with_last after (k ∷ path))

abbrev pub to_previous : Path → Path
to_previous path = with_last (λ k. k - 1) path

-- the step, and the steps after it from the child to which it leads
abbrev pub far_by : Fragment → ℕ → (Fragment → Path) → Option Fragment → Path
far_by f k further None = cond (is_end f k) (k ∷ []) []
far_by f k further (Some child) = k ∷ further child

-- the path as far as it leads
abbrev pub as_far : Fragment → Path → Path
as_far f [] = []
as_far f (k ∷ path) = far_by f k (λ child. as_far child path) (slice_get (children_of f) k)
