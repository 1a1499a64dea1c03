-- The steps in which the relation of a node is made, and what is too wide or too heavy.
use Rattle.std.specs.Prelude.{ℕ, zero, suc, ◌≡◌, ◌⊎◌, ◌<◌, ◌≤◌, ◌+◌, Bool, true, cond, nat_lt, List, [], ◌∷◌, ◌++◌}
use Rattle.std.specs.Prelude.{length, slice_get, Option, Some, None}
use Rattle.psg_terms.specs.Terms.{Term}
use Rattle.psg_terms.specs.Relations.{IsIn}
use Rattle.psg_terms.specs.Weight.{PassesLimit, weight_of}
use Rattle.psg_grammar.specs.declared.types.Definition.{Definition}
use Rattle.psg_grammar.specs.Fragments.{Fragment, hole, ending, cell, operator, with_child, with_name, with_number}
use Rattle.psg_grammar.specs.Fragments.{with_text, anything, observed, children_of}
use Rattle.psg_terms.specs.Names.{Name}
use Rattle.psg_grammar.specs.Lookups.{is_scope}
use Rattle.psg_grammar.specs.Paths.{Path, node_at, observe}
use Rattle.psg_grammar.specs.Relations.{IsRelationOf, IsInsideRelationOf}

-- the fragment with only the first n children, and any value in place of each other one
abbrev pub first_children : ℕ → Fragment → Fragment
first_children n (with_child f t) =
    with_child (first_children n f) (cond (nat_lt (length (children_of f)) n) t anything)
first_children n (with_name f m) = with_name (first_children n f) m
first_children n (with_number f m) = with_number (first_children n f) m
first_children n (with_text f m) = with_text (first_children n f) m
first_children n (observed f) = observed (first_children n f)
first_children zero (cell l e r) = cell l anything anything
first_children (suc zero) (cell l e r) = cell l e anything
first_children (suc (suc n)) (cell l e r) = cell l e r
first_children n (hole p) = hole p
first_children n (ending l u) = ending l u
first_children n (operator o) = operator o
first_children n anything = anything

-- how many children are added one by one
abbrev pub children_count : Fragment → ℕ
children_count (cell l e r) = 2
children_count (with_child f t) = length (children_of (with_child f t))
children_count (with_name f m) = length (children_of f)
children_count (with_number f m) = length (children_of f)
children_count (with_text f m) = length (children_of f)
children_count (observed f) = children_count f
children_count (hole p) = 0
children_count (ending l u) = 0
children_count (operator o) = 0
children_count anything = 0

-- the last step, which for a scope operator drops the names that end there
abbrev pub last_step : Definition → Fragment → ℕ
last_step def f = cond (is_scope def f) (children_count f + 1) (children_count f)

-- the rows of a step: up to the last child with the inside names, then those of the whole
pub data IsStepRelation (def : Definition) (f : Fragment) : ℕ → List (List Term) → Type 0 where
  adding : (n : ℕ) (rows : List (List Term)) → n ≤ children_count f → IsInsideRelationOf def (first_children n f) rows
      → IsStepRelation def f n rows
  closing : (n : ℕ) (rows : List (List Term)) → n ≡ children_count f + 1 → is_scope def f ≡ true
      → IsRelationOf def f rows → IsStepRelation def f n rows

-- the relation of the fragment's step of this number passes the limit
abbrev pub PassesAt : Definition → Fragment → ℕ → Type 0
PassesAt def f n = (rows : List (List Term)) × IsStepRelation def f n rows × PassesLimit rows

-- a part of a tree with its path; a list's end and cells have the list's path
pub record Place : Type 0 where
  pub path : List ℕ
  pub part : Fragment
  pub step : ℕ

-- the places of the fragment's steps from 0 up to this number
abbrev pub steps_up_to : List ℕ → Fragment → ℕ → List Place
steps_up_to path f zero = record { path = path; part = f; step = 0 } ∷ []
steps_up_to path f (suc n) = steps_up_to path f n ++ record { path = path; part = f; step = suc n } ∷ []

-- the places of all steps of the fragment itself, without those of its children
abbrev pub own_steps : Definition → List ℕ → Fragment → List Place
own_steps def path f = steps_up_to path f (last_step def f)

-- the cells of a list from the last to the first, after its end
abbrev pub list_steps : Definition → List ℕ → Fragment → List Place
list_steps def path (cell l e r) = list_steps def path r ++ own_steps def path (cell l e r)
list_steps def path (ending l u) = own_steps def path (ending l u)
list_steps def path (observed f) = list_steps def path f
list_steps def path _ = []

-- All steps in their order: children, then the node; elements, then the end, then the cells.
-- steps_below has those of the children or elements, the first of which has the number n.
abbrev mutual
  pub steps_of : Definition → List ℕ → Fragment → List Place
  steps_of def path (hole p) = own_steps def path (hole p)
  steps_of def path (ending l u) = own_steps def path (ending l u)
  steps_of def path (cell l e r) = steps_of def (path ++ 0 ∷ []) e ++ steps_below def path 1 r
      ++ list_steps def path (cell l e r)
  steps_of def path (operator o) = own_steps def path (operator o)
  steps_of def path (with_child f t) = steps_below def path 0 f ++ steps_of def (path ++ length (children_of f) ∷ []) t
      ++ own_steps def path (with_child f t)
  steps_of def path (with_name f m) = steps_below def path 0 f ++ own_steps def path (with_name f m)
  steps_of def path (with_number f m) = steps_below def path 0 f ++ own_steps def path (with_number f m)
  steps_of def path (with_text f m) = steps_below def path 0 f ++ own_steps def path (with_text f m)
  steps_of def path anything = []
  steps_of def path (observed f) = steps_of def path f

  pub steps_below : Definition → List ℕ → ℕ → Fragment → List Place
  steps_below def path n (hole p) = []
  steps_below def path n (ending l u) = []
  steps_below def path n (cell l e r) = steps_of def (path ++ n ∷ []) e ++ steps_below def path (n + 1) r
  steps_below def path n (operator o) = []
  steps_below def path n (with_child f t) = steps_below def path n f
      ++ steps_of def (path ++ length (children_of f) ∷ []) t
  steps_below def path n (with_name f m) = steps_below def path n f
  steps_below def path n (with_number f m) = steps_below def path n f
  steps_below def path n (with_text f m) = steps_below def path n f
  steps_below def path n anything = []
  steps_below def path n (observed f) = steps_below def path n f

-- the first step that passes the limit
pub record IsFirstWide (def : Definition) (f : Fragment) (place : Place) : Type 0 where
  pub number : ℕ
  pub found : slice_get (steps_of def [] f) number ≡ Some place
  pub passes : PassesAt def place.part place.step
  pub first : (k : ℕ) (earlier : Place) → k < number → slice_get (steps_of def [] f) k ≡ Some earlier
      → PassesAt def earlier.part earlier.step → ⊥

-- some step passes the limit
abbrev pub IsWide : Definition → Fragment → Type 0
IsWide def f = (place : Place) × IsIn place (steps_of def [] f) × PassesAt def place.part place.step

-- none of the steps passes the limit
abbrev pub AreWithin : Definition → List Place → Type 0
AreWithin def places = (place : Place) → IsIn place places → PassesAt def place.part place.step → ⊥

-- the step passes the limit, and none before it does
pub record IsFirstOf (def : Definition) (places : List Place) (place : Place) : Type 0 where
  pub front : List Place
  pub rest : List Place
  pub split : places ≡ front ++ place ∷ rest
  pub within : AreWithin def front
  pub passes : PassesAt def place.part place.step

-- Of a list the cells from that of the element of the number to the first: each has the one after it as its child.
abbrev pub steps_at : Definition → Path → ℕ → Fragment → List Place
steps_at def path zero (cell l e r) = own_steps def path (cell l e r)
steps_at def path (suc k) (cell l e r) = steps_at def path k r ++ own_steps def path (cell l e r)
steps_at def path k f = own_steps def path f

-- the steps of a child that is there
abbrev pub steps_of_some : (Fragment → List Place) → Option Fragment → List Place
steps_of_some steps None = []
steps_of_some steps (Some t) = steps t

-- The places of the steps of the nodes above the node at the path, the innermost node first, in the order in which a
-- climb makes them. Those below other children are not among them.
abbrev pub steps_above : Definition → Path → Path → Fragment → List Place
steps_above def above [] f = []
steps_above def above (k ∷ path) f =
    steps_of_some (λ t. steps_above def (above ++ k ∷ []) path t) (slice_get (children_of f) k)
    ++ steps_at def above k f

-- The own relation of the node at the path with its value repeated passes the limit, or a step of a node above it does
-- with that value as one more column. The own steps below the last are not looked at again.
abbrev pub IsWideAt : Definition → Fragment → Path → Type 0
IsWideAt def f path =
    ((node : Fragment) × (node_at f path ≡ Some node) × (rows : List (List Term))
    × IsRelationOf def (observed node) rows × PassesLimit rows)
    ⊎ ((place : Place) × IsIn place (steps_above def [] path (observe path f)) × PassesAt def place.part place.step)

-- The weights of the relations of all nodes and list suffixes add up to n; below an operator: of its children's.
mutual
  pub data HasWeights (def : Definition) : Fragment → ℕ → Type 0 where
    of_node : {f : Fragment} (m : ℕ) (rows : List (List Term)) → BelowWeigh def f m → IsRelationOf def f rows
        → HasWeights def f (m + weight_of rows)

  pub data BelowWeigh (def : Definition) : Fragment → ℕ → Type 0 where
    below_hole : {p : ℕ} → BelowWeigh def (hole p) 0
    below_ending : {l : ℕ} {u : Bool} → BelowWeigh def (ending l u) 0
    below_operator : {o : ℕ} → BelowWeigh def (operator o) 0
    below_cell : {l : ℕ} {e r : Fragment} (m n : ℕ) → HasWeights def e m → HasWeights def r n
        → BelowWeigh def (cell l e r) (m + n)
    below_child : {f t : Fragment} (m n : ℕ) → BelowWeigh def f m → HasWeights def t n
        → BelowWeigh def (with_child f t) (m + n)
    below_name : {f : Fragment} {x : Name} {m : ℕ} → BelowWeigh def f m → BelowWeigh def (with_name f x) m
    below_number : {f : Fragment} {x m : ℕ} → BelowWeigh def f m → BelowWeigh def (with_number f x) m
    below_text : {f : Fragment} {x : Name} {m : ℕ} → BelowWeigh def f m → BelowWeigh def (with_text f x) m
    below_observed : {f : Fragment} {m : ℕ} → BelowWeigh def f m → BelowWeigh def (observed f) m

-- all relations of the fragment together pass the limit of four million
abbrev pub IsHeavy : Definition → Fragment → Type 0
IsHeavy def f = (n : ℕ) × HasWeights def f n × (4000000 < n)
