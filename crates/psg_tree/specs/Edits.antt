-- Changes of a list at a path, and when there is none.
use Rattle.std.specs.Prelude.{ℕ, ◌≡◌, ◌<◌, ◌≤◌, Bool, length, None, Some}
use Rattle.psg_grammar.specs.Fragments.{Fragment, children_of}
use Rattle.psg_grammar.specs.Paths.{Path, node_at, change_at, IsList, inserted, removed, ended}
use Rattle.psg_tree.specs.declared.places.TreeFault.{TreeFault}
use Rattle.psg_tree.specs.declared.places.TreeFault.TheVariants as faults

-- the node is a list with such a place, and the new one has one more element before it
pub record IsLonger (node : Fragment) (place : ℕ) (new made : Fragment) : Type 0 where
  pub is_list : IsList node
  pub in_range : place ≤ length (children_of node)
  pub made_is : made ≡ inserted place new node

-- why a node does not get one more element: it is no list, or the place is after its end
abbrev pub IsLongerFault : Fragment → ℕ → TreeFault → Type 0
IsLongerFault node place faults.NoNode = ⊥
IsLongerFault node place faults.NotList = IsList node → ⊥
IsLongerFault node place faults.NoPlace = IsList node × (length (children_of node) < place)
IsLongerFault node place faults.Memory = Unit {0}

-- the node is a list with such an element, and the new one is without it
pub record IsShorter (node : Fragment) (place : ℕ) (made : Fragment) : Type 0 where
  pub is_list : IsList node
  pub in_range : place < length (children_of node)
  pub made_is : made ≡ removed place node

-- why a node does not lose an element: it is no list, or it has no element at the place
abbrev pub IsShorterFault : Fragment → ℕ → TreeFault → Type 0
IsShorterFault node place faults.NoNode = ⊥
IsShorterFault node place faults.NotList = IsList node → ⊥
IsShorterFault node place faults.NoPlace = IsList node × (length (children_of node) ≤ place)
IsShorterFault node place faults.Memory = Unit {0}

-- the node is a list, and the new one ends so
pub record IsEnded (node : Fragment) (unfinished : Bool) (made : Fragment) : Type 0 where
  pub is_list : IsList node
  pub made_is : made ≡ ended unfinished node

-- why a node is not finished or made unfinished: it is no list
abbrev pub IsEndedFault : Fragment → TreeFault → Type 0
IsEndedFault node faults.NoNode = ⊥
IsEndedFault node faults.NotList = IsList node → ⊥
IsEndedFault node faults.NoPlace = ⊥
IsEndedFault node faults.Memory = Unit {0}

-- there is a list at the path with such a place, and the tree has one more element before it
pub record IsInserted (f : Fragment) (path : Path) (place : ℕ) (new made : Fragment) : Type 0 where
  pub list : Fragment
  pub is_there : node_at f path ≡ Some list
  pub is_list : IsList list
  pub in_range : place ≤ length (children_of list)
  pub made_is : made ≡ change_at (inserted place new) path f

-- why an element is not inserted before the place of the list at the path
abbrev pub IsInsertFault : Fragment → Path → ℕ → TreeFault → Type 0
IsInsertFault f path place faults.NoNode = node_at f path ≡ None
IsInsertFault f path place faults.NotList = (node : Fragment) × (node_at f path ≡ Some node) × (IsList node → ⊥)
IsInsertFault f path place faults.NoPlace = (list : Fragment) × (node_at f path ≡ Some list) × IsList list
    × (length (children_of list) < place)
IsInsertFault f path place faults.Memory = Unit {0}

-- there is a list at the path with such an element, and the tree is without it
pub record IsRemoved (f : Fragment) (path : Path) (place : ℕ) (made : Fragment) : Type 0 where
  pub list : Fragment
  pub is_there : node_at f path ≡ Some list
  pub is_list : IsList list
  pub in_range : place < length (children_of list)
  pub made_is : made ≡ change_at (removed place) path f

-- why the element at the place of the list at the path is not removed
abbrev pub IsRemoveFault : Fragment → Path → ℕ → TreeFault → Type 0
IsRemoveFault f path place faults.NoNode = node_at f path ≡ None
IsRemoveFault f path place faults.NotList = (node : Fragment) × (node_at f path ≡ Some node) × (IsList node → ⊥)
IsRemoveFault f path place faults.NoPlace = (list : Fragment) × (node_at f path ≡ Some list) × IsList list
    × (length (children_of list) ≤ place)
IsRemoveFault f path place faults.Memory = Unit {0}

-- there is a list at the path, and in the tree it ends so
pub record IsSet (f : Fragment) (path : Path) (unfinished : Bool) (made : Fragment) : Type 0 where
  pub list : Fragment
  pub is_there : node_at f path ≡ Some list
  pub is_list : IsList list
  pub made_is : made ≡ change_at (ended unfinished) path f

-- why the list at the path is not finished or made unfinished
abbrev pub IsSetFault : Fragment → Path → TreeFault → Type 0
IsSetFault f path faults.NoNode = node_at f path ≡ None
IsSetFault f path faults.NotList = (node : Fragment) × (node_at f path ≡ Some node) × (IsList node → ⊥)
IsSetFault f path faults.NoPlace = ⊥
IsSetFault f path faults.Memory = Unit {0}
