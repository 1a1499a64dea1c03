-- Nodes by path, and trees with another node at a path.
use Rattle.std.specs.Prelude.{ℕ, zero, suc, ◌==◌, Bool, cond, List, [], ◌∷◌, length, Option, Some}
use Rattle.std.specs.Prelude.{slice_get, option_and_then}
use Rattle.psg_grammar.specs.Fragments.{Fragment, hole, ending, cell, operator, with_child, with_name, with_number}
use Rattle.psg_grammar.specs.Fragments.{with_text, anything, observed, children_of}

-- Each step is the number of a child, from 0: of a slot under an operator, of an element under a list.
abbrev pub Path : Type 0
Path = List ℕ

-- the node at a path
abbrev pub node_at : Fragment → Path → Option Fragment
node_at f [] = Some f
node_at f (k ∷ path) = option_and_then (λ t. node_at t path) (slice_get (children_of f) k)

-- the node with a change made of its child of the number
abbrev pub change_child : (Fragment → Fragment) → ℕ → Fragment → Fragment
change_child g zero (cell l e r) = cell l (g e) r
change_child g (suc k) (cell l e r) = cell l e (change_child g k r)
change_child g k (with_child f t) =
    cond (length (children_of f) == k) (with_child f (g t)) (with_child (change_child g k f) t)
change_child g k (with_name f n) = with_name (change_child g k f) n
change_child g k (with_number f n) = with_number (change_child g k f) n
change_child g k (with_text f n) = with_text (change_child g k f) n
change_child g k (observed f) = observed (change_child g k f)
change_child g k (hole p) = hole p
change_child g k (ending l u) = ending l u
change_child g k (operator o) = operator o
change_child g k anything = anything

-- the tree with a change made of the node at a path
abbrev pub change_at : (Fragment → Fragment) → Path → Fragment → Fragment
change_at g [] f = g f
change_at g (k ∷ path) f = change_child (change_at g path) k f

-- the node with another child of the number
abbrev pub put_child : Fragment → ℕ → Fragment → Fragment
put_child new k f = change_child (λ old. new) k f

-- the tree with another one at the path
abbrev pub replaced : Path → Fragment → Fragment → Fragment
replaced path new f = change_at (λ old. new) path f

-- the tree in which the value of the node at the path is observed
abbrev pub observe : Path → Fragment → Fragment
observe path f = change_at observed path f

-- the node is a list: an end or a cell
abbrev pub IsList : Fragment → Type 0
IsList (ending l u) = Unit {0}
IsList (cell l e r) = Unit {0}
IsList _ = ⊥

-- a list with one more element before the place
abbrev pub inserted : ℕ → Fragment → Fragment → Fragment
inserted zero new (ending l u) = cell l new (ending l u)
inserted zero new (cell l e r) = cell l new (cell l e r)
inserted (suc k) new (cell l e r) = cell l e (inserted k new r)
inserted (suc k) new (ending l u) = ending l u
inserted k new f = f

-- a list without the element at the place
abbrev pub removed : ℕ → Fragment → Fragment
removed zero (cell l e r) = r
removed (suc k) (cell l e r) = cell l e (removed k r)
removed k f = f

-- a list that ends so
abbrev pub ended : Bool → Fragment → Fragment
ended u (cell l e r) = cell l e (ended u r)
ended u (ending l v) = ending l u
ended u f = f
