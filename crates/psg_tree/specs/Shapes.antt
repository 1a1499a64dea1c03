-- The fragment that a shape of the program is.
use Rattle.std.specs.Prelude.{ℕ, zero, suc, cond, Bool, ◌+◌, ◌≤◌, max, List, [], ◌∷◌, Option, slice_get}
use Rattle.std.proofs.Common.{arith}
use denote.Param.Weighed.{most}
use Rattle.psg_grammar.specs.Fragments.{Fragment, hole, ending, cell, operator, with_child, with_name, with_number}
use Rattle.psg_grammar.specs.Fragments.{with_text, anything, observed}
use Rattle.psg_tree.specs.declared.tree.Part.{Part}
use Rattle.psg_tree.specs.declared.tree.Part.TheVariants.{Sub, Name, Number, Text}
use Rattle.psg_tree.specs.declared.tree.Shape.{Shape}
use Rattle.psg_tree.specs.declared.tree.Shape.TheVariants.{Op, List as ListOf, Hole}

-- a node with one more part
abbrev pub with_part : Fragment → Part → Fragment
with_part f (Sub t) = with_child f t
with_part f (Name n) = with_name f n
with_part f (Number n) = with_number f n
with_part f (Text t) = with_text f t

-- the fragment with these parts, in order
abbrev pub with_parts : Fragment → List Part → Fragment
with_parts f [] = f
with_parts f (p ∷ rest) = with_parts (with_part f p) rest

-- a list of elements, and then its end
abbrev pub list_of : ℕ → List Fragment → Bool → Fragment
list_of l [] u = ending l u
list_of l (e ∷ rest) u = cell l e (list_of l rest u)

-- the fragment that the node with its children is
abbrev pub tree_of : Shape → Fragment
tree_of (Op o parts) = with_parts (operator o) parts
tree_of (ListOf l elements u) = list_of l elements u
tree_of (Hole p) = hole p

-- how far the tree is nested, by lists and operators
abbrev pub height : Fragment → ℕ
height (hole p) = 0
height (ending l u) = 0
height (cell l e r) = max (height e + 1) (height r)
height (operator o) = 0
height (with_child f t) = max (height f) (height t + 1)
height (with_name f n) = height f
height (with_number f n) = height f
height (with_text f t) = height f
height anything = 0
height (observed f) = height f

pub most_le-list : (l : ℕ) (u : Bool) (es : List Fragment) → most (λ k. height k + 1) es ≤ height (list_of l es u)
most_le-list l u [] = omega arith
most_le-list l u (e ∷ es) = omega (arith, most_le-list l u es)

-- the subtrees among an operator's parts
abbrev pub subtrees : List Part → List Fragment
subtrees [] = []
subtrees (Sub t ∷ rest) = t ∷ subtrees rest
subtrees (Name n ∷ rest) = subtrees rest
subtrees (Number n ∷ rest) = subtrees rest
subtrees (Text t ∷ rest) = subtrees rest

-- the child of this number among the parts; names and literals do not count
abbrev pub child_among : List Part → ℕ → Option Fragment
child_among parts k = slice_get (subtrees parts) k

-- the part, with the new tree in place of its subtree where that is wanted
abbrev pub chosen_part : Bool → Fragment → Part → Part
chosen_part wanted new (Sub t) = Sub (cond wanted new t)
chosen_part wanted new (Name n) = Name n
chosen_part wanted new (Number n) = Number n
chosen_part wanted new (Text t) = Text t

-- the parts with the new tree in place of the subtree of the number
abbrev pub put_part : Fragment → ℕ → List Part → List Part
put_part new k [] = []
put_part new zero (Sub t ∷ rest) = Sub new ∷ rest
put_part new (suc k) (Sub t ∷ rest) = Sub t ∷ put_part new k rest
put_part new k (Name n ∷ rest) = Name n ∷ put_part new k rest
put_part new k (Number n ∷ rest) = Number n ∷ put_part new k rest
put_part new k (Text t ∷ rest) = Text t ∷ put_part new k rest

-- the elements with the new one at the place
abbrev pub put_element : Fragment → ℕ → List Fragment → List Fragment
put_element new k [] = []
put_element new zero (e ∷ rest) = new ∷ rest
put_element new (suc k) (e ∷ rest) = e ∷ put_element new k rest
