-- The tree without the elements that were lost in reading, and the paths in it.
use Rattle.std.specs.Prelude.{ℕ, zero, suc, Bool, true, false, cond, List, ◌∷◌, [], Option, Some, None, slice_get}
use Rattle.psg_grammar.specs.declared.types.Definition.{Definition}
use Rattle.psg_grammar.specs.Fragments.{Fragment, hole, ending, cell, operator, with_child, with_name, with_number}
use Rattle.psg_grammar.specs.Fragments.{with_text, anything, observed, children_of}
use Rattle.psg_grammar.specs.Paths.{Path, ended}
use Rattle.psg_tree.specs.declared.tree.Part.{Part}
use Rattle.psg_tree.specs.declared.tree.Part.TheVariants.{Sub, Name, Number, Text}
use Rattle.psg_places.specs.Places.{declares, is_list}

-- a placeholder of a phylum that declares, which the language does not have
abbrev pub is_lost : Definition → Fragment → Bool
is_lost def (hole p) = declares def p
is_lost def _ = false

-- the list is unfinished where an element of it is lost
abbrev pub left_out : Definition → Fragment → Fragment
left_out def (hole p) = hole p
left_out def (ending l u) = ending l u
left_out def (cell l e r) = cond (is_lost def e) (ended true (left_out def r))
    (cell l (left_out def e) (left_out def r))
left_out def (operator o) = operator o
left_out def (with_child f t) = with_child (left_out def f) (left_out def t)
left_out def (with_name f x) = with_name (left_out def f) x
left_out def (with_number f x) = with_number (left_out def f) x
left_out def (with_text f x) = with_text (left_out def f) x
left_out def anything = anything
left_out def (observed f) = observed (left_out def f)

-- ---- by parts and elements

abbrev pub left_part : Definition → Part → Part
left_part def (Sub t) = Sub (left_out def t)
left_part def (Name x) = Name x
left_part def (Number x) = Number x
left_part def (Text x) = Text x

abbrev pub left_elements : Definition → List Fragment → List Fragment
left_elements def [] = []
left_elements def (e ∷ es) = cond (is_lost def e) (left_elements def es) (left_out def e ∷ left_elements def es)

-- ---- paths

-- the number that the element k of what is left has among all elements
abbrev pub element_back : Definition → ℕ → List Fragment → ℕ
element_back def k [] = 0
element_back def zero (e ∷ es) = cond (is_lost def e) (suc (element_back def zero es)) 0
element_back def (suc k) (e ∷ es) = suc (cond (is_lost def e) (element_back def (suc k) es) (element_back def k es))

-- A child of an operator keeps its number.
abbrev pub number_back : Definition → ℕ → Fragment → ℕ
number_back def k f = cond (is_list f) (element_back def k (children_of f)) k

abbrev pub step_back : Definition → Option Fragment → ℕ → ℕ
step_back def None k = k
step_back def (Some f) k = number_back def k f

abbrev pub child_of : Option Fragment → ℕ → Option Fragment
child_of None k = None
child_of (Some f) k = slice_get (children_of f) k

-- the path, in the tree with the lost elements, of the node at the path in what is left
abbrev pub path_back : Definition → Option Fragment → Path → Path
path_back def f [] = []
path_back def f (k ∷ path) = step_back def f k ∷ path_back def (child_of f (step_back def f k)) path
