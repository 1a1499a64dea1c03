-- What a node of a tree is made of: its form, its parts and its elements.
use Rattle.std.specs.Prelude.{ℕ, List, [], ◌∷◌, ◌++◌, Option, Some, None, slice_get, option_and_then}
use Rattle.psg_terms.specs.Names.{Name}
use Rattle.psg_grammar.specs.Fragments.{Fragment, hole, ending, cell, operator, with_child, with_name, with_number}
use Rattle.psg_grammar.specs.Fragments.{with_text, anything, observed, top_operator}
use Rattle.psg_tree.specs.declared.tree.Part.{Part}
use Rattle.psg_tree.specs.declared.tree.Part.TheVariants as parts
use Rattle.psg_self.specs.declared.form.Form.{Form}
use Rattle.psg_self.specs.SelfLanguage.{form_at}

-- the form of the operator at the top, if there is one
abbrev pub form_of : Fragment → Option Form
form_of f = option_and_then form_at (top_operator f)

-- the parts of the operator at the top, in order
abbrev pub node_parts : Fragment → List Part
node_parts (with_child f t) = node_parts f ++ parts.Sub t ∷ []
node_parts (with_name f n) = node_parts f ++ parts.Name n ∷ []
node_parts (with_number f n) = node_parts f ++ parts.Number n ∷ []
node_parts (with_text f t) = node_parts f ++ parts.Text t ∷ []
node_parts (observed f) = node_parts f
node_parts (hole p) = []
node_parts (ending l u) = []
node_parts (cell l e r) = []
node_parts (operator o) = []
node_parts anything = []

-- the elements of a list
abbrev pub elements_of : Fragment → List Fragment
elements_of (cell l e r) = e ∷ elements_of r
elements_of _ = []

-- what a part is: nothing, where it is something else or where there is none
abbrev pub name_in : Option Part → Name
name_in (Some (parts.Name n)) = n
name_in _ = []

abbrev pub number_in : Option Part → ℕ
number_in (Some (parts.Number n)) = n
number_in _ = 0

abbrev pub text_in : Option Part → List ℕ
text_in (Some (parts.Text t)) = t
text_in _ = []

abbrev pub tree_in : Option Part → Option Fragment
tree_in (Some (parts.Sub t)) = Some t
tree_in _ = None

abbrev pub elements_in : Option Fragment → List Fragment
elements_in (Some t) = elements_of t
elements_in None = []

-- the part of this number, from 0
abbrev pub part_at : Fragment → ℕ → Option Part
part_at f k = slice_get (node_parts f) k

abbrev pub name_at : Fragment → ℕ → Name
name_at f k = name_in (part_at f k)

abbrev pub tree_at : Fragment → ℕ → Option Fragment
tree_at f k = tree_in (part_at f k)

abbrev pub elements_at : Fragment → ℕ → List Fragment
elements_at f k = elements_in (tree_at f k)
