-- The names of a tree in the order of the text, each with whether it declares.
use Rattle.std.specs.Prelude.{ℕ, suc, List, [], ◌∷◌, ◌++◌, length, Option, option_to_list}
use Rattle.psg_grammar.specs.declared.types.Definition.{Definition}
use Rattle.psg_grammar.specs.Fragments.{Fragment, hole, ending, cell, operator, with_child, with_name, with_number}
use Rattle.psg_grammar.specs.Fragments.{with_text, anything, observed, children_of}
use Rattle.psg_grammar.specs.Lookups.{next_item}
use Rattle.psg_grammar.specs.Paths.{Path}
use Rattle.psg_tree.specs.declared.tree.Part.{Part}
use Rattle.psg_tree.specs.declared.tree.Part.TheVariants as parts
use Rattle.psg_places.specs.Places.{below, names_before}
use Rattle.psg_uses.specs.declared.names.NameItem.{NameItem}
use Rattle.psg_uses.specs.declared.names.Named.{Named}
use Rattle.psg_uses.specs.Naming.{name_item, own_name}

-- The names of the node at the path and of those below it. The first element of a list has the number k.
module _ (def : Definition) where
  abbrev pub names_below : Path → ℕ → Fragment → List Named
  names_below path k (hole p) = []
  names_below path k (ending l u) = []
  names_below path k (cell l e r) = names_below (below path k) 0 e ++ names_below path (suc k) r
  names_below path k (operator o) = []
  names_below path k (with_child f t) =
      names_below path k f ++ names_below (below path (length (children_of f))) 0 t
  names_below path k (with_name f x) = names_below path k f
      ++ option_to_list (own_name (name_item (next_item def f)) path (names_before f) x)
  names_below path k (with_number f x) = names_below path k f
  names_below path k (with_text f x) = names_below path k f
  names_below path k anything = []
  names_below path k (observed f) = []

  -- ---- by parts and elements

  abbrev pub child_names : Path → ℕ → Fragment → List Named
  child_names path child t = names_below (below path child) 0 t

  -- of a part of the node at the path, which has that many names and children before it
  abbrev pub part_names : Option NameItem → Path → ℕ → ℕ → Part → List Named
  part_names item path names children (parts.Sub t) = child_names path children t
  part_names item path names children (parts.Name x) = option_to_list (own_name item path names x)
  part_names item path names children (parts.Number x) = []
  part_names item path names children (parts.Text x) = []

  -- of elements, the first of which has the number k
  abbrev pub element_names : Path → ℕ → List Fragment → List Named
  element_names path k [] = []
  element_names path k (e ∷ es) = child_names path k e ++ element_names path (suc k) es

-- all names of the tree
abbrev pub names_of : Definition → Fragment → List Named
names_of def f = names_below def [] 0 f
