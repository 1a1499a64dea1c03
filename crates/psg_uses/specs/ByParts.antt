-- What is said of trees, said of the parts of an operator and of the elements of a list.
use Rattle.std.specs.Prelude.{ℕ, suc, ◌==◌, ◌&&◌, not, Bool, false, cond, List, [], ◌∷◌, ◌++◌, Option, Some, None, Vec}
use Rattle.std.specs.Prelude.{slice_get}
use Rattle.std.specs.List.{list_any}
use Rattle.std.specs.declared.alloc.Global.{Global}
use Rattle.psg_grammar.specs.declared.types.Definition.{Definition}
use Rattle.psg_grammar.specs.Fragments.{Fragment}
use Rattle.psg_grammar.specs.Lookups.{is_scope}
use Rattle.psg_grammar.specs.Paths.{Path}
use Rattle.psg_grammar.specs.Regions.{unfinished_inside}
use Rattle.psg_tree.specs.declared.tree.Part.{Part}
use Rattle.psg_tree.specs.declared.tree.Part.TheVariants as parts
use Rattle.psg_places.specs.Places.{below}
use Rattle.psg_uses.specs.declared.names.Gathering.{Gathering}
use Rattle.psg_uses.specs.declared.names.NameItem.{NameItem}
use Rattle.psg_uses.specs.declared.names.Written.{Written}
use Rattle.psg_uses.specs.Naming.{names_below, wanted_name}

-- ---- the names of a tree

module _ (how : Gathering) where
  abbrev pub names_by : Path → ℕ → Fragment → List Written
  names_by path k f = names_below how.definition.now how.declared how.inside path k f

  -- a scope operator, where these are passed over
  abbrev pub is_passed : Fragment → Bool
  is_passed t = not how.inside && is_scope how.definition.now t

  abbrev pub child_names : Path → ℕ → Fragment → List Written
  child_names path child t = cond (is_passed t) [] (names_by (below path child) 0 t)

  -- of a part of the node at the path, which has that many names and children before it
  abbrev pub part_names : Option NameItem → Path → ℕ → ℕ → Part → List Written
  part_names item path names children (parts.Sub t) = child_names path children t
  part_names item path names children (parts.Name x) = wanted_name how.declared item path names x
  part_names item path names children (parts.Number x) = []
  part_names item path names children (parts.Text x) = []

  -- of elements, the first of which has the number k
  abbrev pub element_names : Path → ℕ → List Fragment → List Written
  element_names path k [] = []
  element_names path k (e ∷ es) = child_names path k e ++ element_names path (suc k) es

abbrev pub names_in : Part → ℕ
names_in (parts.Name x) = 1
names_in _ = 0

-- the name that the part is, if none is left before it
abbrev pub name_here : ℕ → Part → Option (List ℕ)
name_here left (parts.Name x) = cond (left == 0) (Some x) None
name_here left (parts.Sub t) = None
name_here left (parts.Number x) = None
name_here left (parts.Text x) = None

abbrev pub children_in : Part → ℕ
children_in (parts.Sub t) = 1
children_in _ = 0

-- ---- lists that may still declare

abbrev pub has_number : List ℕ → ℕ → Bool
has_number ss s = list_any (λ t. t == s) ss

abbrev pub has_number_in : Option (Vec ℕ Global) → ℕ → Bool
has_number_in None s = false
has_number_in (Some v) s = has_number v.items s

-- the table has the space for the phylum
abbrev pub has_space : List (Vec ℕ Global) → ℕ → ℕ → Bool
has_space table p s = has_number_in (slice_get table p) s

-- a child or an element, if it is no scope operator
abbrev pub unfinished_below : Definition → ℕ → Fragment → Bool
unfinished_below def space t = not (is_scope def t) && unfinished_inside def space t

abbrev pub unfinished_part : Definition → ℕ → Part → Bool
unfinished_part def space (parts.Sub t) = unfinished_below def space t
unfinished_part def space (parts.Name x) = false
unfinished_part def space (parts.Number x) = false
unfinished_part def space (parts.Text x) = false
