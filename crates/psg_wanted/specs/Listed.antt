-- Whether an operator is listed in a menu, and the lists that take a further element.
use Rattle.std.specs.Prelude.{ℕ, ◌≡◌, ◌≤◌, ◌↔◌, Bool, true, Option, Some, length, slice_get}
use Rattle.psg_grammar.specs.declared.types.Definition.{Definition}
use Rattle.psg_grammar.specs.declared.types.ListKind.{ListKind}
use Rattle.psg_grammar.specs.Fragments.{Fragment, children_of}
use Rattle.psg_grammar.specs.Paths.{IsList, Path, node_at}
use Rattle.psg_menu.specs.Menus.{IsChoosable}
use Rattle.psg_wanted.specs.Fronts.{IsListed, list_of}

-- whether the operator is one that may be put at the path, in a list at the place, so that the tree may be listed
abbrev pub IsListedAt : Definition → Fragment → Path → Option ℕ → ℕ → Bool → Type 0
IsListedAt def f path k o listed = (listed ≡ true) ↔ IsChoosable def f path k (IsListed def) o

-- a list of elements of the phylum is at the path, with that many elements or more
pub record IsListAt (def : Definition) (f : Fragment) (path : Path) (place phylum : ℕ) : Type 0 where
  pub node : Fragment
  pub there : node_at f path ≡ Some node
  pub is_list : IsList node
  pub within : place ≤ length (children_of node)
  pub kind : ListKind
  pub found : slice_get def.lists (list_of (Some node)) ≡ Some kind
  pub element : phylum ≡ kind.element
