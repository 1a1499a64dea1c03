-- What is known of a list.
use Rattle.std.specs.Prelude.{◌≡◌, length, Some, slice_get}
use Rattle.psg_grammar.specs.declared.types.Definition.{Definition}
use Rattle.psg_grammar.specs.declared.types.ListKind.{ListKind}
use Rattle.psg_grammar.specs.Fragments.{Fragment, children_of}
use Rattle.psg_grammar.specs.Paths.{IsList, Path, node_at}
use Rattle.psg_wanted.specs.Fronts.{list_of}
use Rattle.psg_lint.specs.declared.ends.Listed.{Listed}
use Rattle.psg_lint.specs.OpenPlaces.{is_unfinished}

-- the tree is a list of elements of the phylum, with that many
pub record IsListOf (def : Definition) (f : Fragment) (l : Listed) : Type 0 where
  pub is_list : IsList f
  pub elements : l.elements ≡ length (children_of f)
  pub kind : ListKind
  pub found : slice_get def.lists (list_of (Some f)) ≡ Some kind
  pub phylum : l.phylum ≡ kind.element
  pub unfinished : l.unfinished ≡ is_unfinished f

-- it is the node at the path
pub record IsListThere (def : Definition) (f : Fragment) (path : Path) (l : Listed) : Type 0 where
  pub node : Fragment
  pub there : node_at f path ≡ Some node
  pub is : IsListOf def node l
