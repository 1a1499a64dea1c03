-- A program that has a completion, as `lint` keeps it.
use Rattle.std.specs.Prelude.{ℕ, ◌≡◌, List, [], Some}
use Rattle.psg_grammar.specs.Fragments.{Fragment}
use Rattle.psg_grammar.specs.Marks.{Located, nodes_from}
use Rattle.psg_grammar.specs.Paths.{Path, node_at}
use Rattle.psg_tree.specs.declared.tree.Part.{Part}
use Rattle.psg_tree.specs.declared.tree.Part.TheVariants.{Sub, Name, Number, Text}
use Rattle.psg_cache.specs.Notes.{IsNoteOf}
use Rattle.psg_places.specs.Places.{below}
use Rattle.psg_renaming.specs.Occurring.{occurring}
use Rattle.psg_lint.specs.declared.open_places.Open.{Open}
use Rattle.psg_lint.specs.Judged.{IsJudged}

pub record IsOpenOne (o : Open) : Type 0 where
  pub judged : IsJudged o.judged
  pub note : IsNoteOf o.judged.definition.now o.judged.tree.now o.note.now
  pub used : o.used.now ≡ occurring o.judged.tree.now

-- the nodes of a part of the node at the path, which has that many children before it
abbrev pub part_nodes : Path → ℕ → Part → List Located
part_nodes path child (Sub t) = nodes_from (below path child) t
part_nodes path child (Name x) = []
part_nodes path child (Number x) = []
part_nodes path child (Text x) = []

-- the part is there, if it is a tree
abbrev pub IsPartThere : Fragment → Path → ℕ → Part → Type 0
IsPartThere f path child (Sub t) = node_at f (below path child) ≡ Some t
IsPartThere f path child (Name x) = Unit {0}
IsPartThere f path child (Number x) = Unit {0}
IsPartThere f path child (Text x) = Unit {0}
