-- Lines without a fault, and the positions of their names.
use Rattle.std.specs.Prelude.{ℕ, ◌≡◌, ◌<◌, ◌+◌, ◌^◌, Some, List, [], length, slice_get}
use Rattle.psg_terms.specs.Names.{Name}
use Rattle.psg_grammar.specs.declared.types.Kind.{Kind}
use Rattle.psg_grammar.specs.declared.types.Kind.TheVariants as kinds
use Rattle.psg_deflines.specs.Entries.{Entry, written}
use Rattle.psg_deflines.specs.declared.fault.ReadFault.{ReadFault}
use Rattle.psg_deflines.specs.declared.fault.ReadFault.TheVariants.{Def, Memory}
use Rattle.psg_deflines.specs.declared.lines.Line.{Line}
use Rattle.psg_defcheck.specs.Scopes.{phylum_names, list_names}
use Rattle.psg_defcheck.specs.Faults.{ArePassed, IsMeaningFault}
use Rattle.psg_defcheck.specs.Aboves.{IsAbove}
use Rattle.psg_defcheck.specs.declared.above.Above.{Above}

-- none of the lines has a fault, and the names are those that they declare
pub record AreChecked (entries : List Entry) (a : Above) : Type 0 where
  pub few : length entries + 2 < 2 ^ 32
  pub passed : ArePassed (written entries) [] (written entries)
  pub names : IsAbove (written entries) a

-- the reason is the first fault of the entries; memory may run out at any time
abbrev pub IsCheckFault : List Entry → ReadFault → Type 0
IsCheckFault entries (Def fault) = IsMeaningFault entries fault
IsCheckFault entries Memory = Unit {0}

-- the name has the position among the phyla or among the lists of the lines
abbrev pub IsKindAt : List Line → Name → Kind → Type 0
IsKindAt file n (kinds.Phylum p) = slice_get (phylum_names file) p ≡ Some n
IsKindAt file n (kinds.List l) = slice_get (list_names file) l ≡ Some n
