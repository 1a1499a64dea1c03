-- What is kept of the lines above a line.
use Rattle.std.specs.Prelude.{◌≡◌, List, None}
use Rattle.std.specs.Option.{option_map}
use Rattle.psg_deflines.specs.declared.lines.Line.{Line}
use Rattle.psg_defcheck.specs.Scopes.{sort_names, constructor_names, phylum_names, list_names, operator_names}
use Rattle.psg_defcheck.specs.Scopes.{space_names, last_operator, last_hole}
use Rattle.psg_defcheck.specs.Tables.{operator_told, name_told}
use Rattle.psg_defcheck.specs.NameSets.{AreNames}
use Rattle.psg_defcheck.specs.declared.above.Above.{Above}

-- it is that of these lines
pub record IsAbove (lines : List Line) (a : Above) : Type 0 where
  pub sorts : AreNames (sort_names lines) a.sorts
  pub constructors : AreNames (constructor_names lines) a.constructors
  pub phyla : AreNames (phylum_names lines) a.phyla
  pub lists : AreNames (list_names lines) a.lists
  pub operators : AreNames (operator_names lines) a.operators
  pub spaces : AreNames (space_names lines) a.spaces
  pub operator : option_map operator_told a.operator ≡ last_operator None lines
  pub hole : option_map name_told a.hole ≡ last_hole None lines
