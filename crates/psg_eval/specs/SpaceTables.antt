-- Tables of what phyla declare.
use Rattle.std.specs.Prelude.{ℕ, ◌≡◌, List, length, Vec, slice_get, Some}
use Rattle.std.specs.declared.alloc.Global.{Global}
use Rattle.psg_grammar.specs.declared.types.Definition.{Definition}
use Rattle.psg_grammar.specs.DeclaringTables.{AreSpacesOf}

-- for each phylum the spaces in which it declares
pub record AreDeclaringSpaces (def : Definition) (found : List (Vec ℕ Global)) : Type 0 where
  pub one_each : length found ≡ length def.phyla
  pub exact : (p : ℕ) (spaces : Vec ℕ Global) → slice_get found p ≡ Some spaces → AreSpacesOf def p spaces.items
