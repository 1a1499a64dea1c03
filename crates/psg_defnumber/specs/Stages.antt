-- A definition whose rows of holes and of declared names are still to be made.
use Rattle.std.specs.Prelude.{ℕ, ◌≡◌, List}
use Rattle.psg_terms.specs.Declarations.{IsSpelled}
use Rattle.psg_terms.specs.Sound.{IsSound}
use Rattle.psg_grammar.specs.declared.types.Definition.{Definition}
use Rattle.psg_deflines.specs.declared.lines.Line.{Line}
use Rattle.psg_defcheck.specs.Scopes.{spaces}
use Rattle.psg_defnumber.specs.Growing.{Lasts}
use Rattle.psg_defnumber.specs.Numbers.{sort_decls, AreSpaces, ArePhyla, AreLists, AreOperators}

-- the definition has all but its rows of lists, its hole rows and its declare rows
pub record IsDeclared (version : ℕ) (file : List Line) (def : Definition) : Type 0 where
  pub same_version : def.version ≡ version
  pub signature : IsSpelled (sort_decls file) def.signature
  pub sound : IsSound def.signature
  pub spaces : Lasts def (λ full. AreSpaces full (spaces file) def.spaces)
  pub phyla : Lasts def (λ full. ArePhyla full file def.phyla)
  pub lists : Lasts def (λ full. AreLists full file file def.lists)
  pub operators : Lasts def (λ full. AreOperators full file def.operators)
