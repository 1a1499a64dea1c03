-- What a signature keeps: its sorts' names, its constructors, and the constructors of each sort.
use Rattle.std.specs.Prelude.{◌≡◌, ◌<◌, ◌^◌, List, length}
use Rattle.psg_terms.specs.Names.{Name}
use Rattle.psg_terms.specs.Sound.{IsSound}
use Rattle.psg_terms.specs.Kept.{symbols_of}
use Rattle.psg_terms.specs.Marks.{AreMade}
use Rattle.psg_terms.specs.declared.sorts.ConId.{ConId}
use Rattle.psg_terms.specs.declared.sorts.Declared.{Declared}

pub record IsKept (sorts : List Name) (declared : List Declared) (made : List (List ConId)) : Type 0 where
  pub few_sorts : length sorts < 2 ^ 32
  pub few_constructors : length declared < 2 ^ 32
  pub lists : length made ≡ length sorts
  pub made_right : AreMade 0 made (symbols_of declared)
  pub sound : IsSound (record { sorts = sorts; symbols = symbols_of declared })
