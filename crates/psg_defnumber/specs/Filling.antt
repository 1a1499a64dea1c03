-- Rows that are put into their lists.
use Rattle.std.specs.Prelude.{◌≡◌, false, List}
use Rattle.psg_terms.specs.Names.{has_twice}
use Rattle.psg_grammar.specs.declared.types.ListKind.{ListKind}
use Rattle.psg_grammar.specs.declared.types.Definition.{Definition}
use Rattle.psg_deflines.specs.declared.lines.Line.{Line}
use Rattle.psg_defcheck.specs.Scopes.{kind_names}
use Rattle.psg_defnumber.specs.Growing.{Lasts}
use Rattle.psg_defnumber.specs.Numbers.{AreLists}

-- The lists of these lines had the rows of the first lines of the file, and have those of more of them.
abbrev pub Fills : Definition → List Line → List Line → List ListKind → List ListKind → Type 0
Fills def file longer old new = (all : List Line) → has_twice (kind_names all) ≡ false
    → Lasts def (λ full. AreLists full file all old → AreLists full longer all new)
