-- Lines are together one definition at most.
use Rattle.std.specs.Prelude.{ℕ, ◌≡◌, List}
use Rattle.psg_grammar.specs.declared.types.Definition.{Definition}
use Rattle.psg_deflines.specs.declared.lines.Line.{Line}
use Rattle.psg_defnumber.specs.Numbers.{IsNumbered}

-- lines are together one definition at most
abbrev pub OneNumbering : Type 0
OneNumbering =
    (version : ℕ) (file : List Line) (a b : Definition) → IsNumbered version file a → IsNumbered version file b → a ≡ b
