-- What is reported about the names that nothing declares.
use Rattle.std.specs.Prelude.{List, [], ◌∷◌, ◌++◌, codes}
use Rattle.psg_grammar.specs.declared.types.Definition.{Definition}
use Rattle.psg_recover.specs.declared.finding.Finding.{Finding}
use Rattle.psg_recover.specs.Findings.{warning_at}
use Rattle.psg_recover.specs.TextPlaces.{Read, name_byte}
use Rattle.psg_uses.specs.declared.names.Written.{Written}

-- `N is not declared`
abbrev pub warnings : Definition → Read → List Written → List Finding
warnings def r [] = []
warnings def r (w ∷ ws) =
    warning_at (name_byte def r w.path w.number) (w.name ++ codes " is not declared") ∷ warnings def r ws
