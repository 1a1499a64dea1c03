-- How paths and marks are written.
use Rattle.std.specs.Prelude.{ℕ, List, [], ◌∷◌, ◌++◌, codes}
use Rattle.psg_grammar.specs.Paths.{Path}
use Rattle.psg_grammar.specs.Marks.{Mark, good, wrong}
use Rattle.psg_script.specs.declared.command.Where.TheVariants.{At}
use Rattle.psg_script.specs.Forms.{place_text}

-- `/` for the top, else each step after a `/`
abbrev pub path_text : Path → List ℕ
path_text path = place_text (At path)

-- each path after a space
abbrev pub paths_text : List Path → List ℕ
paths_text [] = []
paths_text (p ∷ ps) = 32 ∷ (path_text p ++ paths_text ps)

-- the mark as it is written: `ok`, or `wrong` and the culprits' paths, each after a space
abbrev pub mark_text : Mark → List ℕ
mark_text good = codes "ok"
mark_text (wrong culprits) = codes "wrong" ++ paths_text culprits
