-- What is written between the parts of a text.
use Rattle.std.specs.Prelude.{ℕ, List, [], ◌∷◌, ◌==◌, if◌then◌else◌}

-- before an argument at a place
abbrev pub before : ℕ → List ℕ
before n = if n == 0 then (40 ∷ []) else (44 ∷ [])

-- after that many arguments
abbrev pub after : ℕ → List ℕ
after n = if n == 0 then [] else (41 ∷ [])

-- before a term of a row at a place
abbrev pub between : ℕ → List ℕ
between n = if n == 0 then [] else (32 ∷ [])
