-- The text of a program file.
use Rattle.std.specs.Prelude.{ℕ, List, [], ◌∷◌, cond, take, drop, bytes_eq}

-- the byte order mark in UTF-8
abbrev pub mark : List ℕ
mark = 239 ∷ 187 ∷ 191 ∷ []

-- the bytes without one byte order mark at their beginning
abbrev pub unmarked : List ℕ → List ℕ
unmarked bytes = cond (bytes_eq (take 3 bytes) mark) (drop 3 bytes) bytes
