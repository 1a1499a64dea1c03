-- The lines of a script.
use Rattle.std.specs.Prelude.{ℕ, ◌==◌, Bool, true, false, cond, List, [], ◌∷◌}
use Rattle.std.specs.List.{slice_split}
use Rattle.std.specs.Str.Lines.{strip_carriage_return}

-- the byte is a line feed
abbrev pub is_feed : ℕ → Bool
is_feed b = b == 10

-- there are no bytes
abbrev pub is_empty : List ℕ → Bool
is_empty [] = true
is_empty (b ∷ bs) = false

-- the pieces less one carriage return at the end, without the empty ones
abbrev pub kept_lines : List (List ℕ) → List (List ℕ)
kept_lines [] = []
kept_lines (piece ∷ rest) = cond (is_empty (strip_carriage_return piece)) (kept_lines rest)
    (strip_carriage_return piece ∷ kept_lines rest)

-- the lines of a script, which end at line feeds
abbrev pub script_lines : List ℕ → List (List ℕ)
script_lines bytes = kept_lines (slice_split is_feed bytes)
