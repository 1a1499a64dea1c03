-- How the parts of a line are written, in the direction of a writer.
use Rattle.std.specs.Prelude.{ℕ, ◌≡◌, ◌==◌, ◌&&◌, ◌||◌, Bool, false, List, [], ◌∷◌, ◌++◌, replicate}
use Rattle.psg_grammar.specs.Sound.{goes_on_name}

-- Letters, digits, `_` and `@` are one class: where two of them would meet, there is a space between two parts.
abbrev pub goes_on_word : ℕ → Bool
goes_on_word c = goes_on_name c || (c == 64)

-- the part ends with a character that a word goes on with
abbrev pub ends_word : List ℕ → Bool
ends_word [] = false
ends_word (c ∷ []) = goes_on_word c
ends_word (c ∷ d ∷ cs) = ends_word (d ∷ cs)

-- the part begins with a character that a word goes on with
abbrev pub begins_word : List ℕ → Bool
begins_word [] = false
begins_word (c ∷ cs) = goes_on_word c

-- The line has these parts in order, with any number of spaces between two of them, none in front of the first one and
-- none after the last one.
abbrev pub IsWritten : List (List ℕ) → List ℕ → Type 0
IsWritten [] line = line ≡ []
IsWritten (part ∷ []) line = line ≡ part
IsWritten (part ∷ next ∷ parts) line =
    (spaces : ℕ) × (rest : List ℕ) × (line ≡ part ++ (replicate spaces 32 ++ rest))
    × ((ends_word part && begins_word (replicate spaces 32 ++ rest)) ≡ false) × IsWritten (next ∷ parts) rest
