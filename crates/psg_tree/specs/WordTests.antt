-- Words as a test, from the first character or after it.
use Rattle.std.specs.Prelude.{ℕ, ◌&&◌, Bool, false, cond, not, List, [], ◌∷◌}
use Rattle.psg_terms.specs.Words.{starts_word, goes_on_word}

-- whether the characters are a word, or the rest of one where the first has been read
abbrev pub is_word_from : Bool → List ℕ → Bool
is_word_from first [] = not first
is_word_from first (c ∷ cs) = cond first (starts_word c) (goes_on_word c) && is_word_from false cs
