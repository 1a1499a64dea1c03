-- What the words of a line are, as the reader finds them.
use Rattle.std.specs.Prelude.{◌≤◌, List, [], ◌∷◌, length, Option, Some, None, MatchOption}
use Rattle.psg_script.specs.Forms.{Text}
use Rattle.psg_script.specs.Words.{IsClosed}
use Rattle.psg_script.specs.declared.words.Words.{Words}
use Rattle.psg_script.specs.declared.words.Words.TheVariants.{Nothing, One, Two, Three, Four, More}

-- the words that were found, or none where they are too many
abbrev pub found_words : Words → Option (List Text)
found_words Nothing = Some []
found_words (One a) = Some (a.now ∷ [])
found_words (Two a b) = Some (a.now ∷ b.now ∷ [])
found_words (Three a b c) = Some (a.now ∷ b.now ∷ c.now ∷ [])
found_words (Four a b c d) = Some (a.now ∷ b.now ∷ c.now ∷ d.now ∷ [])
found_words More = None

-- the rest of the line is these words, or it is no list of up to four words
abbrev pub AreWords : Text → Words → Type 0
AreWords behind found = MatchOption (found_words found) ((ws : List Text) → length ws ≤ 4 → IsClosed ws behind → ⊥)
    (λ ws. IsClosed ws behind)
