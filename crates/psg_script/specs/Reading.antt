-- What it means to read a value from a text.
use Rattle.std.specs.Prelude.{ℕ, ◌≤◌, ◌≡◌, List, [], ◌∷◌, Option, MatchOption, decimal}
use Rattle.std.specs.List.{AllByRecursion}
use Rattle.psg_script.specs.Forms.{Text, IsNumber, IsName, IsFile, IsPlace, place_text, steps_text}
use Rattle.psg_script.specs.declared.command.Where.{Where}

-- a value that the text is written for, or none where the text is written for no value
abbrev pub Reads : {A T : Type 0} → (A → T → Type 0) → T → Option A → Type 0
Reads {A} IsWritten text read = MatchOption read ((x : A) → IsWritten x text → ⊥) (λ x. IsWritten x text)

-- the word is the decimal of the number, without zeros in front, and the number is one that commands have
abbrev pub IsNumeral : ℕ → Text → Type 0
IsNumeral n word = IsNumber n × (word ≡ decimal n)

-- a number from 1 to this one
abbrev pub IsNumeralUpTo : ℕ → ℕ → Text → Type 0
IsNumeralUpTo most n word = IsNumeral n word × (1 ≤ n) × (n ≤ most)

-- the word is a name, and is this one
abbrev pub IsNameWord : Text → Text → Type 0
IsNameWord name word = IsName name × (word ≡ name)

-- the word may name a file, and is this one
abbrev pub IsFileWord : Text → Text → Type 0
IsFileWord file word = IsFile file × (word ≡ file)

-- the word is the one of the node
abbrev pub IsPlaceWord : Where → Text → Type 0
IsPlaceWord place word = IsPlace place × (word ≡ place_text place)

-- one or more steps, the first one without its `/`
abbrev pub IsStepsText : List ℕ → Text → Type 0
IsStepsText [] text = ⊥
IsStepsText (k ∷ ks) text = AllByRecursion IsNumber (k ∷ ks) × (47 ∷ text ≡ steps_text (k ∷ ks))

-- a place and a name, by a word of each
abbrev pub IsPlacedName : Where × Text → Text × Text → Type 0
IsPlacedName found words = IsPlaceWord found.0 words.0 × IsNameWord found.1 words.1
