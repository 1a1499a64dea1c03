-- The words of a line, as they are found from the left.
use Rattle.std.specs.Prelude.{ℕ, suc, ◌≡◌, List, [], ◌∷◌, ◌++◌, Some, None}
use Rattle.std.specs.List.{AllByRecursion}
use Rattle.psg_script.specs.Forms.{Text, IsWord, IsTail, Follow, spaces}

-- what may follow a word: nothing, or a text that begins with a space
abbrev pub IsBehind : Text → Type 0
IsBehind [] = Unit {0}
IsBehind (b ∷ bs) = b ≡ 32

-- one or more spaces, then this word, and then this
abbrev pub IsNext : Text → Text → Text → Type 0
IsNext behind w after = ((n : ℕ) × (behind ≡ spaces (suc n) ++ (w ++ after))) × IsWord w × IsBehind after

-- words, and nothing but spaces after them
abbrev pub IsClosed : List Text → Text → Type 0
IsClosed ws behind = AllByRecursion IsWord ws × Follow ws None behind

-- words, and a text at the end of the line
abbrev pub IsOpen : List Text → Text → Text → Type 0
IsOpen ws text behind = AllByRecursion IsWord ws × IsTail text × Follow ws (Some text) behind
