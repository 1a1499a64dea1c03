-- Lines that are made word by word.
use Rattle.std.specs.Prelude.{List, [], ◌∷◌, ◌++◌, Option, Some, None}
use Rattle.psg_script.specs.Forms.{Text}

-- the line with these words after it, and a space before each
abbrev pub with_words : Text → List Text → Text
with_words line [] = line
with_words line (w ∷ ws) = with_words (line ++ 32 ∷ w) ws

-- the line with this text at its end, and a space before it where it has bytes
abbrev pub with_tail : Text → Option Text → Text
with_tail line None = line
with_tail line (Some []) = line
with_tail line (Some (b ∷ bs)) = line ++ 32 ∷ b ∷ bs
