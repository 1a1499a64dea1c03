-- Lines and columns of a text, as editors count them: from 1, a line ends at a line feed, and a column is a character.
use Rattle.std.specs.Prelude.{ℕ, ◌≡◌, ◌+◌, ◌-◌, ◌==◌, cond, List, [], ◌∷◌, chars}
use Rattle.psg_lexis.specs.Tokens.{bytes_of}

-- the characters that begin before the byte, where the first of them begins at byte 0
abbrev pub begun : ℕ → List ℕ → List ℕ
begun byte [] = []
begun byte (c ∷ cs) = cond (byte == 0) [] (c ∷ begun (byte - bytes_of (c ∷ [])) cs)

-- the line after the characters that begin on the line
abbrev pub line_after : ℕ → List ℕ → ℕ
line_after line [] = line
line_after line (c ∷ cs) = line_after (cond (c == 10) (line + 1) line) cs

-- The column after the characters that begin at the column. A line feed leads to the first one, and any other character
-- takes one.
abbrev pub column_after : ℕ → List ℕ → ℕ
column_after column [] = column
column_after column (c ∷ cs) = column_after (cond (c == 10) 1 (column + 1)) cs

-- the byte of the text is at the line and the column
pub record IsAt (text : List ℕ) (byte line column : ℕ) : Type 0 where
  pub line_is : line ≡ line_after 1 (begun byte (chars text))
  pub column_is : column ≡ column_after 1 (begun byte (chars text))
