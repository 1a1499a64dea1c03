-- The text that a definition is written as: the head of its version and then its lines, each with a line feed.
use Rattle.std.specs.Prelude.{ℕ, ◌+◌, List, [], ◌∷◌, ◌++◌, codes, map}
use Rattle.psg_grammar.specs.declared.types.Definition.{Definition}
use Rattle.psg_deflines.specs.Forms.{parts_of}
use Rattle.psg_deflines.specs.LineTexts.{spaced}
use Rattle.psg_deflines.specs.declared.lines.Line.{Line}
use Rattle.psg_defread.specs.WrittenLines.{lines_of}

-- each text with a line feed after it
abbrev pub fed : List (List ℕ) → List ℕ
fed [] = []
fed (t ∷ ts) = t ++ 10 ∷ fed ts

-- the first line: the word and the digit of the version
abbrev pub head_text : ℕ → List ℕ
head_text version = codes "psg " ++ (48 + version) ∷ []

-- the text of a line: its parts with one space between two of them
abbrev pub line_text : Line → List ℕ
line_text line = spaced (parts_of line)

-- the text of the definition
abbrev pub text_of : Definition → List ℕ
text_of def = fed (head_text def.version ∷ map line_text (lines_of def))
