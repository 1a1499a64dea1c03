-- What a definition file of version 3 is without its lines on comments: a file of version 2.
use Rattle.std.specs.Prelude.{ℕ, ◌+◌, ◌&&◌, Bool, false, cond, Option, Some, None, List, [], ◌∷◌, ◌++◌, map}
use Rattle.std.specs.Prelude.{take, drop, codes, bytes_eq}
use Rattle.std.specs.Str.{is_utf8}
use Rattle.std.specs.Str.Lines.{lines}
use Rattle.psg_terms.specs.Names.{Name}
use Rattle.psg_deflines.specs.Entries.{behind_head}
use Rattle.psg_defcomment.specs.Naming.{past_spaces, token_of}
use Rattle.psg_defcomment.specs.declared.lines.Named.{Named}

-- the line is the head of version 3: `psg`, one or more spaces, and `3`
abbrev pub is_head : List ℕ → Bool
is_head line = bytes_eq (take 4 line) (codes "psg ") && bytes_eq (past_spaces (drop 4 line)) (codes "3")

-- the first of the lines is that head
abbrev pub has_head : List (List ℕ) → Bool
has_head [] = false
has_head (line ∷ rest) = is_head line

-- the bytes are UTF-8, and a file of version 3
abbrev pub is_third : List ℕ → Bool
is_third bytes = is_utf8 bytes && has_head (lines bytes)

-- nothing, where a token is named
abbrev pub unless_named : Option Name → List ℕ → List ℕ
unless_named None line = line
unless_named (Some token) line = []

-- a line that names a token of comments is empty here, and each other one is as it is
abbrev pub plain_line : List ℕ → List ℕ
plain_line line = unless_named (token_of line) line

-- The lines one after the other, with a carriage return and a line feed after each. So a line that ends with a carriage
-- return keeps it.
abbrev pub joined : List (List ℕ) → List ℕ
joined [] = []
joined (line ∷ rest) = line ++ (13 ∷ 10 ∷ joined rest)

-- A file of version 3 as one of version 2, line by line: without the lines that name a token of comments, which are
-- empty. Other bytes are as they are.
abbrev pub plain_of : List ℕ → List ℕ
plain_of bytes = cond (is_third bytes) (joined (codes "psg 2" ∷ map plain_line (behind_head (lines bytes)))) bytes

-- a line that names a token, and those after it
abbrev pub with_named : ℕ → Option Name → List Named → List Named
with_named line None rest = rest
with_named line (Some token) rest = record { line = line; token = token } ∷ rest

-- the tokens that lines name, the first of which is at the number
abbrev pub named_from : ℕ → List (List ℕ) → List Named
named_from number [] = []
named_from number (line ∷ rest) = with_named number (token_of line) (named_from (number + 1) rest)

-- the lines of a file that name a token of comments, in order; only a file of version 3 has such lines
abbrev pub named_in : List ℕ → List Named
named_in bytes = cond (is_third bytes) (named_from 2 (behind_head (lines bytes))) []
