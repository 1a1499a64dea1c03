-- The text of a row of tokens and marks.
use Rattle.std.specs.Prelude.{ℕ, ◌+◌, ◌-◌, ◌*◌, ◌&&◌, ◌||◌, not, Bool, true, false, cond}
use Rattle.std.specs.Prelude.{List, [], ◌∷◌, ◌++◌, replicate, Option, Some, None, chars}
use Rattle.std.specs.List.{list_any}
use Rattle.psg_terms.specs.Words.{goes_on_word}
use Rattle.psg_lexis.specs.Classes.{is_symbol}
use Rattle.psg_grammar.specs.declared.types.Item.{Item}
use Rattle.psg_grammar.specs.declared.types.Item.TheVariants as items
use Rattle.psg_grammar.specs.declared.types.Definition.{Definition}
use Rattle.psg_grammar.specs.Fragments.{Fragment}
use Rattle.psg_unparse.specs.Rows.{Piece, token, mark, row}

abbrev pub is_line : Item → Bool
is_line items.Line = true
is_line _ = false

abbrev pub is_tight : Item → Bool
is_tight items.Tight = true
is_tight _ = false

abbrev pub is_space : Item → Bool
is_space items.Space = true
is_space _ = false

-- the two characters would run together into one token
abbrev pub glues : ℕ → ℕ → Bool
glues a b = (goes_on_word a && goes_on_word b) || (is_symbol a && is_symbol b)

-- the character would run together with the first one of the characters
abbrev pub glues_first : ℕ → List ℕ → Bool
glues_first a [] = false
glues_first a (b ∷ cs) = glues a b

-- the last of the characters, or c where there is none
abbrev pub last_char : ℕ → List ℕ → ℕ
last_char c [] = c
last_char c (d ∷ ds) = last_char d ds

-- the last character of a row, if there is a token in it
abbrev pub last_in : Option ℕ → List Piece → Option ℕ
last_in c [] = c
last_in c (token t ∷ rest) = last_in (Some (last_char 0 (chars t))) rest
last_in c (mark i ∷ rest) = last_in c rest

-- the marks after the last token of a row
abbrev pub marks_behind : List Item → List Piece → List Item
marks_behind ms [] = ms
marks_behind ms (token t ∷ rest) = marks_behind [] rest
marks_behind ms (mark i ∷ rest) = marks_behind (ms ++ i ∷ []) rest

-- the levels that are open at the end of a row; an `out` with none open does nothing
abbrev pub open_behind : ℕ → List Piece → ℕ
open_behind n [] = n
open_behind n (mark items.In ∷ rest) = open_behind (n + 1) rest
open_behind n (mark items.Out ∷ rest) = open_behind (n - 1) rest
open_behind n (_ ∷ rest) = open_behind n rest

-- what the marks between two tokens print, where `levels` levels are open after them all
abbrev pub gap_of : List Item → ℕ → Bool → List ℕ
gap_of ms levels glued =
    cond (list_any is_line ms) (10 ∷ replicate (2 * levels) 32)
    (cond (list_any is_tight ms && not (list_any is_space ms)) (cond glued (32 ∷ []) []) (32 ∷ []))

-- the gap before a token of these characters, after a row with this last character; none where it has no token
abbrev pub gap_after : Option ℕ → List Piece → List ℕ → List ℕ
gap_after None before cs = []
gap_after (Some c) before cs = gap_of (marks_behind [] before) (open_behind 0 before) (glues_first c cs)

-- what is printed between a row and a token after it; nothing before the first token
abbrev pub gap : List Piece → List ℕ → List ℕ
gap before t = gap_after (last_in None before) before (chars t)

-- What a row adds to the text of the row before it. A row so adds the same bytes whatever follows it, and a tree's text
-- is cut into those of its parts.
abbrev pub laid : List Piece → List Piece → List ℕ
laid before [] = []
laid before (token t ∷ rest) = gap before t ++ (t ++ laid (before ++ token t ∷ []) rest)
laid before (mark i ∷ rest) = laid (before ++ mark i ∷ []) rest

-- the gap in front of its first token
abbrev pub lead : List Piece → List Piece → List ℕ
lead before [] = []
lead before (token t ∷ rest) = gap before t
lead before (mark i ∷ rest) = lead (before ++ mark i ∷ []) rest

-- the text of a tree: that of its row, from nothing on
abbrev pub text_of : Definition → Fragment → List ℕ
text_of def f = laid [] (row def f)
