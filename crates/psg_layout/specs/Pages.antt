-- Lines and columns, and what is written of a text as its tokens with their gaps.
use Rattle.std.specs.Prelude.{ℕ, ◌+◌, ◌==◌, Bool, true, false, cond, List, [], ◌∷◌, ◌++◌, replicate, sum_by, unwrap_or}
use Rattle.std.specs.Prelude.{Option, Some, None, chars}
use Rattle.std.specs.List.{list_any}
use Rattle.unicode_width.specs.Width.{char_width}
use Rattle.psg_grammar.specs.declared.types.Item.{Item}
use Rattle.psg_unparse.specs.Rows.{Piece, token, mark}
use Rattle.psg_unparse.specs.Layout.{gap, last_in, lead}
use Rattle.psg_unparse.specs.Spaced.{Put}

-- ---- lines and columns

-- the columns of a character; one without a width has none
abbrev pub width_of : ℕ → ℕ
width_of c = unwrap_or (char_width false c) 0

-- the columns of characters side by side
abbrev pub columns : List ℕ → ℕ
columns cs = sum_by width_of cs

abbrev pub has_feed : List ℕ → Bool
has_feed cs = list_any (λ c. c == 10) cs

-- the characters after the last line feed, or all of them
abbrev pub last_line : List ℕ → List ℕ
last_line [] = []
last_line (c ∷ cs) = cond (has_feed cs) (last_line cs) (cond (c == 10) cs (c ∷ cs))

-- how many spaces are in front
abbrev pub spaces_before : List ℕ → ℕ
spaces_before [] = 0
spaces_before (c ∷ cs) = cond (c == 32) (1 + spaces_before cs) 0

-- ---- what is written so far

-- A page is what is written so far: the row before, its tokens with their gaps, and, where the next token is to begin a
-- line, how many spaces are in front of it. A break is asked for before its token is written, since marks and brackets
-- may be between.
pub record Page : Type 0 where
  pub before : List Piece
  pub puts : List Put
  pub broken : Option ℕ

-- the characters of the tokens with their gaps; gaps are of ASCII
abbrev pub chars_in : List Put → List ℕ
chars_in [] = []
chars_in (p ∷ ps) = p.gap ++ (chars p.text ++ chars_in ps)

-- the characters that a row adds to the plain text of the row before it
abbrev pub plain_chars : List Piece → List Piece → List ℕ
plain_chars before [] = []
plain_chars before (token t ∷ rest) = gap before t ++ (chars t ++ plain_chars (before ++ token t ∷ []) rest)
plain_chars before (mark i ∷ rest) = plain_chars (before ++ mark i ∷ []) rest

abbrev pub new_page : Page
new_page = record { before = []; puts = []; broken = None }

-- the gap that the break asks for; without one, the gap of the plain text
abbrev pub broken_gap : Option ℕ → List ℕ → List ℕ
broken_gap None plain = plain
broken_gap (Some n) plain = 10 ∷ replicate n 32

-- in front of the first token of all nothing is printed
abbrev pub gap_by : Option ℕ → Option ℕ → List ℕ → List ℕ
gap_by None broken plain = []
gap_by (Some c) broken plain = broken_gap broken plain

-- the gap in front of a token
abbrev pub gap_on : Page → List ℕ → List ℕ
gap_on p t = gap_by (last_in None p.before) p.broken (gap p.before t)

-- the gap in front of the first token of a row (what a row without a token has is never seen)
abbrev pub lead_on : Page → List Piece → List ℕ
lead_on p r = gap_by (last_in None p.before) p.broken (lead p.before r)

-- a mark is written
abbrev pub with_mark : Page → Item → Page
with_mark p i = record { before = p.before ++ mark i ∷ []; puts = p.puts; broken = p.broken }

-- a token is written; a break is used up by it
abbrev pub with_token : Page → List ℕ → Page
with_token p t = record {
  before = p.before ++ token t ∷ [];
  puts = p.puts ++ record { gap = gap_on p t; text = t } ∷ [];
  broken = None;
}

abbrev pub with_row : Page → List Piece → Page
with_row p [] = p
with_row p (token t ∷ rest) = with_row (with_token p t) rest
with_row p (mark i ∷ rest) = with_row (with_mark p i) rest

-- another break is asked for
abbrev pub with_break : Page → Option ℕ → Page
with_break p broken = record { before = p.before; puts = p.puts; broken = broken }

-- a token is in the row
abbrev pub has_tokens : List Piece → Bool
has_tokens [] = false
has_tokens (token t ∷ rest) = true
has_tokens (mark i ∷ rest) = has_tokens rest

-- the line on which the first token of a row would be written, up to that token
abbrev pub line_on : Page → List Piece → List ℕ
line_on p r = last_line (chars_in p.puts ++ lead_on p r)
