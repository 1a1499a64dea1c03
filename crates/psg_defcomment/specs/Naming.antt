-- The line that names the token of comments: `comment` and a quoted text.
use Rattle.std.specs.Prelude.{ℕ, ◌==◌, ◌&&◌, nat_le, not, Bool, true, false, cond, Option, Some, None, option_map}
use Rattle.std.specs.Prelude.{List, [], ◌∷◌, length, take, drop, codes, chars, encode_utf8_all, bytes_eq}
use Rattle.std.specs.Str.{is_utf8}
use Rattle.psg_terms.specs.Names.{Name}
use Rattle.psg_lexis.specs.Classes.{Chars, is_escape}
use Rattle.psg_lexis.specs.Tokens.{is_content}

-- what follows the spaces at the beginning of a text
abbrev pub past_spaces : List ℕ → List ℕ
past_spaces [] = []
past_spaces (c ∷ cs) = cond (c == 32) (past_spaces cs) (c ∷ cs)

-- what the character after a backslash says: `n` a line feed, and any other one itself
abbrev pub said : ℕ → ℕ
said c = cond (c == 110) 10 c

-- a character that is written as it is between quotes
abbrev pub is_plain : ℕ → Bool
is_plain c = is_content c && not (c == 10)

-- nothing follows the closing quote
abbrev pub closed : Chars → Option Chars
closed [] = Some []
closed (c ∷ cs) = None

-- The contents of a quoted text, where the characters are all that follows its opening quote; `escaped` says that a
-- backslash is before them.
abbrev pub contents : Bool → Chars → Option Chars
contents escaped [] = None
contents true (c ∷ cs) = cond (is_escape c) (option_map (λ w. said c ∷ w) (contents false cs)) None
contents false (c ∷ cs) =
    cond (c == 34) (closed cs)
    (cond (c == 92) (contents true cs) (cond (is_plain c) (option_map (λ w. c ∷ w) (contents false cs)) None))

-- a text of at most 4,096 bytes
abbrev pub short : Option Chars → Option Name
short None = None
short (Some w) = cond (nat_le (length (encode_utf8_all w)) 4096) (Some (encode_utf8_all w)) None

-- the contents of a quoted text, where the characters are one
abbrev pub quoted_by : Chars → Option Name
quoted_by [] = None
quoted_by (c ∷ cs) = cond (c == 34) (short (contents false cs)) None

-- the contents of a quoted text, where the bytes are one
abbrev pub quoted_in : List ℕ → Option Name
quoted_in part = cond (is_utf8 part) (quoted_by (chars part)) None

-- the token that the line names: the word `comment`, any number of spaces, and the token as a quoted text
abbrev pub token_of : List ℕ → Option Name
token_of line = cond (bytes_eq (take 7 line) (codes "comment")) (quoted_in (past_spaces (drop 7 line))) None
