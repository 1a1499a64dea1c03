-- The tokens of a text, by its characters.
use Rattle.std.specs.Prelude.{ℕ, ◌≡◌, ◌≢◌, ◌⊎◌, ◌<◌, ◌≤◌, ◌+◌, ◌*◌, ◌-◌, ◌^◌, ◌==◌, ◌||◌, Bool, true, false, cond}
use Rattle.std.specs.Prelude.{is_some, List, [], ◌∷◌, ◌++◌, length, encode_utf8_all, codes, chars, IsTrue, IsUtf8}
use Rattle.unicode_width.specs.Width.{char_width}
use Rattle.psg_terms.specs.Names.{Name, is_among}
use Rattle.psg_terms.specs.Words.{goes_on_word, IsWord}
use Rattle.psg_lexis.specs.Classes.{Chars, is_blank, is_digit, is_solo, is_symbol, All, BeginsBy, EndsBy, IsLongest}
use Rattle.psg_lexis.specs.declared.token.Token.{Token}
use Rattle.psg_lexis.specs.declared.token.Token.TheVariants as tokens
use Rattle.psg_lexis.specs.declared.token.Spanned.{Spanned}

-- how many bytes the characters take
abbrev pub bytes_of : Chars → ℕ
bytes_of cs = length (encode_utf8_all cs)

-- the run `...`
abbrev pub dots : Chars
dots = codes "..."

-- The bytes are UTF-8, and one token of a fragment's text: a word of at most 255 bytes, a character that is a token by
-- itself, or a run of symbols other than `...`. Bytes that are not UTF-8 can have the characters of a word too.
abbrev pub IsFixedWord : List ℕ → Type 0
IsFixedWord w =
    IsUtf8 w
    × ((IsWord (chars w) × (length w ≤ 255))
    ⊎ (((c : ℕ) × (w ≡ c ∷ []) × (is_solo c ≡ true))
    ⊎ (BeginsBy is_symbol (chars w) × All is_symbol (chars w) × (chars w ≢ dots))))

-- the number that decimal digits write
abbrev pub value_of : Chars → ℕ
value_of [] = 0
value_of (c ∷ cs) = (c - 48) * 10 ^ length cs + value_of cs

-- the contents of a quoted text may have this character: one with a width, or a line feed, which is written as an
-- escape
abbrev pub is_content : ℕ → Bool
is_content c = (c == 10) || is_some (char_width false c)

-- how a character of the contents is written between the quotes, and how the contents are
abbrev pub escaped : ℕ → Chars
escaped c =
    cond (c == 34) (92 ∷ 34 ∷ []) (cond (c == 92) (92 ∷ 92 ∷ []) (cond (c == 10) (92 ∷ 110 ∷ []) (c ∷ [])))

-- the characters of a quoted text's contents, with their escapes and without the quotes
abbrev pub quoted : Chars → Chars
quoted [] = []
quoted (c ∷ cs) = escaped c ++ quoted cs

module _ (fixed : List Name) where
  -- the characters are those of the token, and those after them don't lengthen it
  pub data IsToken : Chars → Chars → Token → Type 0 where
    word : (cs rest : Chars) → IsWord cs → EndsBy goes_on_word rest → bytes_of cs ≤ 255
        → IsToken cs rest (tokens.Word (encode_utf8_all cs))
    number : (cs rest : Chars) → IsLongest is_digit cs rest → EndsBy goes_on_word rest → value_of cs < 2 ^ 128
        → IsToken cs rest (tokens.Number (value_of cs))
    text : (cs written rest : Chars) → written ≡ quoted cs ++ 34 ∷ [] → All is_content cs → bytes_of cs ≤ 4096
        → IsToken (34 ∷ written) rest (tokens.Text (encode_utf8_all cs))
    solo : (c : ℕ) (rest : Chars) → IsTrue (is_solo c) → IsToken (c ∷ []) rest (tokens.Solo c)
    symbol : (cs rest : Chars) → IsLongest is_symbol cs rest → IsTrue (is_among fixed (encode_utf8_all cs))
        → cs ≢ dots
        → IsToken cs rest (tokens.Symbol (encode_utf8_all cs))
    hole : (cs rest : Chars) → IsWord cs → EndsBy goes_on_word rest → bytes_of cs ≤ 255
        → IsToken (63 ∷ cs) rest (tokens.Hole (encode_utf8_all cs))
    more : (rest : Chars) → EndsBy is_symbol rest → IsToken dots rest tokens.More

  -- the characters begin with the token, at the byte `at`
  pub record Begins (all : Chars) (at : ℕ) (s : Spanned) : Type 0 where
    pub front : Chars
    pub rest : Chars
    pub whole : all ≡ front ++ rest
    pub token : IsToken front rest s.token
    pub starts : s.start ≡ at
    pub ends : s.end ≡ at + bytes_of front

  -- from the byte `at` on the characters have these tokens, with blanks between
  pub data HasTokens : Chars → ℕ → List Spanned → Type 0 where
    nothing : (at : ℕ) → HasTokens [] at []
    blank : (c : ℕ) (cs : Chars) (at : ℕ) (ts : List Spanned) → IsTrue (is_blank c) → HasTokens cs (at + 1) ts
        → HasTokens (c ∷ cs) at ts
    next : (all : Chars) (at : ℕ) (s : Spanned) (ts : List Spanned) (begins : Begins all at s)
        → HasTokens begins.rest s.end ts → HasTokens all at (s ∷ ts)

-- the token is not across the border between two bytes
abbrev pub IsBeside : ℕ → Spanned → Type 0
IsBeside border t = (t.end ≤ border) ⊎ (border ≤ t.start)
