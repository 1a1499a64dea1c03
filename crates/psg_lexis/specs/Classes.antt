-- The classes of a character. No character is of two of them: all but the starts of words are ASCII marks and digits.
use Rattle.std.specs.Prelude.{ℕ, ◌≡◌, ◌⊎◌, ◌==◌, ◌||◌, ◌&&◌, nat_le, Bool, true, false, List, [], ◌∷◌, codes, IsTrue}
use Rattle.std.specs.List.{AllByRecursion, list_any}
use Rattle.psg_terms.specs.Words.{goes_on_word}

-- characters, by their numbers
abbrev pub Chars : Type 0
Chars = List ℕ

-- space, tab, line feed, carriage return
abbrev pub is_blank : ℕ → Bool
is_blank c = (c == 32) || (c == 9) || (c == 10) || (c == 13)

-- `0` to `9`; digits of other scripts are none
abbrev pub is_digit : ℕ → Bool
is_digit c = nat_le 48 c && nat_le c 57

-- a character that is a token by itself
abbrev pub is_solo : ℕ → Bool
is_solo c = list_any (λ d. c == d) (codes "()[]{},;")

-- a character of runs of symbols
abbrev pub is_symbol : ℕ → Bool
is_symbol c = list_any (λ d. c == d) (codes "+-*/%<>=!&|^~:.@#$")

-- the characters that follow a backslash in a text: a quote, a backslash, `n`
abbrev pub is_escape : ℕ → Bool
is_escape c = (c == 34) || (c == 92) || (c == 110)

-- each character passes the test
abbrev pub All : (ℕ → Bool) → Chars → Type 0
All test = AllByRecursion (λ c. IsTrue (test c))

-- there is a first character, and it passes the test
abbrev pub begins_by : (ℕ → Bool) → Chars → Bool
begins_by test [] = false
begins_by test (c ∷ cs) = test c

-- there is a first character, and it passes the test
abbrev pub BeginsBy : (ℕ → Bool) → Chars → Type 0
BeginsBy test cs = begins_by test cs ≡ true

-- a run of characters that pass the test ends before these
abbrev pub EndsBy : (ℕ → Bool) → Chars → Type 0
EndsBy test cs = begins_by test cs ≡ false

-- the characters are the longest run of those that pass the test, and not none; the others follow
pub record IsLongest (test : ℕ → Bool) (run follow : Chars) : Type 0 where
  pub begins : BeginsBy test run
  pub all : All test run
  pub ends : EndsBy test follow

-- two characters that would run together into one token
abbrev pub Glue : ℕ → ℕ → Type 0
Glue a b = (IsTrue (goes_on_word a) × IsTrue (goes_on_word b)) ⊎ (IsTrue (is_symbol a) × IsTrue (is_symbol b))
