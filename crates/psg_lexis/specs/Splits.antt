-- A text cut between two of its characters.
use Rattle.std.specs.Prelude.{ℕ, ◌≡◌, Bool, List, ◌∷◌, ◌++◌, encode_utf8, encode_utf8_all, chars, IsUtf8}
use Rattle.psg_terms.specs.Words.{goes_on_word}
use Rattle.psg_lexis.specs.Classes.{is_digit, is_symbol, All, EndsBy}
use Rattle.psg_lexis.specs.declared.classes.Run.{Run}
use Rattle.psg_lexis.specs.declared.classes.Run.TheVariants as runs

-- the text is the character and what follows it
pub record IsFirst (text : List ℕ) (c : ℕ) (rest : List ℕ) : Type 0 where
  pub bytes : text ≡ encode_utf8 c ++ rest
  pub characters : chars text ≡ c ∷ chars rest
  pub utf8 : IsUtf8 rest

-- whether a run of this kind has the character
abbrev pub takes : Run → ℕ → Bool
takes runs.Word = goes_on_word
takes runs.Digits = is_digit
takes runs.Symbols = is_symbol

-- front is the longest run at the beginning of the text of characters that pass the test, and rest is what follows it
pub record IsRun (test : ℕ → Bool) (text front rest : List ℕ) : Type 0 where
  pub bytes : text ≡ front ++ rest
  pub encoded : encode_utf8_all (chars front) ≡ front
  pub characters : chars text ≡ chars front ++ chars rest
  pub run : All test (chars front)
  pub ends : EndsBy test (chars rest)
  pub utf8 : IsUtf8 rest
