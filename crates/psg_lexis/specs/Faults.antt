-- The first place at which a text has no token.
use Rattle.std.specs.Prelude.{ℕ, ◌≡◌, ◌≢◌, ◌⊎◌, ◌<◌, ◌≤◌, ◌+◌, ◌^◌, ◌==◌, ◌||◌, ◌&&◌, not, Bool, false, None, List, []}
use Rattle.std.specs.Prelude.{◌∷◌, ◌++◌, encode_utf8_all, IsTrue}
use Rattle.unicode_width.specs.Width.{char_width}
use Rattle.psg_terms.specs.Names.{Name, is_among}
use Rattle.psg_terms.specs.Words.{starts_word, goes_on_word, IsWord}
use Rattle.psg_lexis.specs.Classes.{Chars, is_blank, is_digit, is_solo, is_symbol, is_escape, All, EndsBy}
use Rattle.psg_lexis.specs.Classes.{BeginsBy, IsLongest}
use Rattle.psg_lexis.specs.Tokens.{bytes_of, dots, value_of, is_content, quoted, Begins}
use Rattle.psg_lexis.specs.declared.token.Spanned.{Spanned}
use Rattle.psg_lexis.specs.declared.token.LexFault.{LexFault}
use Rattle.psg_lexis.specs.declared.token.LexFault.TheVariants as faults

-- after an opening quote its closing one follows on the same line; `escaped` says that a backslash is before, so
-- that the character doesn't close
abbrev pub is_closed : Bool → Chars → Bool
is_closed escaped [] = false
is_closed escaped (c ∷ cs) =
    not (c == 10) && ((not escaped && (c == 34)) || is_closed (not escaped && (c == 92)) cs)

-- no token and no blank begins with the character
pub record BeginsNone (c : ℕ) : Type 0 where
  pub blank : is_blank c ≡ false
  pub word : starts_word c ≡ false
  pub digit : is_digit c ≡ false
  pub solo : is_solo c ≡ false
  pub symbol : is_symbol c ≡ false
  pub quote : c ≢ 34
  pub question : c ≢ 63

-- a place inside a quoted text that is closed on its line: these are the contents before it, and these characters
-- follow
pub record IsInside (before : Chars) (follows : Chars) : Type 0 where
  pub contents : All is_content before
  pub closed : IsTrue (is_closed false (quoted before ++ follows))

module _ (fixed : List Name) where
  -- the characters, the first of which is at the byte `at`, begin with neither a token nor a blank. The place of a
  -- fault inside a quoted text is after the quote and what is written before.
  pub data IsFault : Chars → ℕ → LexFault → Type 0 where
    no_token : (c : ℕ) (cs : Chars) (at : ℕ) → BeginsNone c → IsFault (c ∷ cs) at (faults.BadChar at)
    no_hole : (cs : Chars) (at : ℕ) → EndsBy starts_word cs → IsFault (63 ∷ cs) at (faults.BadChar at)
    no_width : (before all : Chars) (c : ℕ) (cs : Chars) (at : ℕ) → all ≡ quoted before ++ c ∷ cs
        → IsInside before (c ∷ cs)
        → char_width false c ≡ None
        → IsFault (34 ∷ all) at (faults.BadChar (at + bytes_of (34 ∷ quoted before)))
    no_escape : (before all cs : Chars) (at : ℕ) → all ≡ quoted before ++ 92 ∷ cs → IsInside before (92 ∷ cs)
        → EndsBy is_escape cs
        → IsFault (34 ∷ all) at (faults.BadRun (at + bytes_of (34 ∷ quoted before)))
    no_symbol : (cs all rest : Chars) (at : ℕ) → all ≡ cs ++ rest → IsLongest is_symbol cs rest
        → is_among fixed (encode_utf8_all cs) ≡ false → cs ≢ dots → IsFault all at (faults.BadRun at)
    no_number : (cs all rest : Chars) (at : ℕ) → all ≡ cs ++ rest → IsLongest is_digit cs rest
        → BeginsBy goes_on_word rest
        → IsFault all at (faults.BadRun at)
    unended : (cs : Chars) (at : ℕ) → is_closed false cs ≡ false → IsFault (34 ∷ cs) at (faults.Unended at)
    large_word : (cs all rest : Chars) (at : ℕ) → all ≡ cs ++ rest → IsWord cs → EndsBy goes_on_word rest
        → 255 < bytes_of cs
        → IsFault all at (faults.TooLarge at)
    large_hole : (cs all rest : Chars) (at : ℕ) → all ≡ cs ++ rest → IsWord cs → EndsBy goes_on_word rest
        → 255 < bytes_of cs
        → IsFault (63 ∷ all) at (faults.TooLarge (at + 1))
    large_number : (cs all rest : Chars) (at : ℕ) → all ≡ cs ++ rest → IsLongest is_digit cs rest
        → EndsBy goes_on_word rest
        → 2 ^ 128 ≤ value_of cs → IsFault all at (faults.TooLarge at)
    large_text : (before all rest : Chars) (at : ℕ) → all ≡ quoted before ++ 34 ∷ rest → All is_content before
        → 4096 < bytes_of before
        → IsFault (34 ∷ all) at (faults.TooLarge at)

  -- from the byte `at` on the characters have tokens and blanks, and then this fault
  pub data HasFault : Chars → ℕ → LexFault → Type 0 where
    here : (all : Chars) (at : ℕ) (fault : LexFault) → IsFault all at fault → HasFault all at fault
    blank : (c : ℕ) (cs : Chars) (at : ℕ) (fault : LexFault) → IsTrue (is_blank c) → HasFault cs (at + 1) fault
        → HasFault (c ∷ cs) at fault
    later : (all : Chars) (at : ℕ) (s : Spanned) (fault : LexFault) (begins : Begins fixed all at s)
        → HasFault begins.rest s.end fault → HasFault all at fault

-- the fact holds of the fault, or there was no memory
abbrev pub OrMemory : (LexFault → Type 0) → LexFault → Type 0
OrMemory P fault = (fault ≡ faults.Memory) ⊎ P fault
