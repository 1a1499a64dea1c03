-- The word around a byte of a text.
use Rattle.std.specs.Prelude.{ℕ, zero, suc, ◌≡◌, ◌<◌, ◌≤◌, ◌==◌, ◌&&◌, ◌||◌, nat_le, Bool, true, false, List}
use Rattle.std.specs.Prelude.{Option, Some, None, slice_get}
use Rattle.psg_completing.specs.declared.around.Word.{Word}

-- a byte of a word: a digit, a letter, `_`, or one of a character beyond ASCII
abbrev pub is_word : ℕ → Bool
is_word b = (nat_le 48 b && nat_le b 57) || (nat_le 65 b && nat_le b 90) || (nat_le 97 b && nat_le b 122) || b == 95
    || nat_le 128 b

abbrev pub is_word_byte : Option ℕ → Bool
is_word_byte None = false
is_word_byte (Some b) = is_word b

abbrev pub is_mark_byte : Option ℕ → Bool
is_mark_byte None = false
is_mark_byte (Some b) = b == 63

-- the byte at the place, and the one before it: whether it is one of a word, and whether it is `?`
abbrev pub is_word_at : List ℕ → ℕ → Bool
is_word_at text place = is_word_byte (slice_get text place)

abbrev pub is_mark_at : List ℕ → ℕ → Bool
is_mark_at text place = is_mark_byte (slice_get text place)

abbrev pub is_word_before : List ℕ → ℕ → Bool
is_word_before text zero = false
is_word_before text (suc place) = is_word_at text place

abbrev pub is_mark_before : List ℕ → ℕ → Bool
is_mark_before text zero = false
is_mark_before text (suc place) = is_mark_at text place

-- the bytes from one place up to another are all that is there of a word
pub record IsRun (text : List ℕ) (from to : ℕ) : Type 0 where
  pub order : from ≤ to
  pub words : (k : ℕ) → from ≤ k → k < to → is_word_at text k ≡ true
  pub before : is_word_before text from ≡ false
  pub behind : is_word_at text to ≡ false

-- The word around a byte, with a `?` in front of it. At a `?` with no word before it, it is the word after that.
pub data IsWordAround (text : List ℕ) (byte : ℕ) (w : Word) : Type 0 where
  marked : IsRun text w.inner w.to → w.inner ≤ byte → byte ≤ w.to → w.inner ≡ suc w.from
      → is_mark_at text w.from ≡ true → IsWordAround text byte w
  marked_here : IsRun text w.inner w.to → w.from ≡ byte → w.inner ≡ suc byte → is_mark_at text byte ≡ true
      → is_word_before text byte ≡ false → is_mark_before text byte ≡ false → IsWordAround text byte w
  unmarked : IsRun text w.inner w.to → w.inner ≤ byte → byte ≤ w.to → w.from ≡ w.inner
      → is_mark_before text w.inner ≡ false → (w.inner ≡ byte → is_mark_at text byte ≡ false)
      → IsWordAround text byte w
