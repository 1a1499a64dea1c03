-- The first line of the bytes of a kept fragment: it has the name of the fragment and that of its kind.
use Rattle.std.specs.Prelude.{ℕ, ◌≡◌, ◌⊎◌, ◌==◌, not, Bool, List, ◌∷◌, ◌++◌, codes, IsUtf8}
use Rattle.std.specs.List.{before_first, after_first}
use Rattle.std.specs.Str.Lines.{strip_carriage_return}
use Rattle.psg_script.specs.Forms.{IsName, IsWord}

-- what is written: the words `fragment` and `2`, the name and one more word, with one space between
abbrev pub head_of : List ℕ → List ℕ → List ℕ
head_of name word = codes "fragment 2 " ++ (name ++ 32 ∷ word)

-- the older form, which is read too: it has no `2`
abbrev pub older_head_of : List ℕ → List ℕ → List ℕ
older_head_of name word = codes "fragment " ++ (name ++ 32 ∷ word)

-- The line is a head of either form. A name begins with a letter, so `2` is none, and a line has one name and one word.
pub record IsHead (line name word : List ℕ) : Type 0 where
  pub named : IsName name
  pub more : IsWord word
  pub written : (line ≡ head_of name word) ⊎ (line ≡ older_head_of name word)

-- a byte of a word, as a test
abbrev pub is_in_word : ℕ → Bool
is_in_word b = not (b == 32)

abbrev pub is_feed : ℕ → Bool
is_feed b = b == 10

-- the first line of the bytes, without its line feed and one carriage return at its end
abbrev pub first_line : List ℕ → List ℕ
first_line bytes = strip_carriage_return (before_first is_feed bytes)

-- what is after the line feed of the first line; nothing where there is none
abbrev pub text_in : List ℕ → List ℕ
text_in bytes = after_first is_feed bytes

-- the bytes are UTF-8, and their first line is a head with this name and this word
pub record HasHead (bytes name word : List ℕ) : Type 0 where
  pub utf8 : IsUtf8 bytes
  pub head : IsHead (first_line bytes) name word
