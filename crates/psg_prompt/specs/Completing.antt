-- What Tab makes of the word before the cursor.
use Rattle.std.specs.Prelude.{ℕ, ◌+◌, ◌-◌, ◌==◌, not, Bool, true, false, List, [], ◌∷◌, ◌++◌, Option, Some, None}
use Rattle.std.specs.Prelude.{length, take, drop, reverse, if◌then◌else◌}
use Rattle.std.specs.List.{prefix_len}
use Rattle.psg_prompt.specs.Rows.{encoded}

-- the words that may begin a line, and those that may follow
pub record WordLists : Type 0 where
  pub first : List (List ℕ)
  pub others : List (List ℕ)

abbrev pub is_space : ℕ → Bool
is_space c = c == 32

abbrev pub is_letter : ℕ → Bool
is_letter c = not (c == 32)

-- where the word begins that ends at the cursor
abbrev pub word_start : List ℕ → ℕ
word_start before = length before - prefix_len is_letter (reverse before)

abbrev pub word_of : List ℕ → List ℕ
word_of before = drop (word_start before) before

-- there are only spaces before the word
abbrev pub is_first : List ℕ → Bool
is_first before = prefix_len is_space (take (word_start before) before) == word_start before

abbrev pub words_for : WordLists → List ℕ → List (List ℕ)
words_for words before = if is_first before then words.first else words.others

-- what a word has after the characters that are typed, if it begins with them
abbrev pub rest_after : List ℕ → List ℕ → Option (List ℕ)
rest_after [] word = Some word
rest_after (c ∷ typed) [] = None
rest_after (c ∷ typed) (d ∷ word) = if c == d then rest_after typed word else None

-- how many characters both begin with
abbrev pub common : List ℕ → List ℕ → ℕ
common [] other = 0
common (c ∷ one) [] = 0
common (c ∷ one) (d ∷ other) = if c == d then 1 + common one other else 0

-- what all words that were found begin with after what is typed, and whether there is only one of them
pub record Found : Type 0 where
  pub text : List ℕ
  pub alone : Bool

abbrev pub narrowed : Option Found → Option (List ℕ) → Option Found
narrowed old None = old
narrowed None (Some rest) = Some (record { text = rest; alone = true })
narrowed (Some old) (Some rest) = Some (record { text = take (common old.text rest) old.text; alone = false })

abbrev pub found_from : Option Found → List ℕ → List (List ℕ) → Option Found
found_from old typed [] = old
found_from old typed (word ∷ words) = found_from (narrowed old (rest_after typed word)) typed words

-- what is typed then: a word that is alone is ended by a space
abbrev pub ending_of : Option Found → List ℕ
ending_of None = []
ending_of (Some found) = found.text ++ (if found.alone then 32 ∷ [] else [])

abbrev pub completion : WordLists → List ℕ → List ℕ
completion words before = ending_of (found_from None (word_of before) (words_for words before))

-- the bytes of the words that begin so, each with two spaces after it
abbrev pub listed_if : List ℕ → Option (List ℕ) → List ℕ
listed_if word None = []
listed_if word (Some rest) = encoded word ++ 32 ∷ 32 ∷ []

abbrev pub listed : List ℕ → List (List ℕ) → List ℕ
listed typed [] = []
listed typed (word ∷ words) = listed_if word (rest_after typed word) ++ listed typed words

abbrev pub listing : WordLists → List ℕ → List ℕ
listing words before = listed (word_of before) (words_for words before)
