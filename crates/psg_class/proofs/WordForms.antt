-- The test of words says what a word is.
use Rattle.std.proofs.Common.{◌≡◌, ℕ, IsTrue, Bool, true, false, ◌&&◌, List, [], ◌∷◌, refl}
use Rattle.std.specs.Prelude.{chars, encode_utf8_all, bytes_eq}
use Rattle.std.specs.List.{list_all, AllByRecursion}
use Rattle.std.proofs.lemmas.Bool.{and_parts, false≢true}
use Rattle.psg_terms.specs.Words.{starts_word, goes_on_word, IsWord}
use Rattle.psg_class.specs.Terminals.{are_word, is_word}

all_of : (test : ℕ → Bool) (cs : List ℕ) → list_all test cs ≡ true → AllByRecursion (λ d. IsTrue (test d)) cs
all_of test [] e = tt
all_of test (c ∷ cs) e = ((and_parts (test c) (list_all test cs) e).0, all_of test cs (and_parts (test c) (list_all test cs) e).1)

said : (cs : List ℕ) → are_word cs ≡ true → IsWord cs
said [] e = absurd (false≢true e)
said (c ∷ cs) e = ((and_parts (starts_word c) (list_all goes_on_word cs) e).0, all_of goes_on_word cs (and_parts (starts_word c) (list_all goes_on_word cs) e).1)

pub is_word_says : (text : List ℕ) → is_word text ≡ true → IsWord (chars text)
is_word_says text e = said (chars text) (and_parts (are_word (chars text)) (bytes_eq (encode_utf8_all (chars text)) text) e).0
