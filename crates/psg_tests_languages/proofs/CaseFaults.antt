-- The first fault of a text and its place, and the sizes that words and numbers just may have.
use Rattle.std.proofs.Common.{◌≡◌, ◌++◌, ◌<◌, ◌≤◌, ◌∙◌, ℕ, zero, suc, List, [], ◌∷◌, codes, refl, sym, ap, subst, true, false, true≢false, nat_eq, lit<, lit≤}
use Rattle.std.specs.Prelude.{encode_utf8_all}
use Rattle.std.specs.List.{AllByRecursion}
use Rattle.unicode_width.specs.Width.{char_width}
use Rattle.psg_terms.specs.Names.{Name}
use Rattle.psg_terms.specs.Words.{goes_on_word, IsWord}
use Rattle.psg_lexis.specs.Classes.{Chars}
use Rattle.psg_lexis.specs.Tokens.{bytes_of, IsToken, word, number, Begins}
use Rattle.psg_lexis.specs.Faults.{BeginsNone, no_token, no_hole, no_width, no_escape, no_symbol, no_number, unended, large_word, large_hole, large_number, HasFault, here, blank, later}
use Rattle.psg_lexis.specs.declared.token.Token.TheVariants as tokens
use Rattle.psg_lexis.specs.declared.token.LexFault.TheVariants as faults
use Rattle.psg_tests_languages.proofs.CaseTokens.{starts, goes_on}

abbrev fixed : List Name
fixed = codes "let" ∷ codes "=" ∷ []

no_character : (c d : ℕ) → nat_eq d d ≡ true → nat_eq c d ≡ false → c ≡ d → ⊥
no_character c d same other e = true≢false (sym same ∙ ap (λ n. nat_eq n d) (sym e) ∙ other)

-- ---- characters that begin no token

-- `x '`: the apostrophe, at byte 2
abbrev token_x : Begins fixed (codes "x '") 0 record { token = tokens.Word (codes "x"); start = 0; end = 1 }
unfolding lib.Utf8.encode
token_x = record { front = codes "x"; rest = codes " '"; whole = refl; token = word (codes "x") _ (starts 120 (lit< tt), tt) (goes_on 32 (lit< tt)) (lit≤ tt); starts = refl; ends = refl }

apostrophe : BeginsNone 39
apostrophe = record { blank = refl; word = starts 39 (lit< tt); digit = refl; solo = refl; symbol = refl; quote = no_character 39 34 refl refl; question = no_character 39 63 refl refl }

bad_character : HasFault fixed (codes "x '") 0 (faults.BadChar 2)
unfolding lib.Utf8.encode
bad_character = later _ 0 _ _ token_x (blank 32 _ 1 _ refl (here _ 2 _ (no_token 39 [] 2 apostrophe)))

-- a question mark that no word follows
no_word_after : HasFault fixed (codes "?7") 0 (faults.BadChar 0)
no_word_after = here _ 0 _ (no_hole (codes "7") 0 (starts 55 (lit< tt)))

-- ---- runs

no_dots : codes "==" ≡ codes "..." → ⊥
no_dots e = cc

bad_symbol : HasFault fixed (codes "==") 0 (faults.BadRun 0)
unfolding lib.Utf8.encode
bad_symbol = here _ 0 _ (no_symbol (codes "==") _ [] 0 refl record { begins = refl; all = (refl, (refl, tt)); ends = refl } refl no_dots)

bad_number : HasFault fixed (codes "7x") 0 (faults.BadRun 0)
bad_number = here _ 0 _ (no_number (codes "7") _ (codes "x") 0 refl record { begins = refl; all = (refl, tt); ends = refl } (goes_on 120 (lit< tt)))

-- ---- quoted texts

-- `"a\q"`: the backslash, at byte 2
bad_escape : HasFault fixed (codes "\"a\\q\"") 0 (faults.BadRun 2)
unfolding lib.Utf8.encode char_width
bad_escape = here _ 0 _ (no_escape (codes "a") _ (codes "q\"") 0 refl record { contents = (refl, tt); closed = refl } refl)

-- a tab, which has no width, at byte 1
no_tab : HasFault fixed (34 ∷ 9 ∷ 34 ∷ []) 0 (faults.BadChar 1)
unfolding lib.Utf8.encode char_width
no_tab = here _ 0 _ (no_width [] _ 9 (34 ∷ []) 0 refl record { contents = tt; closed = refl } refl)

-- a quote that is not closed, or not on its line, or whose closing one is escaped
not_closed : HasFault fixed (codes "\"a") 0 (faults.Unended 0)
not_closed = here _ 0 _ (unended (codes "a") 0 refl)

closed_later : HasFault fixed (34 ∷ 97 ∷ 10 ∷ 34 ∷ []) 0 (faults.Unended 0)
closed_later = here _ 0 _ (unended (97 ∷ 10 ∷ 34 ∷ []) 0 refl)

closed_by_escape : HasFault fixed (codes "\"a\\\"") 0 (faults.Unended 0)
closed_by_escape = here _ 0 _ (unended (codes "a\\\"") 0 refl)

-- ---- sizes

-- 2^128 - 1 is a number, and 2^128 is too large
abbrev largest : Chars
largest = codes "340282366920938463463374607431768211455"

abbrev too_large : Chars
too_large = codes "340282366920938463463374607431768211456"

largest_number : IsToken fixed largest [] (tokens.Number 340282366920938463463374607431768211455)
largest_number = number largest [] record { begins = refl; all = (refl, (refl, (refl, (refl, (refl, (refl, (refl, (refl, (refl, (refl, (refl, (refl, (refl, (refl, (refl, (refl, (refl, (refl, (refl, (refl, (refl, (refl, (refl, (refl, (refl, (refl, (refl, (refl, (refl, (refl, (refl, (refl, (refl, (refl, (refl, (refl, (refl, (refl, (refl, tt))))))))))))))))))))))))))))))))))))))); ends = refl } refl (lit< tt)

large : HasFault fixed too_large 0 (faults.TooLarge 0)
large = here _ 0 _ (large_number too_large _ [] 0 refl record { begins = refl; all = (refl, (refl, (refl, (refl, (refl, (refl, (refl, (refl, (refl, (refl, (refl, (refl, (refl, (refl, (refl, (refl, (refl, (refl, (refl, (refl, (refl, (refl, (refl, (refl, (refl, (refl, (refl, (refl, (refl, (refl, (refl, (refl, (refl, (refl, (refl, (refl, (refl, (refl, (refl, tt))))))))))))))))))))))))))))))))))))))); ends = refl } refl (lit≤ tt))

-- n marks `_`
marks : ℕ → Chars
marks zero = []
marks (suc n) = 95 ∷ marks n

bytes-marks : (n : ℕ) → bytes_of (marks n) ≡ n
unfolding marks lib.Utf8.encode
bytes-marks zero = refl
bytes-marks (suc n) = ap (λ k. suc k) (bytes-marks n)

all_go_on : (n : ℕ) → AllByRecursion (λ d. goes_on_word d ≡ true) (marks n)
unfolding marks
all_go_on zero = tt
all_go_on (suc n) = (goes_on 95 (lit< tt), all_go_on n)

are_word : (n : ℕ) → IsWord (marks (suc n))
unfolding marks
are_word n = (starts 95 (lit< tt), all_go_on n)

-- a word of 255 bytes is a token, and one of 256 is too large, as the word of a placeholder is at its own beginning
longest_word : IsToken fixed (marks 255) [] (tokens.Word (encode_utf8_all (marks 255)))
longest_word = word (marks 255) [] (are_word 254) refl (subst (λ n. n ≤ 255) (sym (bytes-marks 255)) (lit≤ tt))

long_word : HasFault fixed (marks 256 ++ []) 0 (faults.TooLarge 0)
long_word = here _ 0 _ (large_word (marks 256) _ [] 0 refl (are_word 255) refl (subst (λ n. 255 < n) (sym (bytes-marks 256)) (lit< tt)))

long_hole : HasFault fixed (63 ∷ marks 256 ++ []) 0 (faults.TooLarge 1)
long_hole = here _ 0 _ (large_hole (marks 256) _ [] 0 refl (are_word 255) refl (subst (λ n. 255 < n) (sym (bytes-marks 256)) (lit< tt)))
