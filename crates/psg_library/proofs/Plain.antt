-- Bytes of names and of head lines: they are ASCII, and none ends a line.
use Rattle.std.proofs.Common.{◌≡◌, ◌≢◌, ℕ, suc, ◌<◌, ◌+◌, Bool, true, false, cond, List, [], ◌∷◌, ◌++◌, length, take, drop, replicate, refl, sym, ap, ◌∙◌, subst, arith, ◌==◌, ◌&&◌, IsTrue}
use Rattle.std.specs.Prelude.{codes, not, nat_lt, nat_le, IsUtf8}
use Rattle.std.specs.List.{AllByRecursion, list_all, before_first, after_first, position_or_len}
use Rattle.std.specs.Char.{is_ascii_alphabetic}
use Rattle.std.specs.Str.{IsAscii}
use Rattle.std.proofs.lemmas.Bool.{false≢true, ltb-true}
use Rattle.std.proofs.lemmas.Bool.Decides.{nat_tests}
use Rattle.std.proofs.lemmas.Str.{IsUtf8-from_ascii}
use Rattle.std.proofs.lemmas.Str.Ascii.{IsAscii-nil, IsAscii-cons}
use Rattle.std.proofs.Math.Seq.{take-append_seam}
use Rattle.std.specs.Cmp.{first_so, second_so}
use Rattle.psg_grammar.specs.Sound as sound
use Rattle.psg_grammar.specs.Sound.{IsKindName, is_upper}
use Rattle.psg_script.specs.Forms.{IsInWord, IsWord, IsName, goes_on_name}
use Rattle.psg_library.specs.Heads.{head_of, is_feed}

-- ---- ASCII

abbrev pub AllAscii : List ℕ → Type 0
AllAscii bs = AllByRecursion (λ b. nat_lt b 128 ≡ true) bs

ascii : (bs : List ℕ) → AllAscii bs → IsAscii bs
ascii [] h = IsAscii-nil
ascii (b ∷ bs) h = IsAscii-cons b bs (ltb-true b 128 h.0) (ascii bs h.1)

pub ascii_utf8 : (bs : List ℕ) → AllAscii bs → IsUtf8 bs
ascii_utf8 bs h = IsUtf8-from_ascii bs (ascii bs h)

-- ---- bytes of a head line

abbrev pub is_plain : ℕ → Bool
is_plain b = nat_lt b 128 && (not (b == 10) && not (b == 13))

abbrev pub AllPlain : List ℕ → Type 0
AllPlain bs = AllByRecursion (λ b. is_plain b ≡ true) bs

plain_ascii : (b : ℕ) → is_plain b ≡ true → nat_lt b 128 ≡ true
plain_ascii b h = first (nat_lt b 128) (not (b == 10) && not (b == 13)) h
  where
    first : (x y : Bool) → (x && y) ≡ true → x ≡ true
    first true y e = refl
    first false y e = e

pub all_ascii : (bs : List ℕ) → AllPlain bs → AllAscii bs
all_ascii [] h = tt
all_ascii (b ∷ bs) h = (plain_ascii b h.0, all_ascii bs h.1)

plain_append : (x y : List ℕ) → AllPlain x → AllPlain y → AllPlain (x ++ y)
plain_append [] y h k = k
plain_append (b ∷ x) y h k = (h.0, plain_append x y h.1 k)

letter_plain : (b : ℕ) → IsTrue (is_ascii_alphabetic b) → is_plain b ≡ true
letter_plain b h = grind (arith, nat_tests)

name_byte_plain : (b : ℕ) → IsTrue (goes_on_name b) → is_plain b ≡ true
name_byte_plain b h = grind (arith, nat_tests)

name_bytes_plain : (bs : List ℕ) → AllByRecursion (λ c. IsTrue (goes_on_name c)) bs → AllPlain bs
name_bytes_plain [] h = tt
name_bytes_plain (b ∷ bs) h = (name_byte_plain b h.0, name_bytes_plain bs h.1)

pub name_plain : (n : List ℕ) → IsName n → AllPlain n
name_plain [] h = absurd h
name_plain (b ∷ bs) h = (letter_plain b h.0, name_bytes_plain bs h.1)

-- ---- the name of a kind is a word of such bytes

upper_plain : (b : ℕ) → is_upper b ≡ true → is_plain b ≡ true
upper_plain b h = grind (arith, nat_tests)

kind_byte_plain : (b : ℕ) → sound.goes_on_name b ≡ true → is_plain b ≡ true
kind_byte_plain b h = grind (arith, nat_tests)

upper_in_word : (b : ℕ) → is_upper b ≡ true → IsInWord b
upper_in_word b h e = let p : false ≡ true = subst (λ c. is_upper c ≡ true) e h in false≢true p

kind_byte_in_word : (b : ℕ) → sound.goes_on_name b ≡ true → IsInWord b
kind_byte_in_word b h e = let p : false ≡ true = subst (λ c. sound.goes_on_name c ≡ true) e h in false≢true p

pub record IsPlainWord (w : List ℕ) : Type 0 where
  pub plain : AllPlain w
  pub in_word : AllByRecursion IsInWord w

kind_bytes : (bs : List ℕ) → list_all sound.goes_on_name bs ≡ true → IsPlainWord bs
kind_bytes [] h = record { plain = tt; in_word = tt }
kind_bytes (b ∷ bs) h =
    let one = first_so (sound.goes_on_name b) (list_all sound.goes_on_name bs) h in
    let more = kind_bytes bs (second_so (sound.goes_on_name b) (list_all sound.goes_on_name bs) h) in
    record { plain = (kind_byte_plain b one, more.plain); in_word = (kind_byte_in_word b one, more.in_word) }

pub kind_plain : (w : List ℕ) → IsKindName w → AllPlain w × IsWord w
kind_plain [] h = absurd (false≢true h)
kind_plain (b ∷ bs) h =
    let front = first_so (is_upper b && list_all sound.goes_on_name bs) (nat_le (length bs) 63) h in
    let one = first_so (is_upper b) (list_all sound.goes_on_name bs) front in
    let more = kind_bytes bs (second_so (is_upper b) (list_all sound.goes_on_name bs) front) in
    ((upper_plain b one, more.plain), (omega arith, (upper_in_word b one, more.in_word)))

-- ---- head lines

pub head_plain : (n w : List ℕ) → AllPlain n → AllPlain w → AllPlain (head_of n w)
head_plain n w a b =
    plain_append (codes "fragment 2 ") (n ++ 32 ∷ w)
    (refl, (refl, (refl, (refl, (refl, (refl, (refl, (refl, (refl, (refl, (refl, tt)))))))))))
    (plain_append n (32 ∷ w) a (refl, b))

place : (xs ys : List ℕ) → AllPlain xs → position_or_len is_feed (xs ++ 10 ∷ ys) ≡ length xs
place [] ys h = refl
place (b ∷ xs) ys h =
    let e : not (is_feed b) ≡ true = first_so (not (b == 10)) (not (b == 13)) (second_so (nat_lt b 128) (not (b == 10) && not (b == 13)) h.0) in
    let p : position_or_len is_feed (xs ++ 10 ∷ ys) ≡ length xs = place xs ys h.1 in
    rw e (omega (arith, p))

pub line_of : (xs ys : List ℕ) → AllPlain xs → before_first is_feed (xs ++ 10 ∷ ys) ≡ xs
line_of xs ys h = ap (λ n. take n (xs ++ 10 ∷ ys)) (place xs ys h) ∙ take-append_seam xs (10 ∷ ys)

past : (xs ys : List ℕ) → drop (length xs + 1) (xs ++ 10 ∷ ys) ≡ ys
past [] ys = refl
past (b ∷ xs) ys =
    let e : length (b ∷ xs) + 1 ≡ suc (length xs + 1) = omega arith in
    ap (λ n. drop n (b ∷ (xs ++ 10 ∷ ys))) e ∙ past xs ys

pub rest_of : (xs ys : List ℕ) → AllPlain xs → after_first is_feed (xs ++ 10 ∷ ys) ≡ ys
rest_of xs ys h = ap (λ n. drop (n + 1) (xs ++ 10 ∷ ys)) (place xs ys h) ∙ past xs ys

ends_plain : (x : List ℕ) → AllPlain (x ++ 13 ∷ []) → ⊥
ends_plain [] h = false≢true h.0
ends_plain (b ∷ x) h = ends_plain x h.1

pub no_return : (l : List ℕ) → AllPlain l → (x : List ℕ) → l ≢ x ++ 13 ∷ []
no_return l h x e = ends_plain x (subst AllPlain e h)
