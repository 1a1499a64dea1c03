-- Laws of the decimals of numbers.
use Rattle.std.proofs.Common.{◌≡◌, ◌≢◌, ℕ, ◌<◌, ◌≤◌, ◌^◌, List, [], ◌∷◌, Result, Ok, Err, get_or, sym, ap, ◌∙◌, inl, inr, arith, lit<}
use Rattle.std.proofs.lemmas.Bool.{cases_eq}
use Rattle.std.proofs.lemmas.Fmt.{decimal_digit, first_decimal, parse-decimal, decimal-digits_value, decimal_is_IsNumeral, decimal_injective}
use Rattle.std.proofs.lemmas.Str.Parse.{IsNumeralModel, numerals_by_value, tells_digits, parse_plain, digit_from_value}
use Rattle.std.specs.Fmt.{decimal}
use Rattle.std.specs.List.{AllByRecursion}
use Rattle.std.specs.Result.{result_ok}
use Rattle.std.specs.Str.Parse.{ParsesUnsigned, AllDigits, digits_value}
use Rattle.psg_script.specs.Forms.{Text, IsInWord, IsWord, IsNumber}
use Rattle.psg_script.specs.Reading.{Reads, IsNumeral, IsNumeralUpTo}

-- the words of the standard library for texts of digits and their values
own : IsNumeralModel (AllDigits 10) (digits_value 10)
own = numerals_by_value _ tells_digits

pub zero_text : decimal 0 ≡ 48 ∷ []
zero_text = decimal_digit 0 (lit< tt)

pub reads_zero : (word : Text) → word ≡ 48 ∷ [] → IsNumeral 0 word
reads_zero word e = (lit< tt, e ∙ sym zero_text)

-- a number other than 0 begins with a digit from 1 up
above_zero : (n : ℕ) (word : Text) → IsNumeral n word → (n ≡ 0 → ⊥) → 48 < get_or word 0 0
above_zero n word h some = rw h.1 (first_decimal n (let p : 0 < n = omega arith in p) (let p : n < 2 ^ 64 = omega arith in p))

pub only_zero : (word : Text) → get_or word 0 0 ≡ 48 → (word ≡ 48 ∷ [] → ⊥) → (n : ℕ) → IsNumeral n word → ⊥
only_zero word first other n h =
    elim (cases_eq n 0) as (λ _. ⊥) [
      | inl e ↦ other (h.1 ∙ (ap decimal e ∙ zero_text))
      | inr some ↦ let p = above_zero n word h some in omega arith
    ]

pub no_plus : (word : Text) → get_or word 0 0 ≡ 43 → (n : ℕ) → IsNumeral n word → ⊥
no_plus word first n h =
    elim (cases_eq n 0) as (λ _. ⊥) [
      | inl e ↦ let zero_first : get_or word 0 0 ≡ 48 = ap (λ t. get_or t 0 0) (h.1 ∙ (ap decimal e ∙ zero_text)) in omega arith
      | inr some ↦ let p = above_zero n word h some in omega arith
    ]

-- `parse` reads the number, where neither a `0` nor a `+` comes first
pub parsed : {E : Type 0} (word : Text) (r : Result ℕ E) → ParsesUnsigned 32 10 word r → (get_or word 0 0 ≡ 48 → ⊥) → (get_or word 0 0 ≡ 43 → ⊥) → Reads IsNumeral word (result_ok r)
parsed {E} word (Ok n) h no_zero no_sign =
    let all = parse_plain own {E = E} 32 word (Ok n) h no_sign in
    let fits : digits_value 10 word < 2 ^ 32 = all.0.2 in
    let same : decimal (digits_value 10 word) ≡ word = decimal-digits_value own word all.0.0 all.0.1 (λ e. absurd (no_zero e)) (let p : digits_value 10 word < 2 ^ 64 = omega arith in p) in
    (rw all.1 fits, rw all.1 (sym same))
parsed {E} word (Err e) h no_zero no_sign = λ n k.
    let found : Err e ≡ Ok n = parse-decimal 32 n word (Err e) k.0 (let p : n < 2 ^ 64 = omega (arith, k.0) in p) k.1 h in
    cc

-- Digits are neither spaces nor `/`.

abbrev pub IsStep : ℕ → Type 0
IsStep b = b ≢ 47

digits_in_word : (ds : List ℕ) → AllDigits 10 ds → AllByRecursion IsInWord ds
digits_in_word [] h = tt
digits_in_word (c ∷ cs) h = (let r = digit_from_value c h.0 in λ e. omega arith, digits_in_word cs h.1)

digits_in_step : (ds : List ℕ) → AllDigits 10 ds → AllByRecursion IsStep ds
digits_in_step [] h = tt
digits_in_step (c ∷ cs) h = (let r = digit_from_value c h.0 in λ e. omega arith, digits_in_step cs h.1)

pub decimal_word : (n : ℕ) → IsNumber n → IsWord (decimal n)
decimal_word n h =
    let d = decimal_is_IsNumeral n (let p : n < 2 ^ 64 = omega (arith, h) in p) in
    (d.0.0, digits_in_word (decimal n) d.0.1)

pub decimal_step : (n : ℕ) → IsNumber n → AllByRecursion IsStep (decimal n)
decimal_step n h =
    let d = decimal_is_IsNumeral n (let p : n < 2 ^ 64 = omega (arith, h) in p) in
    digits_in_step (decimal n) d.0.1

pub same_decimal : (m n : ℕ) → IsNumber m → IsNumber n → decimal m ≡ decimal n → m ≡ n
same_decimal m n h k e = decimal_injective m n (let p : m < 2 ^ 64 = omega (arith, h) in p) (let p : n < 2 ^ 64 = omega (arith, k) in p) e

-- the number of the word isn't from 1 to the greatest one, and it is the word of no other
pub none_up_to : (most n : ℕ) (word : Text) → IsNumeral n word → (1 ≤ n → n ≤ most → ⊥) → (k : ℕ) → IsNumeralUpTo most k word → ⊥
none_up_to most n word h none k g =
    let e : n ≡ k = same_decimal n k h.0 g.0.0 (sym h.1 ∙ g.0.1) in
    none (let p : 1 ≤ n = omega (arith, g.1) in p) (let p : n ≤ most = omega (arith, g.2) in p)
