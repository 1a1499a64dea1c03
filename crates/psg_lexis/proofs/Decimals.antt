-- The value of decimal digits, as far as a walk has read them.
use Rattle.std.proofs.Common.{◌≡◌, ℕ, zero, suc, ◌+◌, ◌-◌, ◌*◌, ◌^◌, ◌<◌, ◌≤◌, List, [], ◌∷◌, length, refl, sym, ap, ◌∙◌, subst, arith}
use Rattle.std.specs.Prelude.{decimal}
use Rattle.std.specs.Str.{chars}
use Rattle.std.specs.Str.Parse.{AllDigits}
use Rattle.std.proofs.Math.Nat.{pow-suc}
use Rattle.std.proofs.lemmas.Fmt.{decimal_is_IsNumeral_wide}
use Rattle.std.proofs.lemmas.Str.Parse.{IsNumeralModel, numerals_by_weight, tells_digits}
use Rattle.psg_lexis.specs.Classes.{Chars, is_digit, All}
use Rattle.psg_lexis.specs.Splits.{IsFirst}
use Rattle.psg_lexis.specs.Tokens.{value_of}

one_more : (value digit power rest : ℕ)
    → value * (power * 10) + (digit * power + rest) ≡ (value * 10 + digit) * power + rest
one_more value digit power rest = omega arith

-- the digits read so far and those left stand for one number
next_digit : (value d : ℕ) (cs : Chars)
    → value * 10 ^ length (d ∷ cs) + value_of (d ∷ cs) ≡ (value * 10 + (d - 48)) * 10 ^ length cs + value_of cs
next_digit value d cs =
    ap (λ p. value * p + ((d - 48) * 10 ^ length cs + value_of cs)) (pow-suc 10 (length cs))
    ∙ one_more value (d - 48) (10 ^ length cs) (value_of cs)

pub digit_read : (value d whole : ℕ) (rest after : List ℕ) → IsFirst rest d after
    → value * 10 ^ length (chars rest) + value_of (chars rest) ≡ whole
    → (value * 10 + (d - 48)) * 10 ^ length (chars after) + value_of (chars after) ≡ whole
digit_read value d whole rest after f h =
    sym (next_digit value d (chars after)) ∙ ap (λ cs. value * 10 ^ length cs + value_of cs) (sym f.characters) ∙ h

power_positive : (n : ℕ) → 0 < 10 ^ n
power_positive zero = omega arith
power_positive (suc n) = let h = power_positive n in rw (pow-suc 10 n) (omega arith)

times_positive : (value power : ℕ) → 0 < power → value ≤ value * power
times_positive value power h = grind arith

-- more digits don't make the number smaller
pub digits_too_large : (limit n value d whole : ℕ) (rest after : List ℕ) → IsFirst rest d after
    → value * 10 ^ length (chars rest) + value_of (chars rest) ≡ whole
    → n ≤ value * 10 + (d - 48) → (n < limit → ⊥) → whole < limit → ⊥
digits_too_large limit n value d whole rest after f h below large small =
    let read = digit_read value d whole rest after f h in
    let grown = times_positive (value * 10 + (d - 48)) (10 ^ length (chars after)) (power_positive (length (chars after))) in
    large (omega arith)

pub digits_left : (rest after : List ℕ) (d : ℕ) → IsFirst rest d after → All is_digit (chars rest)
    → All is_digit (chars after)
digits_left rest after d f a = (subst (All is_digit) f.characters a).1

pub all_read : (value whole : ℕ) (rest : List ℕ) → chars rest ≡ []
    → value * 10 ^ length (chars rest) + value_of (chars rest) ≡ whole → value ≡ whole
all_read value whole rest e h = let k = subst (λ cs. value * 10 ^ length cs + value_of cs ≡ whole) e h in
    omega (arith, k)

own : IsNumeralModel (AllDigits 10) value_of
own = numerals_by_weight (AllDigits 10) tells_digits value_of (record { empty = refl; more = λ c cs h. refl })

-- a number as it is written has its value
pub decimal-value : (v : ℕ) → v < 2 ^ 128 → value_of (decimal v) ≡ v
decimal-value v h =
    let n = decimal_is_IsNumeral_wide v (let p : v < 10 ^ 64 = omega arith in p) in
    own.same (decimal v) n.0.1 ∙ n.1
