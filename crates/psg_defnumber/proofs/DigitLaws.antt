-- The value of decimal digits, as far as a walk has read them.
use Rattle.std.proofs.Common.{◌≡◌, ℕ, zero, suc, ◌+◌, ◌-◌, ◌*◌, ◌^◌, ◌<◌, ◌≤◌, true, List, [], ◌∷◌, length, refl, sym, ap, ◌∙◌, subst, arith}
use Rattle.std.specs.List.{list_all}
use Rattle.std.proofs.Math.Nat.{pow-suc}
use Rattle.std.proofs.lemmas.Bool.{and_parts}
use Rattle.psg_grammar.specs.Sound.{is_digit}
use Rattle.psg_lexis.specs.Tokens.{value_of}
use Rattle.psg_deflines.specs.WrittenTrees.{is_digits}

pub digits-all : (digits : List ℕ) → is_digits digits ≡ true → list_all is_digit digits ≡ true
digits-all [] h = refl
digits-all (d ∷ digits) h = h

one-more : (value digit power rest : ℕ) → value * (power * 10) + (digit * power + rest) ≡ (value * 10 + digit) * power + rest
one-more value digit power rest = omega arith

-- the digits read so far and those left stand for one number
next-digit : (value d : ℕ) (cs : List ℕ) → value * 10 ^ length (d ∷ cs) + value_of (d ∷ cs) ≡ (value * 10 + (d - 48)) * 10 ^ length cs + value_of cs
next-digit value d cs =
    ap (λ p. value * p + ((d - 48) * 10 ^ length cs + value_of cs)) (pow-suc 10 (length cs))
    ∙ one-more value (d - 48) (10 ^ length cs) (value_of cs)

pub digit-read : (value d whole : ℕ) (rest after : List ℕ) → rest ≡ d ∷ after → value * 10 ^ length rest + value_of rest ≡ whole
    → (value * 10 + (d - 48)) * 10 ^ length after + value_of after ≡ whole
digit-read value d whole rest after e h = sym (next-digit value d after) ∙ ap (λ cs. value * 10 ^ length cs + value_of cs) (sym e) ∙ h

power-positive : (n : ℕ) → 0 < 10 ^ n
power-positive zero = omega arith
power-positive (suc n) = let h = power-positive n in rw (pow-suc 10 n) (omega arith)

times-positive : (value power : ℕ) → 0 < power → value ≤ value * power
times-positive value power h = grind arith

-- the number read so far is not above the whole one
pub digit-fits : (limit n value d whole : ℕ) (rest after : List ℕ) → rest ≡ d ∷ after → value * 10 ^ length rest + value_of rest ≡ whole
    → n ≤ value * 10 + (d - 48) → whole < limit → n < limit
digit-fits limit n value d whole rest after e h below small =
    let read = digit-read value d whole rest after e h in
    let grown = times-positive (value * 10 + (d - 48)) (10 ^ length after) (power-positive (length after)) in
    omega arith

pub digits-left : (rest after : List ℕ) (d : ℕ) → rest ≡ d ∷ after → list_all is_digit rest ≡ true → (is_digit d ≡ true) × (list_all is_digit after ≡ true)
digits-left rest after d e a = and_parts (is_digit d) (list_all is_digit after) (subst (λ cs. list_all is_digit cs ≡ true) e a)
