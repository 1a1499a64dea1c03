-- A text has the units of its characters.
use Rattle.std.proofs.Common.{◌≡◌, ℕ, ◌+◌, ◌/◌, ◌%◌, ◌<◌, ◌≤◌, Bool, true, false, cond, List, [], ◌∷◌, ◌++◌, refl, inl, inr, sym, ap, ◌∙◌, arith}
use Rattle.std.specs.Prelude.{nat_lt}
use Rattle.std.specs.List.{sum_by}
use Rattle.std.specs.Str.{encode_utf8_all}
use Rattle.std.proofs.lemmas.Bool.{cases_lt}
use Rattle.std.proofs.lemmas.Bool.Decides.{nat_tests}
use Rattle.std.proofs.lemmas.List.Sums.{sum_by-append, sum_by-cons}
use lib.Utf8.{encode}
use Rattle.psg_documents.specs.declared.encoding.Encoding.{Encoding}
use Rattle.psg_documents.specs.declared.encoding.Encoding.TheVariants as encodings
use Rattle.psg_documents.specs.Positions.{goes_on, unit, units, units_of}

-- ---- the units of a byte

on_byte : (b : ℕ) → 128 ≤ b → b < 192 → goes_on b ≡ true
on_byte b low high = grind (arith, nat_tests, low, high)

low_byte : (b : ℕ) → b < 128 → goes_on b ≡ false
low_byte b low = grind (arith, nat_tests, low)

high_byte : (b : ℕ) → 192 ≤ b → goes_on b ≡ false
high_byte b high = grind (arith, nat_tests, high)

below : (b n : ℕ) → b < n → nat_lt b n ≡ true
below b n lt = grind (arith, nat_tests, lt)

not_below : (b n : ℕ) → n ≤ b → nat_lt b n ≡ false
not_below b n le = grind (arith, nat_tests, le)

none_by : (g h : Bool) → g ≡ true → ◌≡◌ {A = ℕ} (cond g 0 (cond h 1 2)) 0
none_by true h e = refl
none_by false h e = absurd (cc)

one_by : (g h : Bool) → g ≡ false → h ≡ true → ◌≡◌ {A = ℕ} (cond g 0 (cond h 1 2)) 1
one_by true h e f = absurd (cc)
one_by false true e f = refl
one_by false false e f = absurd (cc)

two_by : (g h : Bool) → g ≡ false → h ≡ false → ◌≡◌ {A = ℕ} (cond g 0 (cond h 1 2)) 2
two_by true h e f = absurd (cc)
two_by false true e f = absurd (cc)
two_by false false e f = refl

none_32 : (g : Bool) → g ≡ true → ◌≡◌ {A = ℕ} (cond g 0 1) 0
none_32 true e = refl
none_32 false e = absurd (cc)

one_32 : (g : Bool) → g ≡ false → ◌≡◌ {A = ℕ} (cond g 0 1) 1
one_32 true e = absurd (cc)
one_32 false e = refl

-- what a byte after the first one adds, and what the first one adds, in the encodings that count characters
abbrev Later : Encoding → ℕ
Later encodings.Utf8 = 1
Later encodings.Utf16 = 0
Later encodings.Utf32 = 0

abbrev High : Encoding → ℕ
High encodings.Utf8 = 1
High encodings.Utf16 = 2
High encodings.Utf32 = 1

next_unit : (e : Encoding) (n : ℕ) → unit e (128 + n % 64) ≡ Later e
next_unit encodings.Utf8 n = refl
next_unit encodings.Utf16 n =
    let small : n % 64 < 64 = omega arith in
    none_by _ (nat_lt (128 + n % 64) 240) (on_byte (128 + n % 64) (omega arith) (omega (arith, small)))
next_unit encodings.Utf32 n =
    let small : n % 64 < 64 = omega arith in
    none_32 _ (on_byte (128 + n % 64) (omega arith) (omega (arith, small)))

ascii_unit : (e : Encoding) (b : ℕ) → b < 128 → unit e b ≡ 1
ascii_unit encodings.Utf8 b low = refl
ascii_unit encodings.Utf16 b low = one_by (goes_on b) (nat_lt b 240) (low_byte b low) (below b 240 (omega (arith, low)))
ascii_unit encodings.Utf32 b low = one_32 (goes_on b) (low_byte b low)

first_unit : (e : Encoding) (b : ℕ) → 192 ≤ b → b < 240 → unit e b ≡ 1
first_unit encodings.Utf8 b low high = refl
first_unit encodings.Utf16 b low high = one_by (goes_on b) (nat_lt b 240) (high_byte b low) (below b 240 high)
first_unit encodings.Utf32 b low high = one_32 (goes_on b) (high_byte b low)

high_unit : (e : Encoding) (b : ℕ) → 240 ≤ b → unit e b ≡ High e
high_unit encodings.Utf8 b low = refl
high_unit encodings.Utf16 b low =
    two_by (goes_on b) (nat_lt b 240) (high_byte b (omega (arith, low))) (not_below b 240 low)
high_unit encodings.Utf32 b low = one_32 (goes_on b) (high_byte b (omega (arith, low)))

-- ---- the units of a character

encode_1 : (c : ℕ) → c < 128 → encode c ≡ c ∷ []
unfolding encode
encode_1 c lt = let t : nat_lt c 128 ≡ true = below c 128 lt in rw t

encode_2 : (c : ℕ) → 128 ≤ c → c < 2048 → encode c ≡ (192 + c / 64) ∷ (128 + c % 64) ∷ []
unfolding encode
encode_2 c ge lt =
    let f : nat_lt c 128 ≡ false = not_below c 128 ge in let t : nat_lt c 2048 ≡ true = below c 2048 lt in rw (f, t)

encode_3 : (c : ℕ) → 2048 ≤ c → c < 65536
    → encode c ≡ (224 + c / 4096) ∷ (128 + (c / 64) % 64) ∷ (128 + c % 64) ∷ []
unfolding encode
encode_3 c ge lt =
    let f : nat_lt c 128 ≡ false = not_below c 128 (omega (arith, ge)) in
    let g : nat_lt c 2048 ≡ false = not_below c 2048 ge in
    let t : nat_lt c 65536 ≡ true = below c 65536 lt in rw (f, g, t)

encode_4 : (c : ℕ) → 65536 ≤ c
    → encode c ≡ (240 + c / 262144) ∷ (128 + (c / 4096) % 64) ∷ (128 + (c / 64) % 64) ∷ (128 + c % 64) ∷ []
unfolding encode
encode_4 c ge =
    let f : nat_lt c 128 ≡ false = not_below c 128 (omega (arith, ge)) in
    let g : nat_lt c 2048 ≡ false = not_below c 2048 (omega (arith, ge)) in
    let h : nat_lt c 65536 ≡ false = not_below c 65536 ge in rw (f, g, h)

of_1 : (e : Encoding) (c : ℕ) → c < 128 → units_of e c ≡ 1
of_1 encodings.Utf8 c lt = let t : nat_lt c 128 ≡ true = below c 128 lt in rw t
of_1 encodings.Utf16 c lt = let t : nat_lt c 65536 ≡ true = below c 65536 (omega (arith, lt)) in rw t
of_1 encodings.Utf32 c lt = refl

of_2 : (e : Encoding) (c : ℕ) → 128 ≤ c → c < 2048 → units_of e c ≡ 1 + Later e
of_2 encodings.Utf8 c ge lt =
    let f : nat_lt c 128 ≡ false = not_below c 128 ge in let t : nat_lt c 2048 ≡ true = below c 2048 lt in rw (f, t)
of_2 encodings.Utf16 c ge lt = let t : nat_lt c 65536 ≡ true = below c 65536 (omega (arith, lt)) in rw t
of_2 encodings.Utf32 c ge lt = refl

of_3 : (e : Encoding) (c : ℕ) → 2048 ≤ c → c < 65536 → units_of e c ≡ 1 + Later e + Later e
of_3 encodings.Utf8 c ge lt =
    let f : nat_lt c 128 ≡ false = not_below c 128 (omega (arith, ge)) in
    let g : nat_lt c 2048 ≡ false = not_below c 2048 ge in
    let t : nat_lt c 65536 ≡ true = below c 65536 lt in rw (f, g, t)
of_3 encodings.Utf16 c ge lt = let t : nat_lt c 65536 ≡ true = below c 65536 lt in rw t
of_3 encodings.Utf32 c ge lt = refl

of_4 : (e : Encoding) (c : ℕ) → 65536 ≤ c → units_of e c ≡ High e + Later e + Later e + Later e
of_4 encodings.Utf8 c ge =
    let f : nat_lt c 128 ≡ false = not_below c 128 (omega (arith, ge)) in
    let g : nat_lt c 2048 ≡ false = not_below c 2048 (omega (arith, ge)) in
    let h : nat_lt c 65536 ≡ false = not_below c 65536 ge in rw (f, g, h)
of_4 encodings.Utf16 c ge = let h : nat_lt c 65536 ≡ false = not_below c 65536 ge in rw h
of_4 encodings.Utf32 c ge = refl

units_1 : (e : Encoding) (c : ℕ) → c < 128 → units e (encode c) ≡ units_of e c
units_1 e c lt =
    let a : unit e c ≡ 1 = ascii_unit e c lt in
    let of : units_of e c ≡ 1 = of_1 e c lt in
    ap (units e) (encode_1 c lt) ∙ omega (arith, a, of)

units_2 : (e : Encoding) (c : ℕ) → 128 ≤ c → c < 2048 → units e (encode c) ≡ units_of e c
units_2 e c ge lt =
    let a : unit e (192 + c / 64) ≡ 1 = first_unit e (192 + c / 64) (omega arith) (omega (arith, lt)) in
    let b : unit e (128 + c % 64) ≡ Later e = next_unit e c in
    let of : units_of e c ≡ 1 + Later e = of_2 e c ge lt in
    ap (units e) (encode_2 c ge lt) ∙ omega (arith, a, b, of)

units_3 : (e : Encoding) (c : ℕ) → 2048 ≤ c → c < 65536 → units e (encode c) ≡ units_of e c
units_3 e c ge lt =
    let a : unit e (224 + c / 4096) ≡ 1 = first_unit e (224 + c / 4096) (omega arith) (omega (arith, lt)) in
    let b : unit e (128 + (c / 64) % 64) ≡ Later e = next_unit e (c / 64) in
    let d : unit e (128 + c % 64) ≡ Later e = next_unit e c in
    let of : units_of e c ≡ 1 + Later e + Later e = of_3 e c ge lt in
    ap (units e) (encode_3 c ge lt) ∙ omega (arith, a, b, d, of)

units_4 : (e : Encoding) (c : ℕ) → 65536 ≤ c → units e (encode c) ≡ units_of e c
units_4 e c ge =
    let a : unit e (240 + c / 262144) ≡ High e = high_unit e (240 + c / 262144) (omega arith) in
    let x : unit e (128 + (c / 4096) % 64) ≡ Later e = next_unit e (c / 4096) in
    let b : unit e (128 + (c / 64) % 64) ≡ Later e = next_unit e (c / 64) in
    let d : unit e (128 + c % 64) ≡ Later e = next_unit e c in
    let of : units_of e c ≡ High e + Later e + Later e + Later e = of_4 e c ge in
    ap (units e) (encode_4 c ge) ∙ omega (arith, a, x, b, d, of)

character_units : (e : Encoding) (c : ℕ) → units e (encode c) ≡ units_of e c
character_units e c = elim (cases_lt c 128) [
  | inl lt ↦ units_1 e c lt
  | inr ge ↦ elim (cases_lt c 2048) [
    | inl lt ↦ units_2 e c ge lt
    | inr ge_2 ↦ elim (cases_lt c 65536) [ inl lt ↦ units_3 e c ge_2 lt | inr ge_3 ↦ units_4 e c ge_3 ]
  ]
]

pub text_units : (e : Encoding) (cs : List ℕ) → units e (encode_utf8_all cs) ≡ sum_by (units_of e) cs
text_units e [] = refl
text_units e (c ∷ cs) =
    let split : units e (encode c ++ encode_utf8_all cs) ≡ units e (encode c) + units e (encode_utf8_all cs) =
    sum_by-append (unit e) (encode c) (encode_utf8_all cs) in
    let one : units e (encode c) ≡ units_of e c = character_units e c in
    let rest : units e (encode_utf8_all cs) ≡ sum_by (units_of e) cs = text_units e cs in
    split ∙ ap (λ n. n + units e (encode_utf8_all cs)) one ∙ ap (λ n. units_of e c + n) rest ∙ sym (sum_by-cons (units_of e) c cs)
