-- What is counted before a place of a text: line feeds, and units.
use Rattle.std.proofs.Common.{◌≡◌, ℕ, ◌+◌, ◌-◌, ◌<◌, ◌≤◌, Bool, true, false, cond, List, length, take, get_or, inl, inr, ap, subst, ◌∙◌, arith}
use Rattle.std.specs.Prelude.{◌==◌, nat_lt}
use Rattle.std.specs.List.{sum_by}
use Rattle.std.proofs.lemmas.Bool.{cases_lt}
use Rattle.std.proofs.lemmas.Bool.Decides.{nat_tests}
use Rattle.std.proofs.lemmas.List.{take-take, take_all}
use Rattle.std.proofs.lemmas.List.Sums.{sum_by_more, sum_by-take-le}
use Rattle.psg_documents.specs.declared.encoding.Encoding.{Encoding}
use Rattle.psg_documents.specs.declared.encoding.Encoding.TheVariants as encodings
use Rattle.psg_documents.specs.Positions.{IsLineStart, IsStop, feeds, goes_on, unit, units}

pub sum_up : (f : ℕ → ℕ) (xs : List ℕ) (i j : ℕ) → i ≤ j → sum_by f (take i xs) ≤ sum_by f (take j xs)
sum_up f xs i j le =
    let P : List ℕ → Type 0 = λ ys. sum_by f ys ≤ sum_by f (take j xs) in
    subst P (take-take i j xs le) (sum_by-take-le f (take j xs) i)

pub sum_past : (f : ℕ → ℕ) (xs : List ℕ) (i j : ℕ) → i < j → i < length xs
    → sum_by f (take i xs) + f (get_or xs i 0) ≤ sum_by f (take j xs)
sum_past f xs i j lt inside =
    let le : i + 1 ≤ j = omega (arith, lt) in
    let next : sum_by f (take (i + 1) xs) ≡ sum_by f (take i xs) + f (get_or xs i 0) = sum_by_more f xs i 0 inside in
    let up : sum_by f (take (i + 1) xs) ≤ sum_by f (take j xs) = sum_up f xs (i + 1) j le in
    omega (arith, next, up)

-- ---- line feeds

pub feeds_up : (text : List ℕ) (i j : ℕ) → i ≤ j → feeds (take i text) ≤ feeds (take j text)
feeds_up text i j le = sum_up (λ x. cond (x == 10) 1 0) text i j le

pub feeds_next : (text : List ℕ) (i : ℕ) → i < length text → get_or text i 0 ≡ 10 → feeds (take (i + 1) text) ≡ feeds (take i text) + 1
feeds_next text i inside is =
    sum_by_more (λ x. cond (x == 10) 1 0) text i 0 inside ∙ ap (λ x. feeds (take i text) + cond (x == 10) 1 0) is

pub feed_past : (text : List ℕ) (i j : ℕ) → i < j → i < length text → get_or text i 0 ≡ 10 → feeds (take i text) < feeds (take j text)
feed_past text i j lt inside is =
    let le : i + 1 ≤ j = omega (arith, lt) in
    let next : feeds (take (i + 1) text) ≡ feeds (take i text) + 1 = feeds_next text i inside is in
    let up : feeds (take (i + 1) text) ≤ feeds (take j text) = feeds_up text (i + 1) j le in
    omega (arith, next, up)

no_feed_at : (b : Bool) (n : ℕ) → b ≡ false → n + cond b 1 0 ≡ n
no_feed_at true n e = absurd (cc)
no_feed_at false n e = omega arith

pub feeds_same : (text : List ℕ) (i : ℕ) → i < length text → (get_or text i 0 == 10) ≡ false → feeds (take (i + 1) text) ≡ feeds (take i text)
feeds_same text i inside other =
    sum_by_more (λ x. cond (x == 10) 1 0) text i 0 inside ∙ no_feed_at (get_or text i 0 == 10) (feeds (take i text)) other

pub feeds_all : (text : List ℕ) (i : ℕ) → feeds (take i text) ≤ feeds text
feeds_all text i = sum_by-take-le (λ x. cond (x == 10) 1 0) text i

pub feeds_whole : (text : List ℕ) → feeds (take (length text) text) ≡ feeds text
feeds_whole text = let le : length text ≤ length text = omega arith in ap feeds (take_all (length text) text le)

-- ---- beginnings of lines

pub start_past : (text : List ℕ) (i s : ℕ) → IsLineStart text s → i < s → feeds (take i text) < feeds (take s text)
start_past text i s begins lt =
    let some : 0 < s = omega (arith, lt) in
    let is : get_or text (s - 1) 0 ≡ 10 = begins.1 some in
    let within : s ≤ length text = begins.0 in
    let inside : s - 1 < length text = omega (arith, some, within) in
    let up : feeds (take i text) ≤ feeds (take (s - 1) text) = feeds_up text i (s - 1) (omega (arith, lt)) in
    let past : feeds (take (s - 1) text) < feeds (take s text) = feed_past text (s - 1) s (omega (arith, some)) inside is in
    omega (arith, up, past)

pub start_once : (text : List ℕ) (s t : ℕ) → IsLineStart text s → IsLineStart text t
    → feeds (take s text) ≡ feeds (take t text) → s ≡ t
start_once text s t begins begins_2 same =
    elim (cases_lt s t) [
      | inl lt ↦ absurd (let past = start_past text s t begins_2 lt in omega (arith, past, same))
      | inr ge ↦ elim (cases_lt t s) [
        | inl lt ↦ absurd (let past = start_past text t s begins lt in omega (arith, past, same))
        | inr le ↦ omega (arith, ge, le)
      ]
    ]

pub first_is_zero : (text : List ℕ) (s : ℕ) → IsLineStart text s → feeds (take s text) ≡ 0 → s ≡ 0
first_is_zero text s begins none =
    elim (cases_lt 0 s) [
      | inl lt ↦ absurd (let past = start_past text 0 s begins lt in omega (arith, past, none))
      | inr le ↦ omega (arith, le)
    ]

-- ---- units

pub units_up : (e : Encoding) (text : List ℕ) (i j : ℕ) → i ≤ j → units e (take i text) ≤ units e (take j text)
units_up e text i j le = sum_up (unit e) text i j le

pub units_next : (e : Encoding) (text : List ℕ) (i : ℕ) → i < length text
    → units e (take (i + 1) text) ≡ units e (take i text) + unit e (get_or text i 0)
units_next e text i inside = sum_by_more (unit e) text i 0 inside

some_unit : (g h : Bool) → g ≡ false → 1 ≤ cond g 0 (cond h 1 2)
some_unit true h e = absurd (cc)
some_unit false true e = omega arith
some_unit false false e = omega arith

one_unit : (g : Bool) → g ≡ false → 1 ≤ cond g 0 1
one_unit true e = absurd (cc)
one_unit false e = omega arith

pub unit_begins : (e : Encoding) (b : ℕ) → goes_on b ≡ false → 1 ≤ unit e b
unit_begins encodings.Utf8 b e = omega arith
unit_begins encodings.Utf16 b e = some_unit (goes_on b) (nat_lt b 240) e
unit_begins encodings.Utf32 b e = one_unit (goes_on b) e

two_units : (g h : Bool) → cond g 0 (cond h 1 2) ≤ 2
two_units true h = omega arith
two_units false true = omega arith
two_units false false = omega arith

two_units_32 : (g : Bool) → cond g 0 1 ≤ 2
two_units_32 true = omega arith
two_units_32 false = omega arith

pub unit_at_most : (e : Encoding) (b : ℕ) → unit e b ≤ 2
unit_at_most encodings.Utf8 b = omega arith
unit_at_most encodings.Utf16 b = two_units (goes_on b) (nat_lt b 240)
unit_at_most encodings.Utf32 b = two_units_32 (goes_on b)

-- a byte that begins a character
pub begins_not_on : (b : ℕ) → (128 ≤ b → 192 ≤ b) → goes_on b ≡ false
begins_not_on b lead = elim (cases_lt b 128) [
  | inl lt ↦ grind (arith, nat_tests, lt)
  | inr ge ↦ let high : 192 ≤ b = lead ge in grind (arith, nat_tests, high)
]

pub units_past_stop : (e : Encoding) (text : List ℕ) (i j : ℕ) → IsStop text i → i < j → j ≤ length text
    → units e (take i text) < units e (take j text)
units_past_stop e text i j stop lt within =
    let inside : i < length text = omega (arith, lt, within) in
    let some : 1 ≤ unit e (get_or text i 0) = unit_begins e (get_or text i 0) (begins_not_on (get_or text i 0) (stop.begins.1 inside)) in
    let past : units e (take i text) + unit e (get_or text i 0) ≤ units e (take j text) = sum_past (unit e) text i j lt inside in
    omega (arith, some, past)
