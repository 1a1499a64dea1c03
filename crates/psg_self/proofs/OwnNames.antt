-- A name of a tree is a run of letters and digits, whatever its characters are.
use Rattle.std.proofs.Common.{arith, ◌≡◌, ◌==◌, ◌||◌, ℕ, suc, ◌<◌, ◌≤◌, true, false, inl, inr, List, [], ◌∷◌, ◌++◌, length, get_or, refl, ap, sym, ◌∙◌, subst, append-nil, decimal, encode_utf8, encode_utf8_all, length-append}
use Rattle.std.specs.Prelude.{nat_le, IsTrue}
use Rattle.std.specs.Char.{is_ascii_alphabetic, is_ascii_alphanumeric}
use Rattle.std.specs.List.{AllByRecursion, list_all}
use Rattle.std.proofs.lemmas.Bool.{and_parts, and_from, cases_Bool, cases_lt, or_cases, or_left, or_right, false≢true}
use Rattle.std.proofs.lemmas.Bool.Decides.{nat_tests}
use Rattle.std.proofs.lemmas.Str.{encode_ascii, inside_one, length-encode, len_utf8_bounds}
use Rattle.unicode_ident.proofs.IdentLemmas.{is_xid_start-ascii, is_xid_continue-ascii}
use Rattle.psg_terms.specs.Names.{Name}
use Rattle.psg_terms.specs.Words.{starts_word, goes_on_word as goes_on_xid, IsWord, IsFreeWord}
use Rattle.psg_grammar.specs.Sound.{is_upper, is_lower, is_digit, goes_on_name}
use Rattle.psg_lexis.proofs.Starts.{start_goes_on}
use Rattle.psg_deflines.specs.Written.{goes_on_word}
use Rattle.psg_deflines.specs.WrittenTrees.{is_digits}
use Rattle.psg_defread.proofs.FormTerms.{number-spelled}
use Rattle.psg_self.specs.Pieces.{is_broad, IsRun}
use Rattle.psg_self.proofs.LinesLaid.{first_byte}

name-broad : (c : ℕ) → goes_on_name c ≡ true → is_broad c ≡ true
name-broad c h = or_left (goes_on_word c) (nat_le 128 c) (or_left (goes_on_name c) (c == 64) h)

low-broad : (c : ℕ) → c < 128 → goes_on_xid c ≡ true → is_broad c ≡ true
low-broad c small h =
    let alphanumeric : ((is_ascii_alphanumeric c || (c == 95)) || (c == 95)) ≡ true = ap (λ b. b || (c == 95)) (sym (is_xid_continue-ascii c small)) ∙ h in
    elim (or_cases (is_ascii_alphanumeric c || (c == 95)) (c == 95) alphanumeric) [
      | inl e ↦ elim (or_cases (is_ascii_alphanumeric c) (c == 95) e) [ inl f ↦ letter f | inr f ↦ line f ]
      | inr e ↦ line e
    ]
  where
    line : (c == 95) ≡ true → is_broad c ≡ true
    line e = name-broad c (or_right (is_upper c || is_lower c || is_digit c) (c == 95) e)

    plain : (is_upper c || is_lower c || is_digit c) ≡ true → is_broad c ≡ true
    plain e = name-broad c (or_left (is_upper c || is_lower c || is_digit c) (c == 95) e)

    letter : is_ascii_alphanumeric c ≡ true → is_broad c ≡ true
    letter e = elim (or_cases (is_digit c || is_upper c) (is_lower c) e) [
      | inl f ↦ elim (or_cases (is_digit c) (is_upper c) f) [
        | inl g ↦ plain (or_right (is_upper c || is_lower c) (is_digit c) g)
        | inr g ↦ plain (or_left (is_upper c || is_lower c) (is_digit c) (or_left (is_upper c) (is_lower c) g))
      ]
      | inr f ↦ plain (or_left (is_upper c || is_lower c) (is_digit c) (or_right (is_upper c) (is_lower c) f))
    ]

high-broad : (c : ℕ) → 128 ≤ c → is_broad c ≡ true
high-broad c large = or_right (goes_on_word c) (nat_le 128 c) (grind (arith, nat_tests))

all-high : (bs : List ℕ) → ((k : ℕ) → k < length bs → 128 ≤ get_or bs k 0) → list_all is_broad bs ≡ true
all-high [] h = refl
all-high (b ∷ bs) h = and_from (is_broad b) (list_all is_broad bs) (high-broad b (h 0 (omega arith))) (all-high bs (λ k l. h (suc k) (omega (arith, l))))

encode-high : (c : ℕ) → 128 ≤ c → (k : ℕ) → k < length (encode_utf8 c) → 128 ≤ get_or (encode_utf8 c) k 0
encode-high c g k l = elim (cases_lt (get_or (encode_utf8 c) k 0) 128) [
  | inl b ↦ absurd (omega (arith, g, inside_one c [] (encode_utf8 c) k (sym (append-nil (encode_utf8 c))) l b))
  | inr b ↦ b
]

char-broad : (c : ℕ) → goes_on_xid c ≡ true → list_all is_broad (encode_utf8 c) ≡ true
char-broad c h = elim (cases_lt c 128) [
  | inl small ↦ ap (list_all is_broad) (encode_ascii c small) ∙ and_from (is_broad c) true (low-broad c small h) refl
  | inr large ↦ all-high (encode_utf8 c) (encode-high c large)
]

all-append : (xs ys : List ℕ) → list_all is_broad xs ≡ true → list_all is_broad ys ≡ true → list_all is_broad (xs ++ ys) ≡ true
all-append [] ys h k = k
all-append (x ∷ xs) ys h k =
    let both = and_parts (is_broad x) (list_all is_broad xs) h in
    and_from (is_broad x) (list_all is_broad (xs ++ ys)) both.0 (all-append xs ys both.1 k)

chars-broad : (cs : List ℕ) → AllByRecursion (λ d. IsTrue (goes_on_xid d)) cs → list_all is_broad (encode_utf8_all cs) ≡ true
chars-broad [] h = refl
chars-broad (c ∷ cs) h = all-append (encode_utf8 c) (encode_utf8_all cs) (char-broad c h.0) (chars-broad cs h.1)

char-long : (c : ℕ) → 0 < length (encode_utf8 c)
char-long c = let bounds = len_utf8_bounds c in omega (arith, length-encode c, bounds.0)

pub name-run : (fixed : List Name) (n : Name) → IsFreeWord fixed n → IsRun n
name-run fixed n (cs, e, w, k) = subst IsRun (sym e) (by_word cs w)
  where
    by_word : (ds : List ℕ) → IsWord ds → IsRun (encode_utf8_all ds)
    by_word [] w = absurd w
    by_word (c ∷ ds) w = record {
      long = omega (arith, char-long c, length-append (encode_utf8 c) (encode_utf8_all ds));
      run = all-append (encode_utf8 c) (encode_utf8_all ds) (char-broad c (start_goes_on c w.0)) (chars-broad ds w.1);
    }

-- it does not begin with a digit
digit-no_start : (c : ℕ) → c < 128 → is_digit c ≡ true → starts_word c ≡ true → ⊥
digit-no_start c small d s =
    let letter : (is_ascii_alphabetic c || (c == 95)) ≡ true = ap (λ b. b || (c == 95)) (sym (is_xid_start-ascii c small)) ∙ s in
    false≢true (sym (none c d) ∙ letter)
  where
    none : (x : ℕ) → is_digit x ≡ true → (is_ascii_alphabetic x || (x == 95)) ≡ false
    none x h = grind (arith, nat_tests)

digit-small : (c : ℕ) → is_digit c ≡ true → c < 128
digit-small c h = elim (cases_lt c 128) [
  | inl small ↦ small
  | inr large ↦ absurd (false≢true (sym (above c large) ∙ h))
]
  where
    above : (x : ℕ) → 128 ≤ x → is_digit x ≡ false
    above x large = grind (arith, nat_tests)

start-no_digit : (c : ℕ) (x : List ℕ) → starts_word c ≡ true → is_digit (first_byte (encode_utf8 c ++ x)) ≡ false
start-no_digit c x s = elim (cases_lt c 128) [
  | inl small ↦ elim (cases_Bool (is_digit c)) [
    | inl d ↦ absurd (digit-no_start c small d s)
    | inr d ↦ ap (λ z. is_digit (first_byte (z ++ x))) (encode_ascii c small) ∙ d
  ]
  | inr large ↦ high (encode_utf8 c) (char-long c) (encode-high c large)
]
  where
    high : (bs : List ℕ) → 0 < length bs → ((k : ℕ) → k < length bs → 128 ≤ get_or bs k 0) → is_digit (first_byte (bs ++ x)) ≡ false
    high [] l h = absurd (omega (arith, l))
    high (b ∷ bs) l h = elim (cases_Bool (is_digit b)) [
      | inl d ↦ absurd (omega (arith, digit-small b d, h 0 (omega arith)))
      | inr d ↦ d
    ]

pub name-no_digit : (fixed : List Name) (n : Name) → IsFreeWord fixed n → is_digit (first_byte n) ≡ false
name-no_digit fixed n (cs, e, w, k) = ap (λ m. is_digit (first_byte m)) e ∙ by_word cs w
  where
    by_word : (ds : List ℕ) → IsWord ds → is_digit (first_byte (encode_utf8_all ds)) ≡ false
    by_word [] w = absurd w
    by_word (c ∷ ds) w = start-no_digit c (encode_utf8_all ds) w.0

-- a number too
pub digits-run : (n : ℕ) → IsRun (decimal n)
digits-run n = by_digits (decimal n) (number-spelled n)
  where
    digit-broad : (c : ℕ) → is_digit c ≡ true → is_broad c ≡ true
    digit-broad c h = name-broad c (or_left (is_upper c || is_lower c || is_digit c) (c == 95) (or_right (is_upper c || is_lower c) (is_digit c) h))

    all-digits : (ds : List ℕ) → list_all is_digit ds ≡ true → list_all is_broad ds ≡ true
    all-digits [] h = refl
    all-digits (d ∷ ds) h =
        let both = and_parts (is_digit d) (list_all is_digit ds) h in
        and_from (is_broad d) (list_all is_broad ds) (digit-broad d both.0) (all-digits ds both.1)

    by_digits : (ds : List ℕ) → is_digits ds ≡ true → IsRun ds
    by_digits [] h = absurd (false≢true h)
    by_digits (d ∷ ds) h = record { long = omega arith; run = all-digits (d ∷ ds) h }
