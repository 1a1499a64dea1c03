-- A front and a number are new names, one for each place, and they are short.
use Rattle.std.proofs.Common.{◌≡◌, inl, inr, ℕ, zero, suc, ◌+◌, ◌/◌, ◌%◌, ◌^◌, ◌<◌, ◌≤◌, ◌==◌, ◌||◌, ◌&&◌, Bool, true, false, cond, if◌then◌else◌, List, [], ◌∷◌, ◌++◌, length, bytes_eq, refl, ap, ap₂, sym, ◌∙◌, subst, arith, true≢false, lt-ltb, length-append}
use Rattle.std.specs.Prelude.{decimal, encode_utf8_all, nat_eq, IsTrue}
use Rattle.std.specs.Fmt.{digit_glyph, digits_onto, digits}
use Rattle.std.specs.List.{AllByRecursion}
use Rattle.std.proofs.lemmas.Bool.{cases_Bool}
use Rattle.std.proofs.lemmas.Fmt.{decimal_injective, length-decimal-le}
use Rattle.std.proofs.lemmas.Str.{encode_ascii}
use Rattle.unicode_ident.proofs.IdentLemmas.{is_xid_start-ascii, is_xid_continue-ascii}
use Rattle.psg_terms.specs.Names.{Name, is_among}
use Rattle.psg_terms.specs.Words.{IsWord, goes_on_word, starts_word}
use Rattle.psg_terms.proofs.DeclareLaws.{bytes_eq-same}
use Rattle.psg_terms.proofs.Lists.{each_append, eqb-refl}
use Rattle.psg_grammar.specs.declared.types.Definition.{Definition}
use Rattle.psg_grammar.specs.Fragments.{Fragment}
use Rattle.psg_grammar.specs.WellFormed.{IsName, fixed_words}
use Rattle.psg_renaming.specs.Occurring.{occurring}
use Rattle.psg_places.specs.NewNames.{AreNew, IsFront, IsLetter, beginning, begins_with, new_name}
use Rattle.psg_places.specs.Places.{place_count}

-- ---- letters and digits are characters of words

abbrev IsPlainByte : ℕ → Type 0
IsPlainByte c = (c < 128) × IsTrue (goes_on_word c)

either_all : (P : ℕ → Type 0) (b : Bool) (xs ys : List ℕ) → AllByRecursion P xs → AllByRecursion P ys
    → AllByRecursion P (cond b xs ys)
either_all P true xs ys p q = p
either_all P false xs ys p q = q

module _ (P : ℕ → Type 0) (of_digit : (d : ℕ) → d < 10 → P (48 + d)) where
  glyph_is : (n : ℕ) → P (digit_glyph false (n % 10))
  glyph_is n =
      let small : n % 10 < 10 = omega arith in
      let is : digit_glyph false (n % 10) ≡ 48 + n % 10 =
      ap (λ b. if b then 48 + n % 10 else 87 + n % 10) (lt-ltb (n % 10) 10 small) in
      subst P (sym is) (of_digit (n % 10) small)

  onto_are : (k n : ℕ) (acc : List ℕ) → AllByRecursion P acc → AllByRecursion P (digits_onto k 10 false n acc)
  onto_are zero n acc h = h
  onto_are (suc k) n acc h =
      let one = digit_glyph false (n % 10) in
      either_all P (n / 10 == 0) (one ∷ acc) (digits_onto k 10 false (n / 10) (one ∷ acc)) (glyph_is n, h)
      (onto_are k (n / 10) (one ∷ acc) (glyph_is n, h))

  decimal_are : (n : ℕ) → AllByRecursion P (decimal n)
  unfolding digits
  decimal_are n = onto_are 64 n [] tt

digit_goes : (d : ℕ) → d < 10 → IsPlainByte (48 + d)
digit_goes zero h = (omega arith, ap (λ b. b || false) (is_xid_continue-ascii 48 (omega arith)))
digit_goes (suc zero) h = (omega arith, ap (λ b. b || false) (is_xid_continue-ascii 49 (omega arith)))
digit_goes (suc (suc zero)) h = (omega arith, ap (λ b. b || false) (is_xid_continue-ascii 50 (omega arith)))
digit_goes (suc (suc (suc zero))) h = (omega arith, ap (λ b. b || false) (is_xid_continue-ascii 51 (omega arith)))
digit_goes (suc (suc (suc (suc zero)))) h = (omega arith, ap (λ b. b || false) (is_xid_continue-ascii 52 (omega arith)))
digit_goes (suc (suc (suc (suc (suc zero))))) h = (omega arith, ap (λ b. b || false) (is_xid_continue-ascii 53 (omega arith)))
digit_goes (suc (suc (suc (suc (suc (suc zero)))))) h = (omega arith, ap (λ b. b || false) (is_xid_continue-ascii 54 (omega arith)))
digit_goes (suc (suc (suc (suc (suc (suc (suc zero))))))) h =
    (omega arith, ap (λ b. b || false) (is_xid_continue-ascii 55 (omega arith)))
digit_goes (suc (suc (suc (suc (suc (suc (suc (suc zero)))))))) h =
    (omega arith, ap (λ b. b || false) (is_xid_continue-ascii 56 (omega arith)))
digit_goes (suc (suc (suc (suc (suc (suc (suc (suc (suc zero))))))))) h =
    (omega arith, ap (λ b. b || false) (is_xid_continue-ascii 57 (omega arith)))
digit_goes (suc (suc (suc (suc (suc (suc (suc (suc (suc (suc d)))))))))) h = absurd (omega (arith, h))

a_goes : IsPlainByte 97
a_goes = (omega arith, ap (λ b. b || false) (is_xid_continue-ascii 97 (omega arith)))

b_goes : IsPlainByte 98
b_goes = (omega arith, ap (λ b. b || false) (is_xid_continue-ascii 98 (omega arith)))

letter_goes : (c : ℕ) → IsLetter c → IsPlainByte c
letter_goes c (inl e) = subst IsPlainByte (sym e) a_goes
letter_goes c (inr e) = subst IsPlainByte (sym e) b_goes

a_starts : IsTrue (starts_word 97)
a_starts = ap (λ b. b || false) (is_xid_start-ascii 97 (omega arith))

b_starts : IsTrue (starts_word 98)
b_starts = ap (λ b. b || false) (is_xid_start-ascii 98 (omega arith))

letter_starts : (c : ℕ) → IsLetter c → IsTrue (starts_word c)
letter_starts c (inl e) = subst (λ d. IsTrue (starts_word d)) (sym e) a_starts
letter_starts c (inr e) = subst (λ d. IsTrue (starts_word d)) (sym e) b_starts

letters_go : (cs : List ℕ) → AllByRecursion IsLetter cs → AllByRecursion IsPlainByte cs
letters_go [] h = tt
letters_go (c ∷ cs) h = (letter_goes c h.0, letters_go cs h.1)

number_goes : (n : ℕ) → AllByRecursion IsPlainByte (97 ∷ decimal n)
number_goes n = (a_goes, decimal_are IsPlainByte digit_goes n)

plain_bytes : (cs : List ℕ) → AllByRecursion IsPlainByte cs → cs ≡ encode_utf8_all cs
plain_bytes [] h = refl
plain_bytes (c ∷ cs) h =
    ap (λ xs. c ∷ xs) (plain_bytes cs h.1) ∙ ap (λ xs. xs ++ encode_utf8_all cs) (sym (encode_ascii c h.0.0))

plain_goes : (cs : List ℕ) → AllByRecursion IsPlainByte cs → AllByRecursion (λ d. IsTrue (goes_on_word d)) cs
plain_goes [] h = tt
plain_goes (c ∷ cs) h = (h.0.1, plain_goes cs h.1)

all_go : (front : Name) (n : ℕ) → AllByRecursion IsLetter front → AllByRecursion IsPlainByte (new_name front n)
all_go front n h = each_append IsPlainByte front (97 ∷ decimal n) (letters_go front h) (number_goes n)

is_word : (front : Name) (n : ℕ) → AllByRecursion IsLetter front → IsWord (new_name front n)
is_word [] n h = (a_starts, plain_goes (decimal n) (decimal_are IsPlainByte digit_goes n))
is_word (c ∷ front) n h = (letter_starts c h.0, plain_goes (new_name front n) (all_go front n h.1))

-- ---- what begins with the front is none of the names

and_true : (a b : Bool) → a ≡ true → b ≡ true → (a && b) ≡ true
and_true a b e f = ap₂ (λ x y. x && y) e f

begins_itself : (front more : Name) → begins_with front (front ++ more) ≡ true
begins_itself [] more = refl
begins_itself (c ∷ front) more =
    and_true (nat_eq c c) (begins_with front (front ++ more)) (eqb-refl c) (begins_itself front more)

none_of_both : (b : Bool) (n : ℕ) → cond b 1 0 + n ≡ 0 → (b ≡ false) × (n ≡ 0)
none_of_both true n e = absurd (omega (arith, e))
none_of_both false n e = (refl, omega (arith, e))

not_among : (front : Name) (names : List Name) (x : Name) → beginning front names ≡ 0 → begins_with front x ≡ true
    → is_among names x ≡ false
not_among front [] x e b = refl
not_among front (n ∷ ns) x e b =
    let (never, rest) = none_of_both (begins_with front n) (beginning front ns) e in
    let here : bytes_eq n x ≡ false = elim (cases_Bool (bytes_eq n x)) [
      | inl t ↦
          let same : n ≡ x = bytes_eq-same n x t in
          absurd (true≢false (sym b ∙ ap (begins_with front) (sym same) ∙ never))
      | inr f ↦ f
    ] in
    ap (λ c. c || is_among ns x) here ∙ not_among front ns x rest b

beginning_both : (front : Name) (xs ys : List Name)
    → beginning front (xs ++ ys) ≡ beginning front xs + beginning front ys
beginning_both front [] ys = omega arith
beginning_both front (x ∷ xs) ys = let e = beginning_both front xs ys in omega (arith, e)

-- ---- different numbers

same_after : (front xs ys : Name) → front ++ xs ≡ front ++ ys → xs ≡ ys
same_after [] xs ys e = e
same_after (c ∷ front) xs ys e = same_after front xs ys (ap rest_of e) where
  rest_of : Name → Name
  rest_of [] = []
  rest_of (d ∷ ds) = ds

after_a : (xs ys : Name) → 97 ∷ xs ≡ 97 ∷ ys → xs ≡ ys
after_a xs ys e = ap rest_of e where
  rest_of : Name → Name
  rest_of [] = []
  rest_of (d ∷ ds) = ds

module _ (def : Definition) (f : Fragment) (front : Name) (free : IsFront def f front) where
  zero_both : (beginning front (occurring f) ≡ 0) × (beginning front (fixed_words def) ≡ 0)
  zero_both =
      let e = beginning_both front (occurring f) (fixed_words def) in
      (omega (arith, e, free.none), omega (arith, e, free.none))

  pub is_name : (n : ℕ) → IsName def (new_name front n)
  is_name n = (
    new_name front n,
    plain_bytes (new_name front n) (all_go front n free.letters),
    is_word front n free.letters,
    not_among front (fixed_words def) (new_name front n) zero_both.1 (begins_itself front (97 ∷ decimal n)),
  )

  pub all_new : place_count def f < 2 ^ 64 → AreNew def f (new_name front)
  all_new small = record {
    names = λ n lt. is_name n;
    new = λ n lt. not_among front (occurring f) (new_name front n) zero_both.0 (begins_itself front (97 ∷ decimal n));
    apart = λ n m ln lm e.
        decimal_injective n m (omega (arith, ln, small)) (omega (arith, lm, small))
        (after_a (decimal n) (decimal m) (same_after front (97 ∷ decimal n) (97 ∷ decimal m) e));
  }

  -- the names of the places can be written
  pub is_short : place_count def f < 2 ^ 64 → (n : ℕ) → n < place_count def f → length (new_name front n) ≤ 255
  is_short small n lt =
      let few : n < 2 ^ 64 = omega (arith, lt, small) in
      let power : 2 ^ 64 ≤ 10 ^ 20 = omega arith in
      let d : length (decimal n) ≤ 20 = length-decimal-le 20 n (omega arith) (omega (arith, few, power)) few in
      let l = length-append front (97 ∷ decimal n) in
      omega (arith, l, d, free.short)
