-- `name` with `_` after it is a word, and a fixed word is no longer than all of them together.
use Rattle.std.proofs.Common.{◌≡◌, inl, inr, ℕ, zero, suc, ◌<◌, ◌≤◌, ◌+◌, ◌-◌, ◌==◌, ◌||◌, ◌↔◌, Bool, true, false}
use Rattle.std.proofs.Common.{List, [], ◌∷◌, ◌++◌, length, bytes_eq, chars, codes, length-append, refl, ap, sym, ◌∙◌}
use Rattle.std.proofs.Common.{subst, arith}
use Rattle.std.specs.Prelude.{encode_utf8_all, IsTrue}
use Rattle.std.specs.Char.{is_ascii_alphabetic, is_ascii_alphanumeric}
use Rattle.std.specs.List.{AllByRecursion}
use Rattle.std.proofs.Math.Utf8.{scalars}
use Rattle.std.proofs.lemmas.Bool.{cases_Bool, cases_lt, false≢true, true≢false}
use Rattle.std.proofs.lemmas.List.{append_assoc}
use Rattle.std.proofs.lemmas.Str.{chars-encodes, encode_ascii}
use Rattle.unicode_ident.proofs.IdentLemmas.{is_xid_start-ascii, is_xid_continue-ascii}
use Rattle.psg_terms.specs.Names.{Name, is_among}
use Rattle.psg_terms.specs.Words.{IsFreeWord, IsWord, goes_on_word, starts_word}
use Rattle.psg_terms.proofs.DeclareLaws.{bytes_eq-same}
use Rattle.psg_completing.specs.Naming.{IsSampleOf, name_with, strokes}

-- ---- it is a word

starts : (c : ℕ) → c < 128 → (is_ascii_alphabetic c || (c == 95)) ≡ true → IsTrue (starts_word c)
starts c small h = ap (λ b. b || (c == 95)) (is_xid_start-ascii c small) ∙ h

goes : (c : ℕ) → c < 128 → ((is_ascii_alphanumeric c || (c == 95)) || (c == 95)) ≡ true → IsTrue (goes_on_word c)
goes c small h = ap (λ b. b || (c == 95)) (is_xid_continue-ascii c small) ∙ h

strokes_go : (n : ℕ) → AllByRecursion (λ d. IsTrue (goes_on_word d)) (strokes n)
strokes_go zero = tt
strokes_go (suc n) = (goes 95 (omega arith) refl, strokes_go n)

is_word : (n : ℕ) → IsWord (name_with n)
is_word n = (
  starts 110 (omega arith) refl,
  (
    goes 97 (omega arith) refl,
    (goes 109 (omega arith) refl, (goes 101 (omega arith) refl, strokes_go n)),
  ),
)

-- ---- its bytes and its characters

abbrev IsSmall : ℕ → Type 0
IsSmall c = c < 128

small_strokes : (n : ℕ) → AllByRecursion IsSmall (strokes n)
small_strokes zero = tt
small_strokes (suc n) = (omega arith, small_strokes n)

small_name : (n : ℕ) → AllByRecursion IsSmall (name_with n)
small_name n = (omega arith, (omega arith, (omega arith, (omega arith, small_strokes n))))

small_bytes : (cs : List ℕ) → AllByRecursion IsSmall cs → cs ≡ encode_utf8_all cs
small_bytes [] h = refl
small_bytes (c ∷ cs) h =
    ap (λ xs. c ∷ xs) (small_bytes cs h.1) ∙ ap (λ xs. xs ++ encode_utf8_all cs) (sym (encode_ascii c h.0))

bytes_are : (n : ℕ) → name_with n ≡ encode_utf8_all (name_with n)
bytes_are n = small_bytes (name_with n) (small_name n)

scalar_strokes : (n : ℕ) → scalars (strokes n) ≡ true
scalar_strokes zero = refl
scalar_strokes (suc n) = scalar_strokes n

scalar_name : (n : ℕ) → scalars (name_with n) ≡ true
scalar_name n = scalar_strokes n

chars_are : (n : ℕ) → chars (name_with n) ≡ name_with n
chars_are n = ap chars (bytes_are n) ∙ chars-encodes (name_with n) (scalar_name n)

-- ---- whether it is free

free_if : (words : List Name) (n : ℕ) → is_among words (name_with n) ≡ false → IsFreeWord words (name_with n)
free_if words n none = (name_with n, bytes_are n, is_word n, none)

taken_if : (words : List Name) (name : Name) → is_among words name ≡ true → IsFreeWord words name → ⊥
taken_if words name there (cs, is, word, none) = true≢false (sym there ∙ none)

-- a test of the fixed words that are words
pub fixed_is : (r a : Bool) (W : Type 0) → IsTrue r ↔ (IsTrue a × W) → W → r ≡ a
fixed_is true true W h w = refl
fixed_is true false W h w = sym ((h.0 refl).0)
fixed_is false true W h w = h.1 (refl, w)
fixed_is false false W h w = refl

-- ---- one more `_`

strokes_push : (n : ℕ) → strokes n ++ 95 ∷ [] ≡ strokes (suc n)
strokes_push zero = refl
strokes_push (suc n) = ap (λ xs. 95 ∷ xs) (strokes_push n)

name_push : (n : ℕ) → name_with n ++ 95 ∷ [] ≡ name_with (suc n)
name_push n =
    append_assoc (codes "name") (strokes n) (95 ∷ []) ∙ ap (λ xs. codes "name" ++ xs) (strokes_push n)

-- all with fewer are fixed words
pub record IsSoFar (words : List Name) (name : Name) : Type 0 where
  pub many : ℕ
  pub is : name ≡ name_with many
  pub taken : (n : ℕ) → n < many → IsFreeWord words (name_with n) → ⊥

pub first_name : (words : List Name) (name : Name) → name ≡ codes "name" → IsSoFar words name
first_name words name e = record { many = 0; is = e; taken = λ n lt. absurd (omega (arith, lt)) }

pub next_name : (words : List Name) (old new : Name) → IsSoFar words old → is_among words old ≡ true
    → new ≡ old ++ 95 ∷ [] → IsSoFar words new
next_name words old new h there e = record {
  many = suc h.many;
  is = e ∙ ap (λ xs. xs ++ 95 ∷ []) h.is ∙ name_push h.many;
  taken = λ n lt. elim (cases_lt n h.many) [
    | inl less ↦ h.taken n less
    | inr ge ↦
        let same : n ≡ h.many = omega (arith, lt, ge) in
        λ free. taken_if words (name_with h.many) (subst (λ x. is_among words x ≡ true) h.is there)
        (subst (λ k. IsFreeWord words (name_with k)) same free)
  ];
}

pub last_name : (words : List Name) (name : Name) → IsSoFar words name → is_among words name ≡ false
    → IsSampleOf words name
last_name words name h none = record {
  many = h.many;
  is = h.is;
  free = subst (IsFreeWord words) (sym h.is)
      (free_if words h.many (subst (λ x. is_among words x ≡ false) h.is none));
  fewest = h.taken;
}

pub word_so_far : (words : List Name) (name : Name) → IsSoFar words name → IsWord (chars name)
word_so_far words name h =
    subst (λ x. IsWord (chars x)) (sym h.is) (subst IsWord (sym (chars_are h.many)) (is_word h.many))

-- ---- it ends

-- the bytes of all words
abbrev pub total : List Name → ℕ
total [] = 0
total (w ∷ ws) = length w + total ws

among_short : (words : List Name) (name : Name) → is_among words name ≡ true → length name ≤ total words
among_short [] name e = absurd (false≢true e)
among_short (w ∷ ws) name e = elim (cases_Bool (bytes_eq w name)) [
  | inl t ↦ let l : length w ≡ length name = ap length (bytes_eq-same w name t) in omega (arith, l)
  | inr f ↦
      let rest = among_short ws name (ap (λ b. b || is_among ws name) (sym f) ∙ e) in
      omega (arith, rest)
]

pub fewer_left : (words : List Name) (old new : Name) → is_among words old ≡ true → new ≡ old ++ 95 ∷ []
    → suc (total words) - length new < suc (total words) - length old
fewer_left words old new there e =
    let short = among_short words old there in
    let long : length new ≡ length old + 1 = ap length e ∙ length-append old (95 ∷ []) in
    omega (arith, short, long)
