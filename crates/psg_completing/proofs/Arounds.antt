-- The word around a byte, place by place.
use Rattle.std.proofs.Common.{◌≡◌, ◌<◌, ◌≤◌, inl, inr, Bool, true, false, ℕ, suc, List, Option, Some, None, slice_get, refl, ap, subst, ◌∙◌, arith}
use Rattle.std.proofs.lemmas.Bool.{cases_lt, eqb-true}
use Rattle.psg_completing.specs.Around.{IsRun, IsWordAround, marked, marked_here, unmarked, is_mark_at, is_mark_before, is_mark_byte, is_word, is_word_at, is_word_before, is_word_byte}

-- one more place before the words
pub words_before : (text : List ℕ) (last from place : ℕ) → from ≡ suc last → is_word_at text last ≡ true
    → ((k : ℕ) → from ≤ k → k < place → is_word_at text k ≡ true)
    → (k : ℕ) → last ≤ k → k < place → is_word_at text k ≡ true
words_before text last from place e is words k le lt =
    elim (cases_lt last k) [
      | inl after ↦ words k (omega (arith, e, after)) lt
      | inr here ↦ subst (λ n. is_word_at text n ≡ true) (let same : last ≡ k = omega (arith, le, here) in same) is
    ]

-- one more place after them
pub words_behind : (text : List ℕ) (place to next : ℕ) → next ≡ suc to → is_word_at text to ≡ true
    → ((k : ℕ) → place ≤ k → k < to → is_word_at text k ≡ true)
    → (k : ℕ) → place ≤ k → k < next → is_word_at text k ≡ true
words_behind text place to next e is words k le lt =
    elim (cases_lt k to) [
      | inl before ↦ words k le before
      | inr here ↦ subst (λ n. is_word_at text n ≡ true) (let same : to ≡ k = omega (arith, e, lt, here) in same) is
    ]

-- the words up to a place, and those from it on
pub words_both : (text : List ℕ) (from byte to : ℕ) → ((k : ℕ) → from ≤ k → k < byte → is_word_at text k ≡ true)
    → ((k : ℕ) → byte ≤ k → k < to → is_word_at text k ≡ true)
    → (k : ℕ) → from ≤ k → k < to → is_word_at text k ≡ true
words_both text from byte to front back k le lt =
    elim (cases_lt k byte) [
      | inl before ↦ front k le before
      | inr behind ↦ back k behind lt
    ]

pub before_zero : (text : List ℕ) (place : ℕ) → place ≡ 0 → is_word_before text place ≡ false
before_zero text place e = ap (is_word_before text) e

pub before_suc : (text : List ℕ) (place last : ℕ) (b : Bool) → place ≡ suc last → is_word_at text last ≡ b
    → is_word_before text place ≡ b
before_suc text place last b e is = ap (is_word_before text) e ∙ is

pub mark_zero : (text : List ℕ) (place : ℕ) → place ≡ 0 → is_mark_before text place ≡ false
mark_zero text place e = ap (is_mark_before text) e

pub mark_suc : (text : List ℕ) (place last : ℕ) (b : Bool) → place ≡ suc last → is_mark_at text last ≡ b
    → is_mark_before text place ≡ b
mark_suc text place last b e is = ap (is_mark_before text) e ∙ is

-- a `?` is no byte of a word
mark_byte : (o : Option ℕ) → is_mark_byte o ≡ true → is_word_byte o ≡ false
mark_byte None e = refl
mark_byte (Some b) e = ap is_word (eqb-true b 63 e)

mark_no_word : (text : List ℕ) (place : ℕ) → is_mark_at text place ≡ true → is_word_at text place ≡ false
mark_no_word text place e = mark_byte (slice_get text place) e

-- ---- the three words

module _ (text : List ℕ) (byte start to : ℕ) (le : start ≤ byte)
    (front : (k : ℕ) → start ≤ k → k < byte → is_word_at text k ≡ true) (before : is_word_before text start ≡ false)
    (after : byte ≤ to) (back : (k : ℕ) → byte ≤ k → k < to → is_word_at text k ≡ true)
    (behind : is_word_at text to ≡ false) where
  run : IsRun text start to
  run = record {
    order = omega (arith, le, after);
    words = words_both text start byte to front back;
    before = before;
    behind = behind;
  }

  pub marked_word : (from : ℕ) → start ≡ suc from → is_mark_at text from ≡ true
      → IsWordAround text byte (record { from = from; inner = start; to = to })
  marked_word from e is = marked run le after e is

  pub plain_word : is_mark_before text start ≡ false → (start ≡ byte → is_mark_at text byte ≡ false)
      → IsWordAround text byte (record { from = start; inner = start; to = to })
  plain_word none here = unmarked run le after refl none here

pub word_here : (text : List ℕ) (byte start inner to : ℕ) → start ≡ byte → is_mark_at text byte ≡ true → inner ≡ suc byte
    → is_word_before text start ≡ false → is_mark_before text start ≡ false → inner ≤ to
    → ((k : ℕ) → inner ≤ k → k < to → is_word_at text k ≡ true) → is_word_at text to ≡ false
    → IsWordAround text byte (record { from = byte; inner = inner; to = to })
word_here text byte start inner to s is i before mark le words behind =
    marked_here
    (record {
      order = le;
      words = words;
      before = before_suc text inner byte false i (mark_no_word text byte is);
      behind = behind;
    })
    refl i is (subst (λ n. is_word_before text n ≡ false) s before) (subst (λ n. is_mark_before text n ≡ false) s mark)
