-- The steps of the walks over digits and over the end of a paste.
use Rattle.std.proofs.Common.{◌≡◌, ℕ, zero, suc, ◌+◌, ◌-◌, ◌*◌, ◌<◌, ◌≤◌, Bool, true, false, cond, List, [], ◌∷◌, length, drop, get_or, refl, ap, ◌∙◌, arith, Some, None}
use Rattle.std.specs.Prelude.{◌==◌, ◌&&◌, nat_lt, slice_get}
use Rattle.std.proofs.lemmas.List.{drop_all, drop_more}
use Rattle.std.proofs.lemmas.Option.{slice_get_within}
use Rattle.std.proofs.lemmas.Bool.Decides.{nat_tests}
use Rattle.psg_keys.specs.Sizes.{is_between, begins_with}
use Rattle.std.specs.Str.{chars, IsUtf8, is_utf8}
use Rattle.std.proofs.lemmas.Str.{chars-nil, is_utf8-from_IsUtf8, IsUtf8-from_is_utf8}
use Rattle.psg_keys.specs.Names.{number_after, with_digit, character_of}

number_next : (b : Bool) (n d m : ℕ) (ds : List ℕ) → cond b (Some (n * 10 + (d - 48))) None ≡ Some m
    → cond b (number_after (n * 10 + (d - 48)) ds) None ≡ number_after m ds
number_next true n d m ds e = let same : n * 10 + (d - 48) ≡ m = cc in ap (λ k. number_after k ds) same
number_next false n d m ds e = absurd (cc)

number_none : (b : Bool) (n d : ℕ) (ds : List ℕ) → cond b (Some (n * 10 + (d - 48))) None ≡ None
    → cond b (number_after (n * 10 + (d - 48)) ds) None ≡ None
number_none true n d ds e = absurd (cc)
number_none false n d ds e = refl

-- one more digit
pub digit_step : (ds : List ℕ) (i n m : ℕ) → i < length ds → with_digit n (get_or ds i 0) ≡ Some m
    → number_after n (drop i ds) ≡ number_after m (drop (i + 1) ds)
digit_step ds i n m below e =
    ap (number_after n) (drop_more ds i 0 below)
    ∙ number_next (is_between 48 57 (get_or ds i 0) && nat_lt n 10_000) n (get_or ds i 0) m (drop (i + 1) ds) e

pub digit_none : (ds : List ℕ) (i n : ℕ) → i < length ds → with_digit n (get_or ds i 0) ≡ None → number_after n (drop i ds) ≡ None
digit_none ds i n below e =
    ap (number_after n) (drop_more ds i 0 below)
    ∙ number_none (is_between 48 57 (get_or ds i 0) && nat_lt n 10_000) n (get_or ds i 0) (drop (i + 1) ds) e

pub digits_end : (ds : List ℕ) (i n : ℕ) → length ds ≤ i → number_after n (drop i ds) ≡ Some n
digits_end ds i n past = ap (number_after n) (drop_all i ds past)

read_of : (xs : List ℕ) (i b : ℕ) → slice_get xs i ≡ Some b → get_or xs i 0 ≡ b
read_of [] zero b e = absurd (cc)
read_of [] (suc i) b e = absurd (cc)
read_of (x ∷ xs) zero b e = cc
read_of (x ∷ xs) (suc i) b e = read_of xs i b e

-- one more byte of the mark
pub begins_step : (mark bytes : List ℕ) (i b : ℕ) → i < length mark → slice_get bytes i ≡ Some b
    → begins_with (drop i mark) (drop i bytes)
    ≡ cond (get_or mark i 0 == b) (begins_with (drop (i + 1) mark) (drop (i + 1) bytes)) (Some false)
begins_step mark bytes i b below found =
    let inside : i < length bytes = slice_get_within bytes i b found in
    let is : get_or bytes i 0 ≡ b = read_of bytes i b found in
    ap (λ m. begins_with m (drop i bytes)) (drop_more mark i 0 below)
    ∙ ap (begins_with (get_or mark i 0 ∷ drop (i + 1) mark)) (drop_more bytes i 0 inside)
    ∙ ap (λ x. cond (get_or mark i 0 == x) (begins_with (drop (i + 1) mark) (drop (i + 1) bytes)) (Some false)) is

pub begins_same : (mark bytes : List ℕ) (i b : ℕ) → i < length mark → slice_get bytes i ≡ Some b → b ≡ get_or mark i 0
    → begins_with (drop i mark) (drop i bytes) ≡ begins_with (drop (i + 1) mark) (drop (i + 1) bytes)
begins_same mark bytes i b below found same =
    let test : (get_or mark i 0 == b) ≡ true = grind (arith, nat_tests, same) in
    begins_step mark bytes i b below found ∙ ap (λ t. cond t (begins_with (drop (i + 1) mark) (drop (i + 1) bytes)) (Some false)) test

pub begins_other : (mark bytes : List ℕ) (i b : ℕ) → i < length mark → slice_get bytes i ≡ Some b → ¬ (b ≡ get_or mark i 0)
    → begins_with (drop i mark) (drop i bytes) ≡ Some false
begins_other mark bytes i b below found other =
    let test : (get_or mark i 0 == b) ≡ false = grind (arith, nat_tests, other) in
    begins_step mark bytes i b below found ∙ ap (λ t. cond t (begins_with (drop (i + 1) mark) (drop (i + 1) bytes)) (Some false)) test

no_more : (bytes : List ℕ) (i : ℕ) → slice_get bytes i ≡ None → drop i bytes ≡ []
no_more [] zero e = refl
no_more [] (suc i) e = refl
no_more (x ∷ bytes) zero e = absurd (cc)
no_more (x ∷ bytes) (suc i) e = no_more bytes i e

pub begins_short : (mark bytes : List ℕ) (i : ℕ) → i < length mark → slice_get bytes i ≡ None → begins_with (drop i mark) (drop i bytes) ≡ None
begins_short mark bytes i below none =
    ap (λ m. begins_with m (drop i bytes)) (drop_more mark i 0 below)
    ∙ ap (begins_with (get_or mark i 0 ∷ drop (i + 1) mark)) (no_more bytes i none)

pub begins_end : (mark bytes : List ℕ) (i : ℕ) → length mark ≤ i → begins_with (drop i mark) (drop i bytes) ≡ Some true
begins_end mark bytes i past = ap (λ m. begins_with m (drop i bytes)) (drop_all i mark past)

-- ---- characters

pub no_chars : (text : List ℕ) → length text ≡ 0 → chars text ≡ []
no_chars [] e = chars-nil
no_chars (b ∷ bytes) e = absurd (omega (arith, e))

pub char_is : (bytes : List ℕ) → IsUtf8 bytes → character_of bytes ≡ slice_get (chars bytes) 0
char_is bytes utf8 = ap (λ b. cond b (slice_get (chars bytes) 0) None) (is_utf8-from_IsUtf8 bytes utf8)

char_none_at : (bytes : List ℕ) (b : Bool) → is_utf8 bytes ≡ b → ¬ (IsUtf8 bytes) → None ≡ cond b (slice_get (chars bytes) 0) None
char_none_at bytes true e none = absurd (none (IsUtf8-from_is_utf8 bytes e))
char_none_at bytes false e none = refl

pub char_none : (bytes : List ℕ) → ¬ (IsUtf8 bytes) → None ≡ character_of bytes
char_none bytes none = char_none_at bytes (is_utf8 bytes) refl none
