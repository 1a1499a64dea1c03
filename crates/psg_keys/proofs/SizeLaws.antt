-- The size of a first key is within the bytes, and does not change where more bytes come.
use Rattle.std.proofs.Common.{◌≡◌, ℕ, suc, ◌+◌, ◌-◌, ◌<◌, ◌≤◌, Bool, true, false, cond, not, List, [], ◌∷◌, ◌++◌, length, take, refl, inl, inr, sym, ap, ◌∙◌, arith, Option, Some, None, length-append, length-take, take_all, IfSome}
use Rattle.std.specs.Prelude.{◌==◌, nat_lt, position, ◌&&◌}
use Rattle.std.specs.List.{prefix_len}
use Rattle.std.specs.Option.{option_map}
use Rattle.std.proofs.lemmas.Bool.Decides.{nat_tests}
use Rattle.std.proofs.lemmas.Bool.{cases_lt}
use Rattle.std.proofs.lemmas.List.{get_or_append_left, take-append-le}
use Rattle.std.proofs.Math.Seq.{take-append-add}
use Rattle.psg_keys.specs.Sizes.{run, run_at, is_between, ends_sequence, ends_character, with_last, body_size, begins_sequence, escape_size, follow_count, character_size, begins_with, end_of_paste, pasted_escape_size, first_size}

-- ---- what a value is that is mapped

pub map_some : {A : Type 0} (f : A → ℕ) (o : Option A) (n : ℕ) → option_map f o ≡ Some n → (k : A) × (o ≡ Some k) × (f k ≡ n)
map_some f None n e = absurd (cc)
map_some f (Some k) n e = (k, refl, cc)

some_of_test : (b : Bool) (a k : ℕ) → cond b (Some a) None ≡ Some k → (b ≡ true) × (a ≡ k)
some_of_test true a k e = (refl, cc)
some_of_test false a k e = absurd (cc)

lt_of_test : (a b : ℕ) → nat_lt a b ≡ true → a < b
lt_of_test a b e = grind (arith, nat_tests, e)

test_of_lt : (a b : ℕ) → a < b → nat_lt a b ≡ true
test_of_lt a b h = grind (arith, nat_tests, h)

-- ---- runs

prefix_more_at : (b : Bool) (n m len : ℕ) → (n < len → m ≡ n) → cond b (1 + n) 0 < suc len → cond b (1 + m) 0 ≡ cond b (1 + n) 0
prefix_more_at true n m len same below = ap (λ k. 1 + k) (same (omega (arith, below)))
prefix_more_at false n m len same below = refl

prefix_more : (q : ℕ → Bool) (xs ys : List ℕ) → prefix_len q xs < length xs → prefix_len q (xs ++ ys) ≡ prefix_len q xs
prefix_more q [] ys below = absurd (omega (arith, below))
prefix_more q (x ∷ xs) ys below =
    prefix_more_at (q x) (prefix_len q xs) (prefix_len q (xs ++ ys)) (length xs) (prefix_more q xs ys) below

position_inside : (p : ℕ → Bool) (xs : List ℕ) (k : ℕ) → position p xs ≡ Some k
    → (prefix_len (λ x. not (p x)) xs < length xs) × (prefix_len (λ x. not (p x)) xs ≡ k)
position_inside p xs k e =
    let parts = some_of_test _ (prefix_len (λ x. not (p x)) xs) k e in
    (lt_of_test _ _ parts.0, parts.1)

position_more : (p : ℕ → Bool) (xs ys : List ℕ) (k : ℕ) → position p xs ≡ Some k → position p (xs ++ ys) ≡ Some k
position_more p xs ys k e =
    let q : ℕ → Bool = λ x. not (p x) in
    let inside = position_inside p xs k e in
    let same : prefix_len q (xs ++ ys) ≡ prefix_len q xs = prefix_more q xs ys inside.0 in
    let long : prefix_len q (xs ++ ys) < length (xs ++ ys) = omega (arith, inside.0, same, length-append xs ys) in
    ap (λ b. cond b (Some (prefix_len q (xs ++ ys))) None) (test_of_lt _ _ long) ∙ ap Some (same ∙ inside.1)

run_at_short : (most len : ℕ) (xs : List ℕ) (o : Option ℕ) (k : ℕ) → length xs < most → run_at most xs o ≡ Some k → o ≡ Some k
run_at_short most len xs (Some place) k short e = e
run_at_short most len xs None k short e =
    absurd (let none : cond (nat_lt (length xs) most) None (Some most) ≡ None = ap (λ b. cond b None (Some most)) (test_of_lt _ _ short) in cc)

run_at_long : (most : ℕ) (xs ys : List ℕ) (o : Option ℕ) → most ≤ length xs → run_at most (xs ++ ys) o ≡ run_at most xs o
run_at_long most xs ys (Some place) long = refl
run_at_long most xs ys None long =
    let one : nat_lt (length xs) most ≡ false = grind (arith, nat_tests, long) in
    let two : nat_lt (length (xs ++ ys)) most ≡ false = grind (arith, nat_tests, long, length-append xs ys) in
    ap (λ b. cond b None (Some most)) (two ∙ sym one)

pub run_more : (ends : ℕ → Bool) (most : ℕ) (xs ys : List ℕ) (k : ℕ) → run ends most xs ≡ Some k → run ends most (xs ++ ys) ≡ Some k
run_more ends most xs ys k e =
    elim (cases_lt (length xs) most) [
      | inl short ↦
          let found : position ends (take most xs) ≡ Some k = run_at_short most 0 xs _ k short e in
          let all : take most xs ≡ xs = take_all most xs (omega (arith, short)) in
          let here : position ends xs ≡ Some k = ap (position ends) (sym all) ∙ found in
          let split : most ≡ length xs + (most - length xs) = omega (arith, short) in
          let longer : take most (xs ++ ys) ≡ xs ++ take (most - length xs) ys =
          ap (λ n. take n (xs ++ ys)) split ∙ take-append-add xs ys (most - length xs) in
          ap (λ r. run_at most (xs ++ ys) (position ends r)) longer
          ∙ ap (run_at most (xs ++ ys)) (position_more ends xs (take (most - length xs) ys) k here)
      | inr long ↦
          ap (λ r. run_at most (xs ++ ys) (position ends r)) (take-append-le most xs ys long)
          ∙ run_at_long most xs ys _ long ∙ e
    ]

run_at_inside : (ends : ℕ → Bool) (most : ℕ) (xs : List ℕ) (o : Option ℕ) → position ends (take most xs) ≡ o → (k : ℕ) → run_at most xs o ≡ Some k → k < most → k < length xs
run_at_inside ends most xs (Some place) found k e below =
    let inside = position_inside ends (take most xs) place found in
    let same : place ≡ k = cc in
    omega (arith, inside.0, inside.1, same, length-take most xs)
run_at_inside ends most xs None found k e below =
    elim (cases_lt (length xs) most) [
      | inl short ↦ absurd (let none : cond (nat_lt (length xs) most) None (Some most) ≡ None = ap (λ b. cond b None (Some most)) (test_of_lt _ _ short) in cc)
      | inr long ↦ omega (arith, long, below)
    ]

-- a run that ends before it is full ends at a byte
pub run_inside : (ends : ℕ → Bool) (most : ℕ) (xs : List ℕ) (k : ℕ) → run ends most xs ≡ Some k → k < most → k < length xs
run_inside ends most xs k e below = run_at_inside ends most xs _ refl k e below

run_at_within : (ends : ℕ → Bool) (most : ℕ) (xs : List ℕ) (o : Option ℕ) → position ends (take most xs) ≡ o → (k : ℕ) → run_at most xs o ≡ Some k → (k ≤ most) × (k ≤ length xs)
run_at_within ends most xs (Some place) found k e =
    let inside = position_inside ends (take most xs) place found in
    let same : place ≡ k = cc in
    (omega (arith, inside.0, inside.1, same, length-take most xs), omega (arith, inside.0, inside.1, same, length-take most xs))
run_at_within ends most xs None found k e =
    elim (cases_lt (length xs) most) [
      | inl short ↦ absurd (let none : cond (nat_lt (length xs) most) None (Some most) ≡ None = ap (λ b. cond b None (Some most)) (test_of_lt _ _ short) in cc)
      | inr long ↦
          let full : cond (nat_lt (length xs) most) None (Some most) ≡ Some most = ap (λ b. cond b None (Some most)) (let f : nat_lt (length xs) most ≡ false = grind (arith, nat_tests, long) in f) in
          let same : most ≡ k = cc in
          (omega (arith, same), omega (arith, same, long))
    ]

pub run_within : (ends : ℕ → Bool) (most : ℕ) (xs : List ℕ) (k : ℕ) → run ends most xs ≡ Some k → (k ≤ most) × (k ≤ length xs)
run_within ends most xs k e = run_at_within ends most xs _ refl k e

pub within_some : (ends : ℕ → Bool) (most : ℕ) (xs : List ℕ) (r : Option ℕ) → r ≡ run ends most xs → IfSome r (λ n. n ≤ most)
within_some ends most xs None e = tt
within_some ends most xs (Some k) e = (run_within ends most xs k (sym e)).0

pub inside_some : (ends : ℕ → Bool) (most : ℕ) (xs : List ℕ) (r : Option ℕ) → r ≡ run ends most xs → IfSome r (λ n. n < most → n < length xs)
inside_some ends most xs None e = tt
inside_some ends most xs (Some k) e = run_inside ends most xs k (sym e)

-- ---- sequences

with_last_at : (b : Bool) (x y k : ℕ) → (b ≡ true → x ≡ y)
    → cond (b && is_between 64 126 x) (k + 1) k ≡ cond (b && is_between 64 126 y) (k + 1) k
with_last_at true x y k same = ap (λ z. cond (is_between 64 126 z) (k + 1) k) (same refl)
with_last_at false x y k same = refl

with_last_more : (xs ys : List ℕ) (k : ℕ) → (k < 30 → k < length xs) → with_last (xs ++ ys) k ≡ with_last xs k
with_last_more xs ys k inside =
    with_last_at (nat_lt k 30) _ _ k (λ b. get_or_append_left xs ys 0 k (inside (lt_of_test k 30 b)))

pub body_more : (xs ys : List ℕ) (n : ℕ) → body_size xs ≡ Some n → body_size (xs ++ ys) ≡ Some n
body_more xs ys n e =
    let found = map_some (with_last xs) (run ends_sequence 30 xs) n e in
    ap (option_map (with_last (xs ++ ys))) (run_more ends_sequence 30 xs ys found.0 found.1)
    ∙ ap Some (with_last_more xs ys found.0 (run_inside ends_sequence 30 xs found.0 found.1) ∙ found.2)

with_last_le_at : (a b : Bool) (k len : ℕ) → k ≤ len → (a ≡ true → k < len) → cond (a && b) (k + 1) k ≤ len
with_last_le_at true true k len within below = let h : k < len = below refl in omega (arith, h)
with_last_le_at true false k len within below = within
with_last_le_at false b k len within below = within

pub body_within : (xs : List ℕ) (n : ℕ) → body_size xs ≡ Some n → n ≤ length xs
body_within xs n e =
    let found = map_some (with_last xs) (run ends_sequence 30 xs) n e in
    let le : with_last xs found.0 ≤ length xs =
    with_last_le_at (nat_lt found.0 30) _ found.0 (length xs) (run_within ends_sequence 30 xs found.0 found.1).1
    (λ b. run_inside ends_sequence 30 xs found.0 found.1 (lt_of_test found.0 30 b)) in
    omega (arith, le, found.2)

escape_more_at : (b : Bool) (xs ys : List ℕ) (n : ℕ) → cond b (option_map (λ k. k + 2) (body_size xs)) (Some 1) ≡ Some n
    → cond b (option_map (λ k. k + 2) (body_size (xs ++ ys))) (Some 1) ≡ Some n
escape_more_at true xs ys n e =
    let found = map_some (λ k. k + 2) (body_size xs) n e in
    ap (option_map (λ k. k + 2)) (body_more xs ys found.0 found.1) ∙ ap Some found.2
escape_more_at false xs ys n e = e

escape_more : (xs ys : List ℕ) (n : ℕ) → escape_size xs ≡ Some n → escape_size (xs ++ ys) ≡ Some n
escape_more [] ys n e = absurd (cc)
escape_more (b ∷ body) ys n e = escape_more_at (begins_sequence b) body ys n e

escape_within_at : (b : Bool) (xs : List ℕ) (n : ℕ) → cond b (option_map (λ k. k + 2) (body_size xs)) (Some 1) ≡ Some n
    → (0 < n) × (n ≤ length xs + 2)
escape_within_at true xs n e =
    let found = map_some (λ k. k + 2) (body_size xs) n e in
    let le : found.0 ≤ length xs = body_within xs found.0 found.1 in
    (omega (arith, found.2), omega (arith, le, found.2))
escape_within_at false xs n e = let one : 1 ≡ n = cc in (omega (arith, one), omega (arith, one))

escape_within : (xs : List ℕ) (n : ℕ) → escape_size xs ≡ Some n → (0 < n) × (n ≤ length xs + 1)
escape_within [] n e = absurd (cc)
escape_within (b ∷ body) n e =
    let h = escape_within_at (begins_sequence b) body n e in (h.0, omega (arith, h.1))

-- ---- characters

character_more : (b : ℕ) (xs ys : List ℕ) (n : ℕ) → character_size b xs ≡ Some n → character_size b (xs ++ ys) ≡ Some n
character_more b xs ys n e =
    let f : ℕ → ℕ = λ k. cond (k == follow_count b) (k + 1) 1 in
    let found = map_some f (run ends_character (follow_count b) xs) n e in
    ap (option_map f) (run_more ends_character (follow_count b) xs ys found.0 found.1) ∙ ap Some found.2

character_le : (b : Bool) (k len : ℕ) → k ≤ len → (0 < cond b (k + 1) 1) × (cond b (k + 1) 1 ≤ len + 1)
character_le true k len within = (omega arith, omega (arith, within))
character_le false k len within = (omega arith, omega arith)

character_within : (b : ℕ) (xs : List ℕ) (n : ℕ) → character_size b xs ≡ Some n → (0 < n) × (n ≤ length xs + 1)
character_within b xs n e =
    let f : ℕ → ℕ = λ k. cond (k == follow_count b) (k + 1) 1 in
    let found = map_some f (run ends_character (follow_count b) xs) n e in
    let le = character_le (found.0 == follow_count b) found.0 (length xs) (run_within ends_character (follow_count b) xs found.0 found.1).1 in
    (omega (arith, le.0, found.2), omega (arith, le.1, found.2))

-- ---- the end of a paste

begins_more_at : (b : Bool) (mark xs ys : List ℕ) (r : Bool) → (begins_with mark xs ≡ Some r → begins_with mark (xs ++ ys) ≡ Some r)
    → cond b (begins_with mark xs) (Some false) ≡ Some r → cond b (begins_with mark (xs ++ ys)) (Some false) ≡ Some r
begins_more_at true mark xs ys r step e = step e
begins_more_at false mark xs ys r step e = e

begins_more : (mark xs ys : List ℕ) (r : Bool) → begins_with mark xs ≡ Some r → begins_with mark (xs ++ ys) ≡ Some r
begins_more [] xs ys r e = e
begins_more (m ∷ mark) [] ys r e = absurd (cc)
begins_more (m ∷ mark) (x ∷ xs) ys r e = begins_more_at (m == x) mark xs ys r (begins_more mark xs ys r) e

begins_length_at : (b : Bool) (mark xs : List ℕ) → (begins_with mark xs ≡ Some true → length mark ≤ length xs)
    → cond b (begins_with mark xs) (Some false) ≡ Some true → length mark ≤ length xs
begins_length_at true mark xs step e = step e
begins_length_at false mark xs step e = absurd (cc)

begins_length : (mark xs : List ℕ) → begins_with mark xs ≡ Some true → length mark ≤ length xs
begins_length [] xs e = omega arith
begins_length (m ∷ mark) [] e = absurd (cc)
begins_length (m ∷ mark) (x ∷ xs) e =
    let h : length mark ≤ length xs = begins_length_at (m == x) mark xs (begins_length mark xs) e in omega (arith, h)

pasted_more : (xs ys : List ℕ) (n : ℕ) → pasted_escape_size xs ≡ Some n → pasted_escape_size (xs ++ ys) ≡ Some n
pasted_more xs ys n e =
    let f : Bool → ℕ = λ ends. cond ends 6 1 in
    let found = map_some f (begins_with end_of_paste xs) n e in
    ap (option_map f) (begins_more end_of_paste xs ys found.0 found.1) ∙ ap Some found.2

pasted_le : (b : Bool) (len n : ℕ) → (b ≡ true → 5 ≤ len) → cond b 6 1 ≡ n → (0 < n) × (n ≤ len + 1)
pasted_le true len n long e = let h : 5 ≤ len = long refl in (omega (arith, e), omega (arith, h, e))
pasted_le false len n long e = (omega (arith, e), omega (arith, e))

pasted_within : (xs : List ℕ) (n : ℕ) → pasted_escape_size xs ≡ Some n → (0 < n) × (n ≤ length xs + 1)
pasted_within xs n e =
    let f : Bool → ℕ = λ ends. cond ends 6 1 in
    let found = map_some f (begins_with end_of_paste xs) n e in
    pasted_le found.0 (length xs) n (λ t. begins_length end_of_paste xs (found.1 ∙ ap Some t)) found.2

-- ---- the first key

first_more_at : (t p : Bool) (b : ℕ) (xs ys : List ℕ) (n : ℕ)
    → cond t (cond p (pasted_escape_size xs) (escape_size xs)) (character_size b xs) ≡ Some n
    → cond t (cond p (pasted_escape_size (xs ++ ys)) (escape_size (xs ++ ys))) (character_size b (xs ++ ys)) ≡ Some n
first_more_at true true b xs ys n e = pasted_more xs ys n e
first_more_at true false b xs ys n e = escape_more xs ys n e
first_more_at false p b xs ys n e = character_more b xs ys n e

pub first_more : (pasting : Bool) (xs ys : List ℕ) (n : ℕ) → first_size pasting xs ≡ Some n → first_size pasting (xs ++ ys) ≡ Some n
first_more pasting [] ys n e = absurd (cc)
first_more pasting (b ∷ xs) ys n e = first_more_at (b == 27) pasting b xs ys n e

first_within_at : (t p : Bool) (b : ℕ) (xs : List ℕ) (n : ℕ)
    → cond t (cond p (pasted_escape_size xs) (escape_size xs)) (character_size b xs) ≡ Some n
    → (0 < n) × (n ≤ length xs + 1)
first_within_at true true b xs n e = pasted_within xs n e
first_within_at true false b xs n e = escape_within xs n e
first_within_at false p b xs n e = character_within b xs n e

pub first_within : (pasting : Bool) (xs : List ℕ) (n : ℕ) → first_size pasting xs ≡ Some n → (0 < n) × (n ≤ length xs)
first_within pasting [] n e = absurd (cc)
first_within pasting (b ∷ xs) n e =
    let h = first_within_at (b == 27) pasting b xs n e in (h.0, omega (arith, h.1))

pub first_some : (pasting : Bool) (xs : List ℕ) (r : Option ℕ) → r ≡ first_size pasting xs → IfSome r (λ n. 0 < n)
first_some pasting xs None e = tt
first_some pasting xs (Some n) e = (first_within pasting xs n (sym e)).0

pub first_inside : (pasting : Bool) (xs : List ℕ) (r : Option ℕ) → r ≡ first_size pasting xs → IfSome r (λ n. n ≤ length xs)
first_inside pasting xs None e = tt
first_inside pasting xs (Some n) e = (first_within pasting xs n (sym e)).1
