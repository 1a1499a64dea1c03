-- A header that is known stays as it is where more bytes come.
use Rattle.std.proofs.Common.{◌≡◌, ℕ, zero, suc, ◌+◌, ◌-◌, ◌<◌, ◌≤◌, Bool, true, false, cond, not, List, [], ◌∷◌, ◌++◌, length, take, drop, refl, inl, inr, sym, ap, subst, ◌∙◌, arith, Option, Some, None, length-append, length-take, take_all}
use Rattle.std.specs.Prelude.{◌==◌, nat_lt, position}
use Rattle.std.specs.List.{prefix_len}
use Rattle.std.proofs.lemmas.Bool.{cases_lt}
use Rattle.std.proofs.lemmas.Bool.Decides.{nat_tests}
use Rattle.std.proofs.lemmas.List.{drop-append-le, take-append-le}
use Rattle.std.proofs.Math.Seq.{take-append-add}
use Rattle.psg_protocol.specs.declared.headers.Head.{Head}
use Rattle.psg_protocol.specs.declared.headers.Head.TheVariants as heads
use Rattle.psg_protocol.specs.Headers.{ended, feed_of, head_after, head_by, length_after, line_at, without_return}

some_of_test : (b : Bool) (a k : ℕ) → cond b (Some a) None ≡ Some k → (b ≡ true) × (a ≡ k)
some_of_test true a k e = (refl, cc)
some_of_test false a k e = absurd (cc)

lt_of_test : (a b : ℕ) → nat_lt a b ≡ true → a < b
lt_of_test a b e = grind (arith, nat_tests, e)

pub test_of_lt : (a b : ℕ) → a < b → nat_lt a b ≡ true
test_of_lt a b h = grind (arith, nat_tests, h)

test_of_ge : (a b : ℕ) → b ≤ a → nat_lt a b ≡ false
test_of_ge a b h = grind (arith, nat_tests, h)

-- ---- the first line feed

prefix_more_at : (b : Bool) (n m len : ℕ) → (n < len → m ≡ n) → cond b (1 + n) 0 < suc len → cond b (1 + m) 0 ≡ cond b (1 + n) 0
prefix_more_at true n m len same below = ap (λ k. 1 + k) (same (omega (arith, below)))
prefix_more_at false n m len same below = refl

prefix_more : (q : ℕ → Bool) (xs ys : List ℕ) → prefix_len q xs < length xs → prefix_len q (xs ++ ys) ≡ prefix_len q xs
prefix_more q [] ys below = absurd (omega (arith, below))
prefix_more q (x ∷ xs) ys below =
    prefix_more_at (q x) (prefix_len q xs) (prefix_len q (xs ++ ys)) (length xs) (prefix_more q xs ys) below

position_inside : (p : ℕ → Bool) (xs : List ℕ) (k : ℕ) → position p xs ≡ Some k
    → (prefix_len (λ x. not (p x)) xs < length xs) × (prefix_len (λ x. not (p x)) xs ≡ k)
position_inside p xs k e =
    let parts = some_of_test _ (prefix_len (λ x. not (p x)) xs) k e in
    (lt_of_test _ _ parts.0, parts.1)

position_more : (p : ℕ → Bool) (xs ys : List ℕ) (k : ℕ) → position p xs ≡ Some k → position p (xs ++ ys) ≡ Some k
position_more p xs ys k e =
    let q : ℕ → Bool = λ x. not (p x) in
    let inside = position_inside p xs k e in
    let same : prefix_len q (xs ++ ys) ≡ prefix_len q xs = prefix_more q xs ys inside.0 in
    let long : prefix_len q (xs ++ ys) < length (xs ++ ys) = omega (arith, inside.0, same, length-append xs ys) in
    ap (λ b. cond b (Some (prefix_len q (xs ++ ys))) None) (test_of_lt _ _ long) ∙ ap Some (same ∙ inside.1)

pub feed_inside : (bytes : List ℕ) (k : ℕ) → feed_of bytes ≡ Some k → k < length bytes
feed_inside bytes k e =
    let inside = position_inside (λ b. b == 10) (take 4096 bytes) k e in
    omega (arith, inside.0, inside.1, length-take 4096 bytes)

feed_more : (bytes more : List ℕ) (k : ℕ) → feed_of bytes ≡ Some k → feed_of (bytes ++ more) ≡ Some k
feed_more bytes more k e =
    let p : ℕ → Bool = λ b. b == 10 in
    elim (cases_lt (length bytes) 4096) [
      | inl short ↦
          let all : take 4096 bytes ≡ bytes = take_all 4096 bytes (omega (arith, short)) in
          let here : position p bytes ≡ Some k = ap (position p) (sym all) ∙ e in
          let split : 4096 ≡ length bytes + (4096 - length bytes) = omega (arith, short) in
          let longer : take 4096 (bytes ++ more) ≡ bytes ++ take (4096 - length bytes) more =
          ap (λ n. take n (bytes ++ more)) split ∙ take-append-add bytes more (4096 - length bytes) in
          ap (position p) longer ∙ position_more p bytes (take (4096 - length bytes) more) k here
      | inr long ↦ ap (position p) (take-append-le 4096 bytes more long) ∙ e
    ]

feed_none : (bytes more : List ℕ) → 4096 ≤ length bytes → feed_of bytes ≡ None → feed_of (bytes ++ more) ≡ None
feed_none bytes more long e = ap (position (λ b. b == 10)) (take-append-le 4096 bytes more long) ∙ e

-- ---- a header

-- a header is known
abbrev pub IsKnown : Head → Type 0
IsKnown heads.Waits = ⊥
IsKnown heads.Lost = Unit {0}
IsKnown (heads.Whole size body) = Unit {0}

known_along : (a b : Head) → a ≡ b → IsKnown a → IsKnown b
known_along a b e known = let P : Head → Type 0 = λ h. IsKnown h in subst P e known

short_waits : (bytes : List ℕ) → IsKnown (cond (nat_lt (length bytes) 4096) heads.Waits heads.Lost) → 4096 ≤ length bytes
short_waits bytes known =
    elim (cases_lt (length bytes) 4096) [
      | inl short ↦ absurd (known_along _ heads.Waits (ap (λ b. cond b heads.Waits heads.Lost) (test_of_lt (length bytes) 4096 short)) known)
      | inr long ↦ long
    ]

step : (b : Bool) (whole more less : Head) → (IsKnown less → more ≡ less) → IsKnown (cond b whole less) → cond b whole more ≡ cond b whole less
step true whole more less same known = refl
step false whole more less same known = same known

-- by what the first line feed is
head_more_by : (lines : ℕ) (found : Option ℕ) (size : ℕ) (bytes more : List ℕ)
    → ((f : Option ℕ) (s : ℕ) (xs : List ℕ) → IsKnown (head_after lines f s xs)
    → head_after lines f s (xs ++ more) ≡ head_after lines f s xs)
    → (feed : Option ℕ) → feed_of bytes ≡ feed
    → IsKnown (head_by bytes found size feed (λ k. head_after lines (length_after found (line_at bytes k)) (size + k + 1) (drop (k + 1) bytes)))
    → head_by (bytes ++ more) found size (feed_of (bytes ++ more))
    (λ k. head_after lines (length_after found (line_at (bytes ++ more) k)) (size + k + 1) (drop (k + 1) (bytes ++ more)))
    ≡ head_by bytes found size feed (λ k. head_after lines (length_after found (line_at bytes k)) (size + k + 1) (drop (k + 1) bytes))
head_more_by lines found size bytes more smaller None e known =
    let long : 4096 ≤ length bytes = short_waits bytes known in
    let longer : 4096 ≤ length (bytes ++ more) = omega (arith, long, length-append bytes more) in
    ap (λ o. head_by (bytes ++ more) found size o
    (λ k. head_after lines (length_after found (line_at (bytes ++ more) k)) (size + k + 1) (drop (k + 1) (bytes ++ more))))
    (feed_none bytes more long e)
    ∙ ap (λ b. cond b heads.Waits heads.Lost) (test_of_ge _ 4096 longer)
    ∙ ap (λ b. cond b heads.Waits heads.Lost) (sym (test_of_ge _ 4096 long))
head_more_by lines found size bytes more smaller (Some k) e known =
    let inside : k < length bytes = feed_inside bytes k e in
    let line : take k (bytes ++ more) ≡ take k bytes = take-append-le k bytes more (omega (arith, inside)) in
    let rest : drop (k + 1) (bytes ++ more) ≡ drop (k + 1) bytes ++ more = drop-append-le (k + 1) bytes more (omega (arith, inside)) in
    ap (λ o. head_by (bytes ++ more) found size o
    (λ k. head_after lines (length_after found (line_at (bytes ++ more) k)) (size + k + 1) (drop (k + 1) (bytes ++ more))))
    (feed_more bytes more k e)
    ∙ ap (λ l. cond (length (without_return l) == 0) (ended found (size + k + 1))
    (head_after lines (length_after found (without_return l)) (size + k + 1) (drop (k + 1) (bytes ++ more)))) line
    ∙ ap (λ r. cond (length (line_at bytes k) == 0) (ended found (size + k + 1))
    (head_after lines (length_after found (line_at bytes k)) (size + k + 1) r)) rest
    ∙ step (length (line_at bytes k) == 0) (ended found (size + k + 1))
    (head_after lines (length_after found (line_at bytes k)) (size + k + 1) (drop (k + 1) bytes ++ more))
    (head_after lines (length_after found (line_at bytes k)) (size + k + 1) (drop (k + 1) bytes))
    (smaller (length_after found (line_at bytes k)) (size + k + 1) (drop (k + 1) bytes)) known

pub head_more : (lines : ℕ) (found : Option ℕ) (size : ℕ) (bytes more : List ℕ) → IsKnown (head_after lines found size bytes)
    → head_after lines found size (bytes ++ more) ≡ head_after lines found size bytes
unfolding head_after
head_more zero found size bytes more known = refl
head_more (suc lines) found size bytes more known =
    head_more_by lines found size bytes more (λ f s xs. head_more lines f s xs more) (feed_of bytes) refl known
