-- What a header is, by its first line.
use Rattle.std.proofs.Common.{◌≡◌, ℕ, zero, suc, ◌+◌, ◌-◌, ◌<◌, ◌≤◌, Bool, true, false, cond, List, length, take, drop, refl, sym, ap, ◌∙◌, arith, Option, Some, None}
use Rattle.std.specs.Prelude.{◌==◌, nat_lt}
use Rattle.std.proofs.lemmas.Bool.Decides.{nat_tests}
use Rattle.psg_protocol.specs.declared.headers.Head.{Head}
use Rattle.psg_protocol.specs.declared.headers.Head.TheVariants as heads
use Rattle.psg_protocol.specs.Headers.{ended, feed_of, head_after, head_by, length_after, line_at, short_head, without_return}
use Rattle.psg_protocol.specs.Frames.{body, first_by, found, long, nothing}

head_suc : (lines : ℕ) (f : Option ℕ) (s : ℕ) (b : List ℕ) → 0 < lines
    → head_after lines f s b ≡ head_by b f s (feed_of b) (λ k. head_after (lines - 1) (length_after f (line_at b k)) (s + k + 1) (drop (k + 1) b))
unfolding head_after
head_suc zero f s b some = absurd (omega (arith, some))
head_suc (suc n) f s b some =
    let less : n ≡ suc n - 1 = omega arith in
    ap (λ m. head_by b f s (feed_of b) (λ k. head_after m (length_after f (line_at b k)) (s + k + 1) (drop (k + 1) b))) less

pub head_none : (lines : ℕ) (f : Option ℕ) (s : ℕ) (b : List ℕ) → 0 < lines → feed_of b ≡ None → head_after lines f s b ≡ short_head (length b)
head_none lines f s b some e =
    head_suc lines f s b some
    ∙ ap (λ o. head_by b f s o (λ k. head_after (lines - 1) (length_after f (line_at b k)) (s + k + 1) (drop (k + 1) b))) e

empty_by : (t : Bool) (x y : Head) → t ≡ true → cond t x y ≡ x
empty_by true x y e = refl
empty_by false x y e = absurd (cc)

other_by : (t : Bool) (x y : Head) → t ≡ false → cond t x y ≡ y
other_by true x y e = absurd (cc)
other_by false x y e = refl

pub head_end : (lines : ℕ) (f : Option ℕ) (s : ℕ) (b : List ℕ) (k : ℕ) → 0 < lines → feed_of b ≡ Some k
    → (length (without_return (take k b)) == 0) ≡ true → head_after lines f s b ≡ ended f (s + k + 1)
head_end lines f s b k some e empty =
    head_suc lines f s b some
    ∙ ap (λ o. head_by b f s o (λ k. head_after (lines - 1) (length_after f (line_at b k)) (s + k + 1) (drop (k + 1) b))) e
    ∙ empty_by _ _ _ empty

pub head_line : (lines : ℕ) (f : Option ℕ) (s : ℕ) (b : List ℕ) (k : ℕ) → 0 < lines → feed_of b ≡ Some k
    → (length (without_return (take k b)) == 0) ≡ false
    → head_after lines f s b ≡ head_after (lines - 1) (length_after f (without_return (take k b))) (s + k + 1) (drop (k + 1) b)
head_line lines f s b k some e other =
    head_suc lines f s b some
    ∙ ap (λ o. head_by b f s o (λ k. head_after (lines - 1) (length_after f (line_at b k)) (s + k + 1) (drop (k + 1) b))) e
    ∙ other_by _ _ _ other

zero_is : (f : Option ℕ) (s : ℕ) (b : List ℕ) → head_after zero f s b ≡ heads.Lost
unfolding head_after
zero_is f s b = refl

pub head_zero : (lines : ℕ) (f : Option ℕ) (s : ℕ) (b : List ℕ) → lines ≡ 0 → heads.Lost ≡ head_after lines f s b
head_zero lines f s b none = sym (ap (λ n. head_after n f s b) none ∙ zero_is f s b)

-- by what a walk finds of the first line
pub after_none : (lines : ℕ) (f : Option ℕ) (s : ℕ) (b : List ℕ) (feed : Option ℕ) (r : Head) → 0 < lines → feed ≡ feed_of b → feed ≡ None
    → r ≡ short_head (length b) → r ≡ head_after lines f s b
after_none lines f s b feed r some is none e = e ∙ sym (head_none lines f s b some (sym is ∙ none))

pub after_end : (lines : ℕ) (f : Option ℕ) (s : ℕ) (b : List ℕ) (feed : Option ℕ) (k : ℕ) (raw line : List ℕ) (r : Head) → 0 < lines
    → feed ≡ feed_of b → feed ≡ Some k → raw ≡ take k b → line ≡ without_return raw → (length line == 0) ≡ true → r ≡ ended f (s + k + 1)
    → r ≡ head_after lines f s b
after_end lines f s b feed k raw line r some is at cut said empty e =
    let whole : line ≡ without_return (take k b) = said ∙ ap without_return cut in
    e ∙ sym (head_end lines f s b k some (sym is ∙ at) (ap (λ l. length l == 0) (sym whole) ∙ empty))

pub after_line : (lines : ℕ) (f : Option ℕ) (s : ℕ) (b : List ℕ) (feed : Option ℕ) (k : ℕ) (raw line rest : List ℕ) (g : Option ℕ) (r : Head)
    → 0 < lines → feed ≡ feed_of b → feed ≡ Some k → raw ≡ take k b → line ≡ without_return raw → (length line == 0) ≡ false
    → g ≡ length_after f line → rest ≡ drop (k + 1) b → r ≡ head_after (lines - 1) g (s + k + 1) rest → r ≡ head_after lines f s b
after_line lines f s b feed k raw line rest g r some is at cut said other said_is more e =
    let whole : line ≡ without_return (take k b) = said ∙ ap without_return cut in
    e ∙ ap (λ x. head_after (lines - 1) g (s + k + 1) x) more
    ∙ ap (λ h. head_after (lines - 1) h (s + k + 1) (drop (k + 1) b)) (said_is ∙ ap (length_after f) whole)
    ∙ sym (head_line lines f s b k some (sym is ∙ at) (ap (λ l. length l == 0) (sym whole) ∙ other))

-- ---- a body

pub whole_long : (bytes : List ℕ) (s n : ℕ) → 16_777_216 < n → first_by bytes (heads.Whole s n) ≡ found (long n) (s + n)
whole_long bytes s n more = let t : nat_lt 16_777_216 n ≡ true = grind (arith, nat_tests, more) in rw t

pub whole_short : (bytes : List ℕ) (s n : ℕ) → n ≤ 16_777_216 → length bytes < s + n → first_by bytes (heads.Whole s n) ≡ nothing
whole_short bytes s n few short =
    let f : nat_lt 16_777_216 n ≡ false = grind (arith, nat_tests, few) in
    let t : nat_lt (length bytes) (s + n) ≡ true = grind (arith, nat_tests, short) in rw (f, t)

pub whole_there : (bytes : List ℕ) (s n : ℕ) → n ≤ 16_777_216 → s + n ≤ length bytes
    → first_by bytes (heads.Whole s n) ≡ found (body (take n (drop s bytes))) (s + n)
whole_there bytes s n few there =
    let f : nat_lt 16_777_216 n ≡ false = grind (arith, nat_tests, few) in
    let t : nat_lt (length bytes) (s + n) ≡ false = grind (arith, nat_tests, there) in rw (f, t)
