-- A header is within the bytes that it begins, and its length is small.
use Rattle.std.proofs.Common.{◌≡◌, ℕ, zero, suc, ◌+◌, ◌-◌, ◌<◌, ◌≤◌, Bool, true, false, cond, List, [], ◌∷◌, length, take, drop, refl, sym, ap, subst, ◌∙◌, arith, Option, Some, None, length-drop}
use Rattle.std.specs.Prelude.{◌==◌, position}
use Rattle.psg_protocol.specs.declared.headers.Head.{Head}
use Rattle.psg_protocol.specs.declared.headers.Head.TheVariants as heads
use Rattle.psg_protocol.specs.Headers.{IsWithin, ended, feed_of, head_after, head_by, head_of, is_length_name, length_after, length_at, line_at, trimmed}
use Rattle.psg_protocol.specs.Frames.{Event, lost, first_by, first_of_all, found, is_lost, nothing}
use Rattle.psg_protocol.proofs.CutLaws.{first_nil}
use Rattle.psg_protocol.proofs.HeadLaws.{feed_inside}
use Rattle.psg_protocol.proofs.TextLaws.{IsSmall, number_small}

line_by : (b : Bool) (old new : Option ℕ) → IsSmall old → IsSmall new → IsSmall (cond b new old)
line_by true old new small small_2 = small_2
line_by false old new small small_2 = small

line_small : (old : Option ℕ) (line : List ℕ) (colon : Option ℕ) → IsSmall old → IsSmall (length_at old line colon)
line_small old line None small = small
line_small old line (Some colon) small =
    line_by (is_length_name (take colon line)) old _ small (number_small (trimmed (drop (colon + 1) line)))

ended_within : (said : Option ℕ) (size most : ℕ) → IsSmall said → 0 < size → size ≤ most → IsWithin most (ended said size)
ended_within None size most small some few = tt
ended_within (Some n) size most small some few = (some, few, small)

short_by : (b : Bool) (most : ℕ) → IsWithin most (cond b heads.Waits heads.Lost)
short_by true most = tt
short_by false most = tt

more_within : (h : Head) (few most : ℕ) → few ≡ most → IsWithin few h → IsWithin most h
more_within h few most e within = let P : ℕ → Type 0 = λ n. IsWithin n h in subst P e within

either : (b : Bool) (most : ℕ) (one two : Head) → IsWithin most one → IsWithin most two → IsWithin most (cond b one two)
either true most one two within within_2 = within
either false most one two within within_2 = within_2

within_by : (lines : ℕ) (f : Option ℕ) (s : ℕ) (b : List ℕ) → IsSmall f
    → ((f : Option ℕ) (s : ℕ) (b : List ℕ) → IsSmall f → IsWithin (s + length b) (head_after lines f s b))
    → (feed : Option ℕ) → feed_of b ≡ feed
    → IsWithin (s + length b) (head_by b f s feed (λ k. head_after lines (length_after f (line_at b k)) (s + k + 1) (drop (k + 1) b)))
within_by lines f s b small smaller None e = short_by _ (s + length b)
within_by lines f s b small smaller (Some k) e =
    let inside : k < length b = feed_inside b k e in
    let left : length (drop (k + 1) b) ≡ length b - (k + 1) = length-drop (k + 1) b in
    let sum : s + k + 1 + length (drop (k + 1) b) ≡ s + length b = omega (arith, inside, left) in
    let size : s + k + 1 ≤ s + length b = omega (arith, inside) in
    let some : 0 < s + k + 1 = omega arith in
    let next : Head = head_after lines (length_after f (line_at b k)) (s + k + 1) (drop (k + 1) b) in
    let rest : IsWithin (s + k + 1 + length (drop (k + 1) b)) (head_after lines (length_after f (line_at b k)) (s + k + 1) (drop (k + 1) b)) =
    smaller (length_after f (line_at b k)) (s + k + 1) (drop (k + 1) b)
    (line_small f (line_at b k) (position (λ b. b == 58) (line_at b k)) small) in
    either (length (line_at b k) == 0) (s + length b) (ended f (s + k + 1)) next (ended_within f (s + k + 1) (s + length b) small some size)
    (more_within next (s + k + 1 + length (drop (k + 1) b)) (s + length b) sum rest)

within_after : (lines : ℕ) (f : Option ℕ) (s : ℕ) (b : List ℕ) → IsSmall f → IsWithin (s + length b) (head_after lines f s b)
unfolding head_after
within_after zero f s b small = tt
within_after (suc lines) f s b small = within_by lines f s b small (λ f s b small. within_after lines f s b small) (feed_of b) refl

pub within : (b : List ℕ) → IsWithin (length b) (head_of b)
within b = let e : 0 + length b ≡ length b = omega arith in more_within (head_of b) (0 + length b) (length b) e (within_after 64 None 0 b tt)

-- a frame takes a byte at least
takes_by : (bytes : List ℕ) (h : Head) (most : ℕ) (e : Event) (size : ℕ) → IsWithin most h → first_by bytes h ≡ found e size
    → is_lost e ≡ false → 0 < size
takes_by bytes heads.Waits most e size within is goes = absurd (cc)
takes_by bytes heads.Lost most e size within is goes = absurd (let event : lost ≡ e = cc in let bad : true ≡ false = ap is_lost event ∙ goes in cc)
takes_by bytes (heads.Whole s n) most e size within is goes = takes_whole _ _ _ _ s n e size within.0 is
  where
    takes_whole : (a b : Bool) (one two : Event) (s n : ℕ) (e : Event) (size : ℕ) → 0 < s
        → cond a (found one (s + n)) (cond b nothing (found two (s + n))) ≡ found e size → 0 < size
    takes_whole true b one two s n e size some is = let same : s + n ≡ size = cc in omega (arith, same, some)
    takes_whole false true one two s n e size some is = absurd (cc)
    takes_whole false false one two s n e size some is = let same : s + n ≡ size = cc in omega (arith, same, some)

pub takes : (bytes : List ℕ) (e : Event) (size : ℕ) → first_of_all bytes ≡ found e size → is_lost e ≡ false → 0 < size
takes bytes e size is goes = takes_by bytes (head_of bytes) (length bytes) e size (within bytes) is goes

pub takes_some : (bytes : List ℕ) (e : Event) (size : ℕ) → first_of_all bytes ≡ found e size → 0 < length bytes
takes_some [] e size is = absurd (let bad : nothing ≡ found e size = sym first_nil ∙ is in cc)
takes_some (b ∷ bytes) e size is = omega arith
