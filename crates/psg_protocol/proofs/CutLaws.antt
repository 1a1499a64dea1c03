-- The frames do not depend on how the bytes are cut.
use Rattle.std.proofs.Common.{◌≡◌, ℕ, ◌+◌, ◌-◌, ◌≤◌, Bool, true, false, cond, List, [], ◌∷◌, ◌++◌, length, take, drop, refl, inl, inr, sym, ap, subst, ◌∙◌, arith, None, append_assoc, append-nil, length-append, length-drop}
use Rattle.std.specs.Prelude.{nat_lt}
use Rattle.std.proofs.lemmas.Bool.{cases_lt, false≢true}
use Rattle.std.proofs.lemmas.Bool.Decides.{nat_tests}
use Rattle.std.proofs.lemmas.List.{drop-append-le, drop_all, take-append-le}
use Rattle.std.proofs.Math.Seq.{drop-append-add}
use Rattle.psg_protocol.specs.declared.headers.Head.{Head}
use Rattle.psg_protocol.specs.declared.headers.Head.TheVariants as heads
use Rattle.psg_protocol.specs.Headers.{head_after, head_of}
use Rattle.psg_protocol.specs.Frames.{Event, body, long, lost, nothing, found, Rest, Goes, HasReadAll, HasReadBy, Reads, at_first, first_by, first_of_all, joined}
use Rattle.psg_protocol.proofs.HeadLaws.{IsKnown, head_more}

-- ---- what some bytes begin with

pub first_nil : first_of_all [] ≡ nothing
unfolding head_after
first_nil = refl

whole_more : (a b : Bool) (bytes more : List ℕ) (s n : ℕ) (e : Event) (size : ℕ)
    → (b ≡ false → s + n ≤ length bytes) → nat_lt (length bytes) (s + n) ≡ b
    → cond a (found (long n) (s + n)) (cond b nothing (found (body (take n (drop s bytes))) (s + n))) ≡ found e size
    → cond a (found (long n) (s + n)) (cond (nat_lt (length (bytes ++ more)) (s + n)) nothing (found (body (take n (drop s (bytes ++ more)))) (s + n)))
    ≡ found e size
whole_more true b bytes more s n e size within test h = h
whole_more false true bytes more s n e size within test h = absurd (cc)
whole_more false false bytes more s n e size within test h =
    let enough : s + n ≤ length bytes = within refl in
    let longer : nat_lt (length (bytes ++ more)) (s + n) ≡ false =
    (let le : s + n ≤ length (bytes ++ more) = omega (arith, enough, length-append bytes more) in grind (arith, nat_tests, le)) in
    let dropped : drop s (bytes ++ more) ≡ drop s bytes ++ more = drop-append-le s bytes more (omega (arith, enough)) in
    let fits : n ≤ length (drop s bytes) = omega (arith, enough, length-drop s bytes) in
    let taken : take n (drop s (bytes ++ more)) ≡ take n (drop s bytes) = ap (take n) dropped ∙ take-append-le n (drop s bytes) more fits in
    ap (λ t. cond t nothing (found (body (take n (drop s (bytes ++ more)))) (s + n))) longer
    ∙ ap (λ t. found (body t) (s + n)) taken ∙ h

not_short : (b : Bool) (m n : ℕ) → nat_lt m n ≡ b → b ≡ false → n ≤ m
not_short b m n test none = let f : nat_lt m n ≡ false = test ∙ none in grind (arith, nat_tests, f)

first_more_by : (bytes more : List ℕ) (h : Head) (e : Event) (size : ℕ) → first_by bytes h ≡ found e size
    → first_by (bytes ++ more) h ≡ found e size
first_more_by bytes more heads.Waits e size is = absurd (cc)
first_more_by bytes more heads.Lost e size is = is
first_more_by bytes more (heads.Whole s n) e size is =
    whole_more (nat_lt 16_777_216 n) (nat_lt (length bytes) (s + n)) bytes more s n e size
    (not_short (nat_lt (length bytes) (s + n)) (length bytes) (s + n) refl) refl is

known_by : (bytes : List ℕ) (h : Head) (e : Event) (size : ℕ) → first_by bytes h ≡ found e size → IsKnown h
known_by bytes heads.Waits e size is = absurd (cc)
known_by bytes heads.Lost e size is = tt
known_by bytes (heads.Whole s n) e size is = tt

pub first_more : (bytes more : List ℕ) (e : Event) (size : ℕ) → first_of_all bytes ≡ found e size → first_of_all (bytes ++ more) ≡ found e size
first_more bytes more e size is =
    ap (first_by (bytes ++ more)) (head_more 64 None 0 bytes more (known_by bytes (head_of bytes) e size is))
    ∙ first_more_by bytes more (head_of bytes) e size is

-- ---- a text

rest_same : (rest : Rest) (p q : ℕ) (xs ys : List ℕ) → rest ≡ record { passing = p; bytes = xs; stopped = false } → p ≡ q → xs ≡ ys
    → rest ≡ record { passing = q; bytes = ys; stopped = false }
rest_same rest p q xs ys is n d =
    let f : ℕ → List ℕ → Rest = λ a b. record { passing = a; bytes = b; stopped = false } in
    is ∙ ap (λ a. f a xs) n ∙ ap (f q) d

pub reads_same : (p q : ℕ) (t u : List ℕ) (es : List Event) (last : Rest) → drop p t ≡ drop q u → p - length t ≡ q - length u
    → Reads p t es last → Reads q u es last
reads_same p q t u [] last d n (none, is) = (ap first_of_all (sym d) ∙ none, rest_same last _ _ _ _ is n d)
reads_same p q t u (e ∷ es) last d n (size, first, goes) = (
  size,
  ap first_of_all (sym d) ∙ first,
  let P : List ℕ → Type 0 = λ x. Goes e es last (Reads size x es last) in subst P d goes,
)

-- what comes after bytes that are passed over
passed : (p : ℕ) (t more : List ℕ) → (drop (p - length t) (drop p t ++ more) ≡ drop p (t ++ more)) × ((p - length t) - length (drop p t ++ more) ≡ p - length (t ++ more))
passed p t more =
    elim (cases_lt (length t) p) [
      | inl past ↦
          let none : drop p t ≡ [] = drop_all p t (omega (arith, past)) in
          let split : p ≡ length t + (p - length t) = omega (arith, past) in
          let over : drop p (t ++ more) ≡ drop (p - length t) more =
          ap (λ k. drop k (t ++ more)) split ∙ drop-append-add t more (p - length t) in (
            ap (λ x. drop (p - length t) (x ++ more)) none ∙ sym over,
            ap (λ x. (p - length t) - length (x ++ more)) none
                ∙ (let long : length (t ++ more) ≡ length t + length more = length-append t more in omega (arith, long, past)),
          )
      | inr inside ↦
          let zero_is : p - length t ≡ 0 = omega (arith, inside) in
          let long : length (t ++ more) ≡ length t + length more = length-append t more in (
            ap (λ k. drop k (drop p t ++ more)) zero_is ∙ sym (drop-append-le p t more inside),
            (let a : p - length (t ++ more) ≡ 0 = omega (arith, long, inside) in omega (arith, zero_is, a)),
          )
    ]

inside_by : (p : ℕ) (t : List ℕ) (e : Event) (size : ℕ) → first_of_all (drop p t) ≡ found e size → p ≤ length t
inside_by p t e size first =
    elim (cases_lt (length t) p) [
      | inl past ↦
          absurd (let none : drop p t ≡ [] = drop_all p t (omega (arith, past)) in
          let bad : nothing ≡ found e size = sym first_nil ∙ ap first_of_all (sym none) ∙ first in cc)
      | inr inside ↦ inside
    ]

-- what is read goes on where more bytes come
pub reads_on : (p : ℕ) (t : List ℕ) (es : List Event) (mid : Rest) (more : List ℕ) (fs : List Event) (last : Rest)
    → Reads p t es mid → mid.stopped ≡ false → Reads mid.passing (mid.bytes ++ more) fs last → Reads p (t ++ more) (es ++ fs) last
reads_on p t [] mid more fs last (none, is) on next =
    let P : Rest → Type 0 = λ r. Reads r.passing (r.bytes ++ more) fs last in
    let same = passed p t more in
    reads_same (p - length t) p (drop p t ++ more) (t ++ more) fs last same.0 same.1 (subst P is next)
reads_on p t (e ∷ es) mid more fs last (size, first, goes) on next =
    let inside : p ≤ length t = inside_by p t e size first in
    let cut : drop p t ++ more ≡ drop p (t ++ more) = sym (drop-append-le p t more inside) in (
      size,
      ap first_of_all (sym cut) ∙ first_more (drop p t) more e size first,
      (let P : List ℕ → Type 0 = λ x. Goes e (es ++ fs) last (Reads size x (es ++ fs) last) in
          subst P cut
          (goes_on e es fs mid last on (Reads size (drop p t) es mid) (Reads size (drop p t ++ more) (es ++ fs) last)
          (λ reads. reads_on size (drop p t) es mid more fs last reads on next) goes)),
    )
  where
    goes_on : (e : Event) (es fs : List Event) (mid last : Rest) → mid.stopped ≡ false → (A B : Type 0) → (A → B) → Goes e es mid A → Goes e (es ++ fs) last B
    goes_on (body bytes) es fs mid last on A B f goes = f goes
    goes_on (long n) es fs mid last on A B f goes = f goes
    goes_on lost es fs mid last on A B f (none, is) = absurd (false≢true (sym on ∙ ap (λ (r : Rest). r.stopped) is))

-- and stays where nothing can be followed any more
pub reads_stopped : (p : ℕ) (t : List ℕ) (es : List Event) (last : Rest) (more : List ℕ) → Reads p t es last → last.stopped ≡ true
    → Reads p (t ++ more) es last
reads_stopped p t [] last more (none, is) off = absurd (false≢true (sym (ap (λ (r : Rest). r.stopped) is) ∙ off))
reads_stopped p t (e ∷ es) last more (size, first, goes) off =
    let inside : p ≤ length t = inside_by p t e size first in
    let cut : drop p t ++ more ≡ drop p (t ++ more) = sym (drop-append-le p t more inside) in (
      size,
      ap first_of_all (sym cut) ∙ first_more (drop p t) more e size first,
      (let P : List ℕ → Type 0 = λ x. Goes e es last (Reads size x es last) in
          subst P cut
          (stays e es last (Reads size (drop p t) es last) (Reads size (drop p t ++ more) es last)
          (λ reads. reads_stopped size (drop p t) es last more reads off) goes)),
    )
  where
    stays : (e : Event) (es : List Event) (last : Rest) (A B : Type 0) → (A → B) → Goes e es last A → Goes e es last B
    stays (body bytes) es last A B f goes = f goes
    stays (long n) es last A B f goes = f goes
    stays lost es last A B f goes = goes

-- the rest begins with nothing that is known
pub reads_rest : (p : ℕ) (t : List ℕ) (es : List Event) (last : Rest) → Reads p t es last → last.stopped ≡ false
    → Reads last.passing last.bytes [] last
reads_rest p t [] last (none, is) on =
    let P : Rest → Type 0 = λ r. Reads r.passing r.bytes [] r in
    subst P (sym is) (settled p t none)
  where
    settled : (p : ℕ) (t : List ℕ) → first_of_all (drop p t) ≡ nothing
        → Reads (p - length t) (drop p t) [] (record { passing = p - length t; bytes = drop p t; stopped = false })
    settled p t none =
        let same = passed p t [] in
        let whole : drop (p - length t) (drop p t) ≡ drop p t =
        ap (drop (p - length t)) (sym (append-nil (drop p t))) ∙ same.0 ∙ ap (drop p) (append-nil t) in
        let few : (p - length t) - length (drop p t) ≡ p - length t =
        ap (λ x. (p - length t) - length x) (sym (append-nil (drop p t))) ∙ same.1 ∙ ap (λ x. p - length x) (append-nil t) in
        (ap first_of_all whole ∙ none, rest_same _ _ _ _ _ refl (sym few) (sym whole))
reads_rest p t (e ∷ es) last (size, first, goes) on =
    rests e es last on (Reads size (drop p t) es last) goes (λ reads. reads_rest size (drop p t) es last reads on)
  where
    rests : (e : Event) (es : List Event) (last : Rest) → last.stopped ≡ false → (A : Type 0) → Goes e es last A
        → (A → Reads last.passing last.bytes [] last) → Reads last.passing last.bytes [] last
    rests (body bytes) es last on A goes f = f goes
    rests (long n) es last on A goes f = f goes
    rests lost es last on A (none, is) f = absurd (false≢true (sym on ∙ ap (λ (r : Rest). r.stopped) is))

-- ---- one reading

pub record IsSame (es fs : List Event) (r q : Rest) : Type 0 where
  pub events : es ≡ fs
  pub rest : r ≡ q

found_event : (e f : Event) (m n : ℕ) → found e m ≡ found f n → e ≡ f
found_event e f m n is = cc

pub found_size : (e f : Event) (m n : ℕ) → found e m ≡ found f n → m ≡ n
found_size e f m n is = cc

pub reads_one : (p : ℕ) (t : List ℕ) (es fs : List Event) (r q : Rest) → Reads p t es r → Reads p t fs q → IsSame es fs r q
reads_one p t [] [] r q (none, is) (none_2, is_2) = record { events = refl; rest = is ∙ sym is_2 }
reads_one p t [] (f ∷ fs) r q (none, is) (size, first, goes) =
    absurd (let bad : nothing ≡ found f size = sym none ∙ first in cc)
reads_one p t (e ∷ es) [] r q (size, first, goes) (none, is) =
    absurd (let bad : nothing ≡ found e size = sym none ∙ first in cc)
reads_one p t (e ∷ es) (f ∷ fs) r q (size, first, goes) (size_2, first_2, goes_2) =
    let same : found e size ≡ found f size_2 = sym first ∙ first_2 in
    let event : f ≡ e = sym (found_event e f size size_2 same) in
    let step : size_2 ≡ size = sym (found_size e f size size_2 same) in
    let P : Event → Type 0 = λ g. Goes g fs q (Reads size_2 (drop p t) fs q) in
    let Q : ℕ → Type 0 = λ n. Goes e fs q (Reads n (drop p t) fs q) in
    let more : IsSame es fs r q =
    both e es fs r q (Reads size (drop p t) es r) (Reads size (drop p t) fs q)
    (λ one two. reads_one size (drop p t) es fs r q one two) goes (subst Q step (subst P event goes_2)) in
    record { events = ap (λ g. g ∷ es) (sym event) ∙ ap (λ gs. f ∷ gs) more.events; rest = more.rest }
  where
    both : (e : Event) (es fs : List Event) (r q : Rest) (A B : Type 0) → (A → B → IsSame es fs r q) → Goes e es r A → Goes e fs q B
        → IsSame es fs r q
    both (body bytes) es fs r q A B f one two = f one two
    both (long n) es fs r q A B f one two = f one two
    both lost es fs r q A B f (none, is) (none_2, is_2) = record { events = none ∙ sym none_2; rest = is ∙ sym is_2 }

-- ---- pieces

stopped_all : (old : Rest) (pieces : List (List ℕ)) (es : List Event) (new : Rest) → old.stopped ≡ true → HasReadAll old pieces es new
    → IsSame [] es old new
stopped_all old [] es new off (none, is) = record { events = sym none; rest = sym is }
stopped_all old (piece ∷ pieces) es new off (some, between, more, read, split, reads) =
    let P : Bool → Type 0 = λ b. HasReadBy b old piece some between in
    let here = subst P off read in
    let off_2 : between.stopped ≡ true = ap (λ (r : Rest). r.stopped) here.1 ∙ off in
    let rest = stopped_all between pieces more new off_2 reads in
    record {
      events = rest.events ∙ ap (λ xs. xs ++ more) (sym here.0) ∙ sym split;
      rest = sym here.1 ∙ rest.rest;
    }

-- the pieces after one, by whether something can still be followed
go_on : (b : Bool) (p : ℕ) (t : List ℕ) (some : List Event) (between : Rest) (pieces : List (List ℕ)) (more : List Event) (new : Rest)
    → between.stopped ≡ b → Reads p t some between → HasReadAll between pieces more new
    → (b ≡ false → Reads between.passing (between.bytes ++ joined pieces) more new) → Reads p (t ++ joined pieces) (some ++ more) new
go_on true p t some between pieces more new off here reads next =
    let same = stopped_all between pieces more new off reads in
    let P : List Event → Type 0 = λ xs. Reads p (t ++ joined pieces) xs between in
    let Q : Rest → Type 0 = λ r. Reads p (t ++ joined pieces) (some ++ more) r in
    subst Q same.rest
    (subst P (sym (append-nil some) ∙ ap (λ xs. some ++ xs) same.events) (reads_stopped p t some between (joined pieces) here off))
go_on false p t some between pieces more new on here reads next =
    reads_on p t some between (joined pieces) more new here on (next refl)

read_all : (old : Rest) (pieces : List (List ℕ)) (es : List Event) (new : Rest) → old.stopped ≡ false → Reads old.passing old.bytes [] old
    → HasReadAll old pieces es new → Reads old.passing (old.bytes ++ joined pieces) es new
read_all old [] es new on settled (none, is) =
    let P : List ℕ → Type 0 = λ t. Reads old.passing t es new in
    let Q : List Event → Type 0 = λ xs. Reads old.passing old.bytes xs new in
    let R : Rest → Type 0 = λ r. Reads old.passing old.bytes [] r in
    subst P (sym (append-nil old.bytes)) (subst Q (sym none) (subst R (sym is) settled))
read_all old (piece ∷ pieces) es new on settled (some, between, more, read, split, reads) =
    let P : Bool → Type 0 = λ b. HasReadBy b old piece some between in
    let here : Reads old.passing (old.bytes ++ piece) some between = subst P on read in
    let Q : List Event → Type 0 = λ xs. Reads old.passing (old.bytes ++ (piece ++ joined pieces)) xs new in
    let R : List ℕ → Type 0 = λ t. Reads old.passing t (some ++ more) new in
    subst Q (sym split)
    (subst R (append_assoc old.bytes piece (joined pieces))
    (go_on between.stopped old.passing (old.bytes ++ piece) some between pieces more new refl here reads
    (λ on_2. read_all between pieces more new on_2 (reads_rest old.passing (old.bytes ++ piece) some between here on_2) reads)))

-- other cuts give the same
pub same_cuts : (pieces others : List (List ℕ)) (es fs : List Event) (new last : Rest) → joined pieces ≡ joined others
    → HasReadAll at_first pieces es new → HasReadAll at_first others fs last → IsSame es fs new last
same_cuts pieces others es fs new last same one two =
    let P : List ℕ → Type 0 = λ t. Reads 0 t es new in
    reads_one 0 (joined others) es fs new last
    (subst P same (read_all at_first pieces es new refl (first_nil, refl) one)) (read_all at_first others fs last refl (first_nil, refl) two)

-- and pieces have the frames of all their bytes
pub pieces_are : (pieces : List (List ℕ)) (es : List Event) (new : Rest) → HasReadAll at_first pieces es new → Reads 0 (joined pieces) es new
pieces_are pieces es new one = read_all at_first pieces es new refl (first_nil, refl) one
