-- The bytes of the keys that are given and of what waits are those of what came.
use Rattle.std.proofs.Common.{◌≡◌, ℕ, suc, ◌+◌, ◌<◌, ◌≤◌, Bool, true, false, cond, not, List, [], ◌∷◌, ◌++◌, length, drop, get_or, refl, sym, ap, subst, ◌∙◌, arith, Some, None, append_assoc, append-nil, length-append}
use Rattle.std.specs.Prelude.{◌&&◌, ◌||◌, nat_le, slice_get}
use Rattle.std.proofs.lemmas.Bool.Decides.{nat_tests}
use Rattle.psg_keys.specs.Sizes.{first_size, begins_sequence}
use Rattle.psg_keys.specs.Names.{key_of, goes_on}
use Rattle.psg_keys.specs.declared.key.Key.{Key}
use Rattle.psg_keys.specs.Reading.{Spelled, Waiting, Reads, HasRead, Finds, text_of, is_late, is_continued, without_escape, is_escape, last_keys, spelled, no_keys, unread}
use Rattle.psg_keys.proofs.SizeLaws.{first_within}
use Rattle.psg_keys.proofs.CutLaws.{reads_bytes, escape_is}

-- where an escape was given before, what is kept begins with it
pub record IsWaiting (w : Waiting) : Type 0 where
  pub begins : w.late ≡ true → slice_get w.bytes 0 ≡ Some 27

spelled_append : (xs ys : List Spelled) → spelled (xs ++ ys) ≡ spelled xs ++ spelled ys
spelled_append [] ys = refl
spelled_append (x ∷ xs) ys =
    ap (λ r. x.bytes ++ r) (spelled_append xs ys) ∙ sym (append_assoc x.bytes (spelled xs) (spelled ys))

closing : (e : Bool) (rest : List ℕ) → (e ≡ true → rest ≡ 27 ∷ []) → spelled (last_keys e) ++ cond e (drop 1 rest) rest ≡ rest
closing true rest is = let h : rest ≡ 27 ∷ [] = is refl in ap (λ r. 27 ∷ drop 1 r) h ∙ sym h
closing false rest is = refl

closing_or : (e : Bool) (rest : List ℕ) → (e ≡ true → rest ≡ 27 ∷ [])
    → spelled (last_keys e) ++ cond (e || false) (drop 1 rest) rest ≡ rest
closing_or true rest is = closing true rest is
closing_or false rest is = closing false rest is

-- the first of the keys has a byte
abbrev pub FirstHasByte : List Spelled → Type 0
FirstHasByte [] = Unit {0}
FirstHasByte (s ∷ more) = 0 < length s.bytes

-- a text that begins with an escape and has more
pub record IsSequence (text : List ℕ) : Type 0 where
  pub tail : List ℕ
  pub whole : text ≡ 27 ∷ tail
  pub long : 0 < length tail

drop_first : (bytes rest : List ℕ) → 0 < length bytes → drop 1 (bytes ++ rest) ≡ drop 1 bytes ++ rest
drop_first [] rest some = absurd (omega (arith, some))
drop_first (b ∷ bytes) rest some = refl

pub told_bytes : (late e : Bool) (read : List Spelled) (rest text : List ℕ)
    → (e ≡ true → rest ≡ 27 ∷ []) → text ≡ spelled read ++ rest → (late ≡ true → IsSequence text) → FirstHasByte read
    → spelled (without_escape late read ++ last_keys e) ++ cond (e || (late && no_keys read)) (drop 1 rest) rest
    ≡ cond late (drop 1 text) text
told_bytes false e read rest text is whole sequence first =
    ap (λ r. r ++ cond (e || false) (drop 1 rest) rest) (spelled_append read (last_keys e))
    ∙ append_assoc (spelled read) (spelled (last_keys e)) (cond (e || false) (drop 1 rest) rest)
    ∙ ap (λ r. spelled read ++ r) (closing_or e rest is) ∙ sym whole
told_bytes true true [] rest text is whole sequence first =
    let s = sequence refl in
    let alone : 27 ∷ s.tail ≡ 27 ∷ [] = sym s.whole ∙ whole ∙ is refl in
    let none : s.tail ≡ [] = ap (drop 1) alone in
    absurd (let long : 0 < length s.tail = s.long in let zero_long : length s.tail ≡ 0 = ap length none in omega (arith, long, zero_long))
told_bytes true false [] rest text is whole sequence first = ap (drop 1) (sym whole)
told_bytes true e (s ∷ more) rest text is whole sequence first =
    ap (λ r. (drop 1 s.bytes ++ r) ++ cond (e || false) (drop 1 rest) rest) (spelled_append more (last_keys e))
    ∙ append_assoc (drop 1 s.bytes) (spelled more ++ spelled (last_keys e)) (cond (e || false) (drop 1 rest) rest)
    ∙ ap (λ r. drop 1 s.bytes ++ r)
    (append_assoc (spelled more) (spelled (last_keys e)) (cond (e || false) (drop 1 rest) rest)
    ∙ ap (λ r. spelled more ++ r) (closing_or e rest is))
    ∙ sym (drop_first s.bytes (spelled more ++ rest) first)
    ∙ ap (drop 1) (sym (append_assoc s.bytes (spelled more) rest))
    ∙ ap (drop 1) (sym whole)

-- ---- what came

first_of : (bytes : List ℕ) → slice_get bytes 0 ≡ Some 27 → (more : List ℕ) × (bytes ≡ 27 ∷ more)
first_of [] e = absurd (cc)
first_of (b ∷ bytes) e = (bytes, let same : b ≡ 27 = cc in ap (λ x. x ∷ bytes) same)

came_at : (late cont : Bool) (bytes piece : List ℕ) → (late ≡ true → slice_get bytes 0 ≡ Some 27) → (cont ≡ false → length bytes < 2)
    → cond (late && cont) (drop 1 (cond (late && not cont) piece (bytes ++ piece))) (cond (late && not cont) piece (bytes ++ piece))
    ≡ cond late (drop 1 bytes) bytes ++ piece
came_at false cont bytes piece begins short = refl
came_at true true bytes piece begins short =
    let first = first_of bytes (begins refl) in
    ap (λ b. drop 1 (b ++ piece)) first.1 ∙ ap (λ b. drop 1 b ++ piece) (sym first.1)
came_at true false bytes piece begins short =
    let first = first_of bytes (begins refl) in
    let few : length bytes < 2 = short refl in
    let none : first.0 ≡ [] = no_more first.0 (let e : length bytes ≡ suc (length first.0) = ap length first.1 in omega (arith, e, few)) in
    ap (λ m. m ++ piece) (sym none) ∙ ap (λ b. drop 1 b ++ piece) (sym first.1)
  where
    no_more : (xs : List ℕ) → length xs < 1 → xs ≡ []
    no_more [] h = refl
    no_more (x ∷ xs) h = absurd (omega (arith, h))

short_of : (a b : Bool) (n : ℕ) → a ≡ nat_le 2 n → (a || b) ≡ false → n < 2
short_of true b n is e = absurd (cc)
short_of false b n is e = grind (arith, nat_tests, is)

continued_long : (a b c : Bool) (n m : ℕ) → a ≡ nat_le 2 n → b ≡ nat_le 2 m → (a || (b && c)) ≡ true → (2 ≤ n + m)
continued_long true b c n m is is_2 e = let h : 2 ≤ n = grind (arith, nat_tests, is) in omega (arith, h)
continued_long false true c n m is is_2 e = let h : 2 ≤ m = grind (arith, nat_tests, is_2) in omega (arith, h)
continued_long false false c n m is is_2 e = absurd (cc)

late_parts : (late cont : Bool) → (late && cont) ≡ true → (late ≡ true) × (cont ≡ true)
late_parts true true e = (refl, refl)
late_parts true false e = absurd (cc)
late_parts false cont e = absurd (cc)

late_text : (late cont : Bool) (piece whole : List ℕ) → (late && cont) ≡ true → cond (late && not cont) piece whole ≡ whole
late_text true true piece whole e = refl
late_text true false piece whole e = absurd (cc)
late_text false cont piece whole e = absurd (cc)

late_sequence : (old : Waiting) (piece : List ℕ) → IsWaiting old → is_late old piece ≡ true → IsSequence (text_of old piece)
late_sequence old piece waiting late =
    let parts = late_parts old.late (is_continued old.bytes piece) late in
    let first = first_of old.bytes (waiting.begins parts.0) in
    let long : 2 ≤ length old.bytes + length piece =
    continued_long (nat_le 2 (length old.bytes)) (nat_le 2 (length piece)) (begins_sequence (get_or piece 0 0))
    (length old.bytes) (length piece) refl refl parts.1 in
    let count : length old.bytes ≡ suc (length first.0) = ap length first.1 in
    record {
      tail = first.0 ++ piece;
      whole = late_text old.late (is_continued old.bytes piece) piece (old.bytes ++ piece) late ∙ ap (λ b. b ++ piece) first.1;
      long = omega (arith, long, count, length-append first.0 piece);
    }

reads_first : (pasting : Bool) (text : List ℕ) (ss : List Spelled) (after : Bool) (rest : List ℕ) → Reads pasting text ss after rest → FirstHasByte ss
reads_first pasting text [] after rest reads = tt
reads_first pasting text (s ∷ ss) after rest (behind, cut, size, named, reads) = (first_within pasting text (length s.bytes) size).0

-- the clause on bytes
pub read_bytes : (old : Waiting) (piece : List ℕ) (given : List Spelled) (new : Waiting) → IsWaiting old → HasRead old piece given new
    → spelled given ++ unread new ≡ unread old ++ piece
read_bytes old piece given new waiting has =
    let e : Bool = is_escape new.pasting new.bytes in
    let late : Bool = is_late old piece in
    let text : List ℕ = text_of old piece in
    let is : e ≡ true → new.bytes ≡ 27 ∷ [] = λ h. (escape_is new.pasting new.bytes h).1 in
    let bytes : text ≡ spelled has.read ++ new.bytes = reads_bytes old.pasting text has.read new.pasting new.bytes has.keys in
    let told = told_bytes late e has.read new.bytes text is bytes (late_sequence old piece waiting)
    (reads_first old.pasting text has.read new.pasting new.bytes has.keys) in
    let came = came_at old.late (is_continued old.bytes piece) old.bytes piece waiting.begins
    (short_of (nat_le 2 (length old.bytes)) _ (length old.bytes) refl) in
    ap (λ g. spelled g ++ cond new.late (drop 1 new.bytes) new.bytes) has.told
    ∙ ap (λ l. spelled (without_escape late has.read ++ last_keys e) ++ cond l (drop 1 new.bytes) new.bytes) has.marked
    ∙ told ∙ came

late_or : (e late : Bool) (read : List Spelled) (text rest : List ℕ) → (e ≡ true → rest ≡ 27 ∷ []) → text ≡ spelled read ++ rest
    → (late ≡ true → IsSequence text) → (e || (late && no_keys read)) ≡ true → slice_get rest 0 ≡ Some 27
late_or true late read text rest is whole sequence h = ap (λ r. slice_get r 0) (is refl)
late_or false true [] text rest is whole sequence h = ap (λ r. slice_get r 0) (sym whole ∙ (sequence refl).whole)
late_or false true (s ∷ more) text rest is whole sequence h = absurd (cc)
late_or false false read text rest is whole sequence h = absurd (cc)

-- and what is kept after a piece
pub read_waits : (old : Waiting) (piece : List ℕ) (given : List Spelled) (new : Waiting) → IsWaiting old → HasRead old piece given new → IsWaiting new
read_waits old piece given new waiting has = record {
  begins = λ late.
      late_or (is_escape new.pasting new.bytes) (is_late old piece) has.read (text_of old piece) new.bytes
      (λ h. (escape_is new.pasting new.bytes h).1)
      (reads_bytes old.pasting (text_of old piece) has.read new.pasting new.bytes has.keys)
      (late_sequence old piece waiting) (sym has.marked ∙ late);
}

-- ---- the walk over a text

pub record IsReading (pasting late : Bool) (text : List ℕ) (strokes : List Spelled) (now still : Bool) (rest : List ℕ) : Type 0 where
  pub read : List Spelled
  pub told : strokes ≡ without_escape late read
  pub left : still ≡ (late && no_keys read)
  pub goes : (more : List Spelled) (after : Bool) (kept : List ℕ) → Reads now rest more after kept → Reads pasting text (read ++ more) after kept

told_start : (late : Bool) → [] ≡ without_escape late []
told_start true = refl
told_start false = refl

left_start : (late : Bool) → late ≡ (late && true)
left_start true = refl
left_start false = refl

pub reading_start : (pasting late : Bool) (text : List ℕ) (strokes : List Spelled) → strokes ≡ [] → IsReading pasting late text strokes pasting late text
reading_start pasting late text strokes none = record {
  read = [];
  told = none ∙ told_start late;
  left = left_start late;
  goes = λ more after kept reads. reads;
}

told_step : (late : Bool) (read : List Spelled) (s : Spelled)
    → without_escape late read ++ (record { key = s.key; bytes = drop (cond (late && no_keys read) 1 0) s.bytes }) ∷ []
    ≡ without_escape late (read ++ s ∷ [])
told_step false read s = refl
told_step true [] s = refl
told_step true (x ∷ xs) s = refl

left_step : (late : Bool) (read : List Spelled) (s : Spelled) → false ≡ (late && no_keys (read ++ s ∷ []))
left_step false read s = refl
left_step true [] s = refl
left_step true (x ∷ xs) s = refl

pub reading_step : (pasting late : Bool) (text : List ℕ) (strokes : List Spelled) (now still : Bool) (rest : List ℕ)
    → IsReading pasting late text strokes now still rest
    → (size : ℕ) → first_size now rest ≡ Some size
    → (bytes behind : List ℕ) → rest ≡ bytes ++ behind → length bytes ≡ size
    → (key : Key) → key ≡ key_of now bytes
    → (stroke : Spelled) → stroke.key ≡ key → stroke.bytes ≡ drop (cond still 1 0) bytes
    → (more : List Spelled) → more ≡ strokes ++ stroke ∷ []
    → (next : Bool) → next ≡ goes_on now key
    → IsReading pasting late text more next false behind
reading_step pasting late text strokes now still rest reading size found bytes behind cut long key named stroke same_key same_bytes more pushed next on =
    let s : Spelled = record { key = key; bytes = bytes } in
    let f : Key → List ℕ → Spelled = λ k b. record { key = k; bytes = b } in
    let same : stroke ≡ f key (drop (cond (late && no_keys reading.read) 1 0) bytes) =
    ap (λ k. f k stroke.bytes) same_key ∙ ap (f key) (same_bytes ∙ ap (λ b. drop (cond b 1 0) bytes) reading.left) in
    record {
      read = reading.read ++ s ∷ [];
      told = pushed ∙ ap (λ r. r ++ stroke ∷ []) reading.told ∙ ap (λ x. without_escape late reading.read ++ x ∷ []) same
          ∙ told_step late reading.read s;
      left = left_step late reading.read s;
      goes = λ later after kept reads.
          let P : Bool → Type 0 = λ b. Reads b behind later after kept in
          let Q : List Spelled → Type 0 = λ xs. Reads pasting text xs after kept in
          subst Q (sym (append_assoc reading.read (s ∷ []) later))
          (reading.goes (s ∷ later) after kept (behind, cut, found ∙ ap Some (sym long), named, subst P on reads));
    }

pub reading_ends : (pasting late : Bool) (text : List ℕ) (strokes : List Spelled) (now still : Bool) (rest kept : List ℕ)
    → IsReading pasting late text strokes now still rest → first_size now rest ≡ None → kept ≡ rest
    → Finds pasting late text strokes now still kept
reading_ends pasting late text strokes now still rest kept reading none same = record {
  read = reading.read;
  keys =
      let P : List Spelled → Type 0 = λ xs. Reads pasting text xs now kept in
      subst P (append-nil reading.read) (reading.goes [] now kept (none, refl, same));
  told = reading.told;
  left = reading.left;
}

-- what is read of a piece, by what is found in its text
pub read_next : (old : Waiting) (piece text : List ℕ) (again : Bool) (given : List Spelled) (pasting late : Bool) (kept : List ℕ)
    (all : List Spelled) (escape marked : Bool)
    → again ≡ is_late old piece → text ≡ text_of old piece → Finds old.pasting again text given pasting late kept
    → escape ≡ is_escape pasting kept → all ≡ given ++ last_keys escape → marked ≡ (escape || late)
    → HasRead old piece all (record { pasting = pasting; late = marked; bytes = kept })
read_next old piece text again given pasting late kept all escape marked is_again is_text finds is_esc is_all is_marked = record {
  read = finds.read;
  keys = let P : List ℕ → Type 0 = λ xs. Reads old.pasting xs finds.read pasting kept in subst P is_text finds.keys;
  told =
      is_all ∙ ap (λ e. given ++ last_keys e) is_esc ∙ ap (λ g. g ++ last_keys (is_escape pasting kept)) finds.told
      ∙ ap (λ a. without_escape a finds.read ++ last_keys (is_escape pasting kept)) is_again;
  marked =
      is_marked ∙ ap (λ e. e || late) is_esc ∙ ap (λ l. is_escape pasting kept || l) finds.left
      ∙ ap (λ a. is_escape pasting kept || (a && no_keys finds.read)) is_again;
}
