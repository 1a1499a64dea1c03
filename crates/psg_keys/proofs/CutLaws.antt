-- How keys are read does not depend on how the bytes are cut, where no piece ends in an escape.
use Rattle.std.proofs.Common.{◌≡◌, ℕ, suc, Bool, true, false, cond, not, List, [], ◌∷◌, ◌++◌, length, take, drop, get_or, refl, sym, ap, subst, ◌∙◌, arith, Some, None, append_assoc, append-nil}
use Rattle.std.specs.Prelude.{◌==◌, ◌&&◌, ◌||◌}
use Rattle.std.proofs.lemmas.Bool.Decides.{nat_tests}
use Rattle.std.proofs.Math.Seq.{take-append_seam, drop-append_seam}
use Rattle.psg_keys.specs.Sizes.{first_size}
use Rattle.psg_keys.specs.Names.{key_of, goes_on}
use Rattle.psg_keys.specs.declared.key.Key.{Key}
use Rattle.psg_keys.specs.Reading.{Spelled, Waiting, Reads, HasRead, HasReadAll, EndsInNoEscape, EndInNoEscape, text_of, is_late, is_continued, without_escape, is_escape, last_keys, spelled, no_keys, joined, at_first}
use Rattle.psg_keys.proofs.SizeLaws.{first_more}

-- ---- keys of a text

-- what is read goes on where more bytes come
pub reads_on : (pasting : Bool) (text : List ℕ) (ss : List Spelled) (mid : Bool) (rest more : List ℕ) (ts : List Spelled) (after : Bool) (left : List ℕ)
    → Reads pasting text ss mid rest → Reads mid (rest ++ more) ts after left
    → Reads pasting (text ++ more) (ss ++ ts) after left
reads_on pasting text [] mid rest more ts after left (none, same, whole) next =
    let P : Bool → Type 0 = λ b. Reads b (text ++ more) ts after left in
    let Q : List ℕ → Type 0 = λ r. Reads mid (r ++ more) ts after left in
    subst P same (subst Q whole next)
reads_on pasting text (s ∷ ss) mid rest more ts after left (behind, cut, size, named, reads) next = (
  behind ++ more,
  ap (λ r. r ++ more) cut ∙ append_assoc s.bytes behind more,
  first_more pasting text more (length s.bytes) size,
  named,
  reads_on (goes_on pasting s.key) behind ss mid rest more ts after left reads next,
)

-- the bytes of the keys and the rest are the text
pub reads_bytes : (pasting : Bool) (text : List ℕ) (ss : List Spelled) (after : Bool) (rest : List ℕ)
    → Reads pasting text ss after rest → text ≡ spelled ss ++ rest
reads_bytes pasting text [] after rest (none, same, whole) = sym whole
reads_bytes pasting text (s ∷ ss) after rest (behind, cut, size, named, reads) =
    cut ∙ ap (λ r. s.bytes ++ r) (reads_bytes (goes_on pasting s.key) behind ss after rest reads)
    ∙ sym (append_assoc s.bytes (spelled ss) rest)

-- the rest begins with no key that is known
pub reads_rest : (pasting : Bool) (text : List ℕ) (ss : List Spelled) (after : Bool) (rest : List ℕ)
    → Reads pasting text ss after rest → first_size after rest ≡ None
reads_rest pasting text [] after rest (none, same, whole) =
    ap (λ b. first_size b rest) same ∙ ap (first_size pasting) whole ∙ none
reads_rest pasting text (s ∷ ss) after rest (behind, cut, size, named, reads) =
    reads_rest (goes_on pasting s.key) behind ss after rest reads

same_fronts : (xs ys cs ds : List ℕ) → xs ++ cs ≡ ys ++ ds → length xs ≡ length ys → (xs ≡ ys) × (cs ≡ ds)
same_fronts xs ys cs ds e long = (
  sym (take-append_seam xs cs) ∙ ap (λ n. take n (xs ++ cs)) long ∙ ap (take (length ys)) e ∙ take-append_seam ys ds,
  sym (drop-append_seam xs cs) ∙ ap (λ n. drop n (xs ++ cs)) long ∙ ap (drop (length ys)) e ∙ drop-append_seam ys ds,
)

same_spelled : (s t : Spelled) → s.key ≡ t.key → s.bytes ≡ t.bytes → s ≡ t
same_spelled s t keys bytes =
    let f : Key → List ℕ → Spelled = λ k b. record { key = k; bytes = b } in
    ap (λ k. f k s.bytes) keys ∙ ap (f t.key) bytes

record IsSame (ss ts : List Spelled) (a b : Bool) (r q : List ℕ) : Type 0 where
  keys : ss ≡ ts
  after : a ≡ b
  rest : r ≡ q

-- a text has one reading
reads_one : (pasting : Bool) (text : List ℕ) (ss ts : List Spelled) (a b : Bool) (r q : List ℕ)
    → Reads pasting text ss a r → Reads pasting text ts b q → IsSame ss ts a b r q
reads_one pasting text [] [] a b r q (none, same, whole) (none_2, same_2, whole_2) =
    record { keys = refl; after = same ∙ sym same_2; rest = whole ∙ sym whole_2 }
reads_one pasting text [] (t ∷ ts) a b r q (none, same, whole) (behind, cut, size, named, reads) =
    absurd (let e : None ≡ Some (length t.bytes) = sym none ∙ size in cc)
reads_one pasting text (s ∷ ss) [] a b r q (behind, cut, size, named, reads) (none, same, whole) =
    absurd (let e : None ≡ Some (length s.bytes) = sym none ∙ size in cc)
reads_one pasting text (s ∷ ss) (t ∷ ts) a b r q (behind, cut, size, named, reads) (behind_2, cut_2, size_2, named_2, reads_2) =
    let long : length s.bytes ≡ length t.bytes = let e : Some (length s.bytes) ≡ Some (length t.bytes) = sym size ∙ size_2 in cc in
    let fronts = same_fronts s.bytes t.bytes behind behind_2 (sym cut ∙ cut_2) long in
    let key : s.key ≡ t.key = named ∙ ap (key_of pasting) fronts.0 ∙ sym named_2 in
    let one : s ≡ t = same_spelled s t key fronts.0 in
    let P : Bool → Type 0 = λ m. Reads m behind ts b q in
    let Q : List ℕ → Type 0 = λ xs. Reads (goes_on pasting t.key) xs ts b q in
    let moved : Reads (goes_on pasting s.key) behind ts b q =
    subst P (ap (goes_on pasting) (sym key)) (subst Q (sym fronts.1) reads_2) in
    let more = reads_one (goes_on pasting s.key) behind ss ts a b r q reads moved in
    record {
      keys = ap (λ x. x ∷ ss) one ∙ ap (λ xs. t ∷ xs) more.keys;
      after = more.after;
      rest = more.rest;
    }

-- ---- pieces

last_of : List ℕ → ℕ
last_of [] = 0
last_of (x ∷ []) = x
last_of (x ∷ y ∷ xs) = last_of (y ∷ xs)

last_of_push : (xs : List ℕ) (a : ℕ) → last_of (xs ++ a ∷ []) ≡ a
unfolding last_of
last_of_push [] a = refl
last_of_push (x ∷ []) a = refl
last_of_push (x ∷ y ∷ xs) a = last_of_push (y ∷ xs) a

-- a list is empty, or has a last element
data HasLast (xs : List ℕ) : Type 0 where
  Nothing : xs ≡ [] → HasLast xs
  Last : (front : List ℕ) (a : ℕ) → xs ≡ front ++ a ∷ [] → HasLast xs

has_last : (xs : List ℕ) → HasLast xs
has_last [] = Nothing refl
has_last (x ∷ xs) =
    elim (has_last xs) [
      | Nothing e ↦ Last [] x (ap (λ r. x ∷ r) e)
      | Last front a e ↦ Last (x ∷ front) a (ap (λ r. x ∷ r) e)
    ]

-- nothing that came was given before, and what is kept is no key that is known
pub record IsSettled (w : Waiting) : Type 0 where
  pub early : w.late ≡ false
  pub open_key : first_size w.pasting w.bytes ≡ None
  pub no_escape : is_escape w.pasting w.bytes ≡ false

one_byte : (xs : List ℕ) (b : ℕ) → (length xs == 1) ≡ true → (get_or xs 0 0 == b) ≡ true → xs ≡ b ∷ []
one_byte [] b one is = absurd (let e : ◌≡◌ {A = ℕ} 0 1 = grind (arith, nat_tests, one) in omega (arith, e))
one_byte (x ∷ []) b one is = let e : x ≡ b = grind (arith, nat_tests, is) in ap (λ c. c ∷ []) e
one_byte (x ∷ y ∷ xs) b one is =
    absurd (let e : suc (suc (length xs)) ≡ 1 = grind (arith, nat_tests, one) in omega (arith, e))

escape_parts : (p a b : Bool) → (not p && a && b) ≡ true → (p ≡ false) × (a ≡ true) × (b ≡ true)
escape_parts false true true e = (refl, refl, refl)
escape_parts false true false e = absurd (cc)
escape_parts false false b e = absurd (cc)
escape_parts true a b e = absurd (cc)

pub escape_is : (pasting : Bool) (rest : List ℕ) → is_escape pasting rest ≡ true → (pasting ≡ false) × (rest ≡ 27 ∷ [])
escape_is pasting rest e =
    let parts = escape_parts pasting (length rest == 1) (get_or rest 0 0 == 27) e in
    (parts.0, one_byte rest 27 parts.1 parts.2)

-- what is read of a piece, where nothing was given before
pub record HasReadOn (old : Waiting) (piece : List ℕ) (given : List Spelled) (new : Waiting) : Type 0 where
  pub keys : Reads old.pasting (old.bytes ++ piece) given new.pasting new.bytes
  pub settled : IsSettled new

is_true_or_false : (b : Bool) → (b ≡ true → ⊥) → b ≡ false
is_true_or_false true no_way = absurd (no_way refl)
is_true_or_false false no_way = refl

text_early : (old : Waiting) (piece : List ℕ) → old.late ≡ false → text_of old piece ≡ old.bytes ++ piece
text_early old piece early = ap (λ b. cond (b && not (is_continued old.bytes piece)) piece (old.bytes ++ piece)) early

late_early : (old : Waiting) (piece : List ℕ) → old.late ≡ false → is_late old piece ≡ false
late_early old piece early = ap (λ b. b && is_continued old.bytes piece) early

no_escape_read : (old : Waiting) (piece : List ℕ) (read : List Spelled) (new : Waiting) → IsSettled old → EndsInNoEscape piece
    → Reads old.pasting (old.bytes ++ piece) read new.pasting new.bytes → is_escape new.pasting new.bytes ≡ true → ⊥
no_escape_read old piece read new settled ends reads is =
    let rest = escape_is new.pasting new.bytes is in
    elim (has_last piece) [
      | Nothing e ↦
          let P : List ℕ → Type 0 = λ xs. Reads old.pasting xs read new.pasting new.bytes in
          let same : old.bytes ++ piece ≡ old.bytes = ap (λ r. old.bytes ++ r) e ∙ append-nil old.bytes in
          let alone : Reads old.pasting old.bytes [] old.pasting old.bytes = (settled.open_key, refl, refl) in
          let one = reads_one old.pasting old.bytes read [] new.pasting old.pasting new.bytes old.bytes (subst P same reads) alone in
          let back : is_escape new.pasting new.bytes ≡ is_escape old.pasting old.bytes =
          ap (λ b. is_escape b new.bytes) one.after ∙ ap (is_escape old.pasting) one.rest in
          let e : true ≡ false = sym is ∙ back ∙ settled.no_escape in cc
      | Last front a e ↦
          let whole : (old.bytes ++ front) ++ a ∷ [] ≡ spelled read ++ 27 ∷ [] =
          append_assoc old.bytes front (a ∷ []) ∙ ap (λ r. old.bytes ++ r) (sym e)
          ∙ reads_bytes old.pasting (old.bytes ++ piece) read new.pasting new.bytes reads
          ∙ ap (λ r. spelled read ++ r) rest.1 in
          let same : a ≡ 27 = sym (last_of_push (old.bytes ++ front) a) ∙ ap last_of whole ∙ last_of_push (spelled read) 27 in
          ends front (e ∙ ap (λ b. front ++ b ∷ []) same)
    ]

pub read_on : (old : Waiting) (piece : List ℕ) (given : List Spelled) (new : Waiting) → IsSettled old → EndsInNoEscape piece
    → HasRead old piece given new → HasReadOn old piece given new
read_on old piece given new settled ends has =
    let P : List ℕ → Type 0 = λ xs. Reads old.pasting xs has.read new.pasting new.bytes in
    let reads : Reads old.pasting (old.bytes ++ piece) has.read new.pasting new.bytes =
    subst P (text_early old piece settled.early) has.keys in
    let none : is_escape new.pasting new.bytes ≡ false =
    is_true_or_false _ (no_escape_read old piece has.read new settled ends reads) in
    let late : is_late old piece ≡ false = late_early old piece settled.early in
    let same : given ≡ has.read =
    has.told ∙ ap (λ b. without_escape b has.read ++ last_keys (is_escape new.pasting new.bytes)) late
    ∙ ap (λ b. has.read ++ last_keys b) none ∙ append-nil has.read in
    let marked : new.late ≡ false =
    has.marked ∙ ap (λ b. b || (is_late old piece && no_keys has.read)) none
    ∙ ap (λ b. b && no_keys has.read) late in
    let Q : List Spelled → Type 0 = λ xs. Reads old.pasting (old.bytes ++ piece) xs new.pasting new.bytes in
    record {
      keys = subst Q (sym same) reads;
      settled = record {
        early = marked;
        open_key = reads_rest old.pasting (old.bytes ++ piece) has.read new.pasting new.bytes reads;
        no_escape = none;
      };
    }

record AllRead (old : Waiting) (pieces : List (List ℕ)) (given : List Spelled) (new : Waiting) : Type 0 where
  keys : Reads old.pasting (old.bytes ++ joined pieces) given new.pasting new.bytes
  pub settled : IsSettled new

all_read : (old : Waiting) (pieces : List (List ℕ)) (given : List Spelled) (new : Waiting) → IsSettled old → EndInNoEscape pieces
    → HasReadAll old pieces given new → AllRead old pieces given new
all_read old [] given new settled ends (none, same) =
    let alone : Reads old.pasting (old.bytes ++ []) [] old.pasting old.bytes =
    (ap (first_size old.pasting) (append-nil old.bytes) ∙ settled.open_key, refl, sym (append-nil old.bytes)) in
    let P : List Spelled → Waiting → Type 0 = λ ss w. AllRead old [] ss w in
    subst (λ ss. P ss new) (sym none) (subst (λ w. P [] w) (sym same) (record { keys = alone; settled = settled }))
all_read old (piece ∷ pieces) given new settled ends (first, between, more, has, split, rest) =
    let one = read_on old piece first between settled ends.0 has in
    let others = all_read between pieces more new one.settled ends.1 rest in
    let whole : Reads old.pasting ((old.bytes ++ piece) ++ joined pieces) (first ++ more) new.pasting new.bytes =
    reads_on old.pasting (old.bytes ++ piece) first between.pasting between.bytes (joined pieces) more new.pasting new.bytes one.keys others.keys in
    let P : List ℕ → Type 0 = λ xs. Reads old.pasting xs (first ++ more) new.pasting new.bytes in
    let Q : List Spelled → Type 0 = λ ss. Reads old.pasting (old.bytes ++ joined (piece ∷ pieces)) ss new.pasting new.bytes in
    record {
      keys = subst Q (sym split) (subst P (append_assoc old.bytes piece (joined pieces)) whole);
      settled = others.settled;
    }

at_first_settled : IsSettled at_first
at_first_settled = record { early = refl; open_key = refl; no_escape = refl }

same_waiting : (v w : Waiting) → v.pasting ≡ w.pasting → v.late ≡ w.late → v.bytes ≡ w.bytes → v ≡ w
same_waiting v w pasting late bytes =
    let f : Bool → Bool → List ℕ → Waiting = λ p l b. record { pasting = p; late = l; bytes = b } in
    ap (λ p. f p v.late v.bytes) pasting ∙ ap (λ l. f w.pasting l v.bytes) late ∙ ap (f w.pasting w.late) bytes

pub same_cuts : (pieces others : List (List ℕ)) (given told : List Spelled) (new last : Waiting)
    → EndInNoEscape pieces → EndInNoEscape others → joined pieces ≡ joined others
    → HasReadAll at_first pieces given new → HasReadAll at_first others told last
    → (given ≡ told) × (new ≡ last)
same_cuts pieces others given told new last ends ends_2 same has has_2 =
    let one = all_read at_first pieces given new at_first_settled ends has in
    let two = all_read at_first others told last at_first_settled ends_2 has_2 in
    let P : List ℕ → Type 0 = λ xs. Reads false xs told last.pasting last.bytes in
    let moved : Reads false (joined pieces) told last.pasting last.bytes = subst P (sym same) two.keys in
    let equal = reads_one false (joined pieces) given told new.pasting last.pasting new.bytes last.bytes one.keys moved in
    (equal.keys, same_waiting new last equal.after (one.settled.early ∙ sym two.settled.early) equal.rest)
