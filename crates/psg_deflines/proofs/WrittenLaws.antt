-- One more part of a line.
use Rattle.std.proofs.Common.{◌≡◌, ◌==◌, ℕ, ◌+◌, ◌<◌, ◌&&◌, Bool, true, false, cond, zero, suc, List, [], ◌∷◌, ◌++◌, take, drop, length, length-drop, inl, inr, refl, ap, sym, ◌∙◌, subst, append-nil, replicate, arith}
use Rattle.std.specs.List.{prefix_len, list_all}
use Rattle.std.proofs.Math.Seq.{drop-append_seam}
use Rattle.std.proofs.lemmas.List.{take-append-drop, append_cancel_left, length-replicate}
use Rattle.std.proofs.lemmas.Bool.{and_parts, cases_Bool, eqb-true, true≢false}
use Rattle.psg_deflines.specs.Written.{goes_on_word, IsWritten, ends_word}
use Rattle.psg_deflines.specs.Parts.{is_mark, is_sigil, IsPart, a_word, a_mark, a_sigil, a_quoted, IsApart, IsFirst, HasNoFirst, HasParts, HasNoParts, IsSplit, texts}
use Rattle.psg_deflines.proofs.PartLaws.{quote-begins}
use Rattle.psg_deflines.proofs.Lists.{begins_by, prefix_len-run}
use Rattle.psg_deflines.proofs.Stages.{IsReadTo, read-more, read-not, read-all}
use Rattle.psg_deflines.specs.Only.{IsOnly}
use Rattle.std.specs.Borrow.{Bor}

abbrev pub is_space : ℕ → Bool
is_space c = c == 32

not-space : (c : ℕ) → (c ≡ 32 → ⊥) → is_space c ≡ false
not-space c h = elim (cases_Bool (is_space c)) [ inl e ↦ absurd (h (eqb-true c 32 e)) | inr e ↦ e ]

-- a part does not begin with a space
part-begins : (part : List ℕ) → IsPart part → (behind : List ℕ) → begins_by is_space (part ++ behind) ≡ false
part-begins [] (a_word w) behind = absurd (omega (arith, w.0))
part-begins (c ∷ cs) (a_word w) behind = not-space c (λ e. true≢false (sym (and_parts (goes_on_word c) (list_all goes_on_word cs) w.1).0 ∙ ap goes_on_word e))
part-begins part (a_mark m) behind = subst (λ p. begins_by is_space (p ++ behind) ≡ false) (sym m.whole) (not-space m.mark (λ e. true≢false (sym m.is ∙ ap is_mark e)))
part-begins part (a_sigil g) behind = subst (λ p. begins_by is_space (p ++ behind) ≡ false) (sym g.whole) (not-space g.sigil (λ e. true≢false (sym g.is ∙ ap is_sigil e)))
part-begins part (a_quoted q) behind = subst (λ p. begins_by is_space (p ++ behind) ≡ false) (sym (q.whole ∙ (quote-begins q.contents).1)) refl

pub part-long : (part : List ℕ) → IsPart part → 0 < length part
part-long part (a_word w) = w.0
part-long part (a_mark m) = omega (arith, ap length m.whole)
part-long part (a_sigil g) = omega (arith, ap length g.whole)
part-long part (a_quoted q) = omega (arith, ap length (q.whole ∙ (quote-begins q.contents).1))

-- the spaces in front
spaces-front : (xs : List ℕ) → xs ≡ replicate (prefix_len is_space xs) 32 ++ drop (prefix_len is_space xs) xs
spaces-front [] = refl
spaces-front (x ∷ xs) =
    elim (cases_Bool (is_space x)) [
      | inl e ↦
          let more : prefix_len is_space (x ∷ xs) ≡ suc (prefix_len is_space xs) = ap (λ b. cond b (1 + prefix_len is_space xs) 0) e ∙ plus-one (prefix_len is_space xs) in
          subst (λ n. x ∷ xs ≡ replicate n 32 ++ drop n (x ∷ xs)) (sym more)
          (ap (λ y. y ∷ xs) (eqb-true x 32 e) ∙ ap (λ ys. 32 ∷ ys) (spaces-front xs))
      | inr e ↦ subst (λ n. x ∷ xs ≡ replicate n 32 ++ drop n (x ∷ xs)) (sym (ap (λ b. cond b (1 + prefix_len is_space xs) 0) e)) refl
    ]
  where
    plus-one : (n : ℕ) → 1 + n ≡ suc n
    plus-one n = omega arith

all-spaces : (n : ℕ) → list_all is_space (replicate n 32) ≡ true
all-spaces zero = refl
all-spaces (suc n) = all-spaces n

-- how many spaces stand in front of a part
spaces-count : (n : ℕ) (rest : List ℕ) → begins_by is_space rest ≡ false → prefix_len is_space (replicate n 32 ++ rest) ≡ n
spaces-count n rest h = prefix_len-run is_space (replicate n 32) rest (all-spaces n) h ∙ length-replicate n 32

-- a line with a part begins with it
written-begins : (part : List ℕ) (parts : List (List ℕ)) (line : List ℕ) → IsWritten (part ∷ parts) line → (behind : List ℕ) × (line ≡ part ++ behind)
written-begins part [] line e = ([], e ∙ sym (append-nil part))
written-begins part (next ∷ parts) line (n, rest, e, a, w) = (replicate n 32 ++ rest, e)

-- the line begins with no space, and is not empty
written-no_space : (part : List ℕ) (parts : List (List ℕ)) (line : List ℕ) → IsPart part → IsWritten (part ∷ parts) line → (begins_by is_space line ≡ false) × (0 < length line)
written-no_space part parts line p w =
    let b = written-begins part parts line w in
    let size : length line ≡ length part + length b.0 = ap length b.1 ∙ length-append part b.0 in
    (ap (begins_by is_space) b.1 ∙ part-begins part p b.0, omega (arith, part-long part p))
  where
    length-append : (xs ys : List ℕ) → length (xs ++ ys) ≡ length xs + length ys
    length-append [] ys = omega arith
    length-append (x ∷ xs) ys = omega (arith, length-append xs ys)

-- What stands behind the first part of a line: the next part behind some spaces, or nothing.
behind-next : (text : List ℕ) (n gap : ℕ) (part rest : List ℕ) (spaces : ℕ) → IsFirst text n → gap ≡ prefix_len is_space (drop n text)
    → IsPart part → text ≡ part ++ (replicate spaces 32 ++ rest) → IsApart part (replicate spaces 32 ++ rest) → begins_by is_space rest ≡ false
    → (part ≡ take n text) × (drop n text ≡ replicate spaces 32 ++ rest) × (spaces ≡ gap) × (rest ≡ drop gap (drop n text))
behind-next text n gap part rest spaces first g p e a clean =
    let same : part ≡ take n text = first.only part (replicate spaces 32 ++ rest) p e a in
    let tail : drop n text ≡ replicate spaces 32 ++ rest =
    append_cancel_left (take n text) (drop n text) (replicate spaces 32 ++ rest) (take-append-drop n text ∙ e ∙ ap (λ q. q ++ (replicate spaces 32 ++ rest)) same) in
    let count : spaces ≡ gap = sym (g ∙ ap (prefix_len is_space) tail ∙ spaces-count spaces rest clean) in
    let left : rest ≡ drop gap (drop n text) =
    sym (ap (drop gap) tail ∙ ap (λ k. drop k (replicate spaces 32 ++ rest)) (sym count ∙ sym (length-replicate spaces 32)) ∙ drop-append_seam (replicate spaces 32) rest) in
    (same, tail, count, left)

pub step-sound : (text : List ℕ) (n gap : ℕ) (tail : List (List ℕ)) → IsFirst text n → gap ≡ prefix_len is_space (drop n text) → (drop gap (drop n text) ≡ [] → gap ≡ 0)
    → HasParts (drop gap (drop n text)) tail → HasParts text (take n text ∷ tail)
step-sound text n gap [] first g ends h =
    let none : gap ≡ 0 = ends h.written in
    let nothing : drop n text ≡ [] = subst (λ k. drop k (drop n text) ≡ []) none h.written in
    record { each = (first.part, tt); written = sym (take-append-drop n text) ∙ ap (λ xs. take n text ++ xs) nothing ∙ append-nil (take n text) }
step-sound text n gap (next ∷ tail) first g ends h =
    let front : drop n text ≡ replicate gap 32 ++ drop gap (drop n text) = subst (λ k. drop n text ≡ replicate k 32 ++ drop k (drop n text)) (sym g) (spaces-front (drop n text)) in
    record {
      each = (first.part, h.each);
      written = (
        gap,
        drop gap (drop n text),
        sym (take-append-drop n text) ∙ ap (λ xs. take n text ++ xs) front,
        subst (λ xs. IsApart (take n text) xs) front first.apart,
        h.written,
      );
    }

pub step-complete : (text : List ℕ) (n gap : ℕ) (whole : List (List ℕ)) → IsFirst text n → gap ≡ prefix_len is_space (drop n text)
    → HasParts text whole → (tail : List (List ℕ)) × (whole ≡ take n text ∷ tail) × HasParts (drop gap (drop n text)) tail
step-complete text n gap [] first g h = absurd (omega (arith, part-long (take n text) first.part, none))
  where
    none : length (take n text) ≡ 0
    none = ap length (ap (take n) h.written ∙ nil-take n)
      where
        nil-take : (m : ℕ) → take {A = ℕ} m [] ≡ []
        nil-take zero = refl
        nil-take (suc m) = refl
step-complete text n gap (part ∷ []) first g h =
    let next = behind-next text n gap part [] 0 first g h.each.0 (h.written ∙ sym (append-nil part)) (no-meeting (ends_word part)) refl in
    ([], ap (λ q. q ∷ []) next.0, record { each = tt; written = sym next.3 })
  where
    no-meeting : (b : Bool) → (b && false) ≡ false
    no-meeting true = refl
    no-meeting false = refl
step-complete text n gap (part ∷ other ∷ parts) first g h =
    let (spaces, rest, e, a, w) = h.written in
    let next = behind-next text n gap part rest spaces first g h.each.0 e a (written-no_space other parts rest h.each.1.0 w).0 in
    (other ∷ parts, ap (λ q. q ∷ other ∷ parts) next.0, record { each = h.each.1; written = subst (IsWritten (other ∷ parts)) next.3 w })

-- a line does not end in spaces
pub no_end : (text : List ℕ) (n gap : ℕ) (whole : List (List ℕ)) → IsFirst text n → gap ≡ prefix_len is_space (drop n text) → HasParts text whole → drop gap (drop n text) ≡ [] → 0 < gap → ⊥
no_end text n gap [] first g h none more = let (tail, e, k) = step-complete text n gap [] first g h in absurd (cc)
no_end text n gap (part ∷ []) first g h none more =
    let next = behind-next text n gap part [] 0 first g h.each.0 (h.written ∙ sym (append-nil part)) (no-meeting (ends_word part)) refl in
    omega (arith, next.2)
  where
    no-meeting : (b : Bool) → (b && false) ≡ false
    no-meeting true = refl
    no-meeting false = refl
no_end text n gap (part ∷ other ∷ parts) first g h none more =
    let (spaces, rest, e, a, w) = h.written in
    let clean = written-no_space other parts rest h.each.1.0 w in
    let next = behind-next text n gap part rest spaces first g h.each.0 e a clean.0 in
    omega (arith, clean.1, ap length (next.3 ∙ none))

-- a line with a part that begins with none
pub no_part : (text : List ℕ) (whole : List (List ℕ)) → 0 < length text → HasNoFirst text → HasParts text whole → ⊥
no_part text [] long none h = omega (arith, ap length h.written)
no_part text (part ∷ []) long none h = none part [] h.each.0 (h.written ∙ sym (append-nil part)) (no-meeting (ends_word part))
  where
    no-meeting : (b : Bool) → (b && false) ≡ false
    no-meeting true = refl
    no-meeting false = refl
no_part text (part ∷ other ∷ parts) long none h = let (spaces, rest, e, a, w) = h.written in none part (replicate spaces 32 ++ rest) h.each.0 e a

pub split-at : (text : List ℕ) (n gap : ℕ) (part behind rest : List ℕ) → IsFirst text n → part ≡ take n text → behind ≡ drop n text → gap ≡ prefix_len is_space behind → rest ≡ drop gap behind
    → (rest ≡ [] → gap ≡ 0) → IsSplit text part rest
split-at text n gap part behind rest first p b g r ends =
    let g' : gap ≡ prefix_len is_space (drop n text) = g ∙ ap (prefix_len is_space) b in
    let r' : rest ≡ drop gap (drop n text) = r ∙ ap (drop gap) b in
    let long : 0 < n = positive n first in
    record {
      shorter = omega (arith, ap length r', length-drop gap (drop n text), length-drop n text, first.fits);
      sound = λ parts h. subst (λ q. HasParts text (q ∷ parts)) (sym p) (step-sound text n gap parts first g' (λ e. ends (r' ∙ e)) (subst (λ xs. HasParts xs parts) r' h));
      complete = λ whole h.
          let (tail, e, k) = step-complete text n gap whole first g' h in
          (tail, e ∙ ap (λ q. q ∷ tail) (sym p), subst (λ xs. HasParts xs tail) (sym r') k);
    }
  where
    positive : (m : ℕ) → IsFirst text m → 0 < m
    positive zero f = part-long [] f.part
    positive (suc m) f = omega arith

pub split-ends : (text : List ℕ) (n gap : ℕ) (behind rest : List ℕ) → IsFirst text n → behind ≡ drop n text → gap ≡ prefix_len is_space behind → rest ≡ drop gap behind → rest ≡ [] → 0 < gap → HasNoParts text
split-ends text n gap behind rest first b g r none more = λ whole h.
    no_end text n gap whole first (g ∙ ap (prefix_len is_space) b) h (sym (r ∙ ap (drop gap) b) ∙ none) more

pub split-none : (text : List ℕ) → 0 < length text → HasNoFirst text → HasNoParts text
split-none text long none = λ whole h. no_part text whole long none h

-- the loop over the parts
pub parts-more : (line left part rest : List ℕ) (done : List (List ℕ)) → IsReadTo HasParts line done left → IsSplit left part rest → IsReadTo HasParts line (done ++ part ∷ []) rest
parts-more line left part rest done h s = read-more HasParts line done left part rest h s.sound s.complete

pub parts-all : (line left : List ℕ) (done : List (List ℕ)) → IsReadTo HasParts line done left → length left ≡ 0 → IsOnly (HasParts line) done
parts-all line [] done h e = read-all HasParts line done [] h (record { each = tt; written = refl }) (λ tail k. nothing tail k)
  where
    nothing : (tail : List (List ℕ)) → HasParts [] tail → tail ≡ []
    nothing [] k = refl
    nothing (q ∷ qs) k = absurd (omega (arith, (written-no_space q qs [] k.each.0 k.written).1))
parts-all line (c ∷ cs) done h e = absurd (omega arith)

pub parts-not : (line left : List ℕ) (done : List (List ℕ)) → IsReadTo HasParts line done left → HasNoParts left → HasNoParts line
parts-not line left done h none = read-not HasParts line done left h none

pub texts-append : (xs ys : List (Bor (List ℕ))) → texts (xs ++ ys) ≡ texts xs ++ texts ys
texts-append [] ys = refl
texts-append (x ∷ xs) ys = ap (λ q. x.now ∷ q) (texts-append xs ys)
