-- The parts of the first line.
use Rattle.std.proofs.Common.{◌≡◌, ℕ, ◌+◌, zero, suc, List, [], ◌∷◌, ◌++◌, drop, replicate, length, length-append, get_or, codes, inl, inr, ap, sym, ◌∙◌, refl, subst, arith}
use Rattle.std.specs.Prelude.{Option, Some, None, MatchOption}
use Rattle.psg_deflines.specs.Written.{IsWritten}
use Rattle.psg_deflines.specs.Parts.{IsPart, a_word, HasParts, texts}
use Rattle.psg_deflines.specs.Versions.{IsVersion}
use Rattle.psg_deflines.specs.Entries.{head_parts}
use Rattle.psg_deflines.specs.Only.{IsOnly}
use Rattle.psg_deflines.proofs.PartReads.{Slices, no-slice, first_of, rest_of, byte_of}

-- the digit of a version
abbrev pub IsDigitOf : List ℕ → ℕ → Type 0
IsDigitOf part version = IsVersion version × ((48 + version) ∷ [] ≡ part)

abbrev pub HasNoDigit : List ℕ → Type 0
HasNoDigit part = (version : ℕ) → IsVersion version → (48 + version) ∷ [] ≡ part → ⊥

-- the version of which the parts are the head
abbrev pub IsHeadOf : List (List ℕ) → ℕ → Type 0
IsHeadOf parts version = IsVersion version × (head_parts version ≡ parts)

abbrev pub IsNoHead : List (List ℕ) → Type 0
IsNoHead parts = (version : ℕ) → IsVersion version → head_parts version ≡ parts → ⊥

pub digit-none : (part : List ℕ) → (part ≡ codes "1" → ⊥) → (part ≡ codes "2" → ⊥) → HasNoDigit part
digit-none part one two version (inl e) h = one (sym h ∙ ap (λ n. (48 + n) ∷ []) e)
digit-none part one two version (inr e) h = two (sym h ∙ ap (λ n. (48 + n) ∷ []) e)

-- two parts are the head
pub head-long : (ts : Slices) → (length ts ≡ 2 → ⊥) → IsNoHead (texts ts)
head-long [] h v is e = h (ap length (sym e))
head-long (t ∷ []) h v is e = omega (arith, ap length e)
head-long (t ∷ u ∷ []) h v is e = h refl
head-long (t ∷ u ∷ w ∷ ts) h v is e = omega (arith, ap length e)

pub head-other : (ts : Slices) → length ts ≡ 2 → ((get_or ts 0 no-slice).now ≡ codes "psg" → ⊥) → IsNoHead (texts ts)
head-other [] long h v is e = omega arith
head-other (t ∷ ts) long h v is e = h (sym (ap first_of e))

pub head-by_digit : (ts : Slices) (o : Option ℕ) → length ts ≡ 2 → (get_or ts 0 no-slice).now ≡ codes "psg"
    → MatchOption o (HasNoDigit (get_or ts 1 no-slice).now) (IsDigitOf (get_or ts 1 no-slice).now) → MatchOption o (IsNoHead (texts ts)) (IsHeadOf (texts ts))
head-by_digit [] o long word h = absurd (omega arith)
head-by_digit (t ∷ []) o long word h = absurd (omega arith)
head-by_digit (t ∷ u ∷ w ∷ ts) o long word h = absurd (omega arith)
head-by_digit (t ∷ u ∷ []) None long word h = λ v is e. h v is (ap (λ ps. first_of (rest_of ps)) e)
head-by_digit (t ∷ u ∷ []) (Some v) long word h = (h.0, ap (λ p. p ∷ ((48 + v) ∷ []) ∷ []) (sym word) ∙ ap (λ p. t.now ∷ p ∷ []) h.1)

digit-part : (v : ℕ) → IsVersion v → IsPart ((48 + v) ∷ [])
digit-part v (inl e) = subst (λ n. IsPart ((48 + n) ∷ [])) (sym e) (a_word (omega arith, refl))
digit-part v (inr e) = subst (λ n. IsPart ((48 + n) ∷ [])) (sym e) (a_word (omega arith, refl))

pub head-has : (v : ℕ) (line : List ℕ) → IsVersion v → IsWritten (head_parts v) line → HasParts line (head_parts v)
head-has v line is w = record { each = (a_word (omega arith, refl), (digit-part v is, tt)); written = w }

-- the line's parts are those of the head where it is written so
pub head-written : (v : ℕ) (line : List ℕ) (parts : List (List ℕ)) → IsOnly (HasParts line) parts → head_parts v ≡ parts → IsWritten (head_parts v) line
head-written v line parts only e = subst (λ ps. IsWritten ps line) (sym e) only.is.written

pub written-head : (v : ℕ) (line : List ℕ) (parts : List (List ℕ)) → IsOnly (HasParts line) parts → IsVersion v → IsWritten (head_parts v) line → head_parts v ≡ parts
written-head v line parts only is w = only.only (head_parts v) (head-has v line is w)

-- the version of a line whose parts are these
abbrev pub IsLineHead : List ℕ → ℕ → Type 0
IsLineHead line version = IsVersion version × IsWritten (head_parts version) line

abbrev pub IsNoLineHead : List ℕ → Type 0
IsNoLineHead line = (version : ℕ) → IsVersion version → IsWritten (head_parts version) line → ⊥

pub head-line : (line : List ℕ) (parts : List (List ℕ)) (o : Option ℕ) → IsOnly (HasParts line) parts → MatchOption o (IsNoHead parts) (IsHeadOf parts) → MatchOption o (IsNoLineHead line) (IsLineHead line)
head-line line parts None only h = λ v is w. h v is (written-head v line parts only is w)
head-line line parts (Some v) only h = (h.0, head-written v line parts only h.1)

-- behind spaces stands one byte
last-same : (n m a b : ℕ) → replicate n 32 ++ a ∷ [] ≡ replicate m 32 ++ b ∷ [] → a ≡ b
last-same zero zero a b e = ap byte_of e
last-same zero (suc m) a b e = absurd (omega (arith, ap length e, length-append (replicate m 32) (b ∷ [])))
last-same (suc n) zero a b e = absurd (omega (arith, ap length e, length-append (replicate n 32) (a ∷ [])))
last-same (suc n) (suc m) a b e = last-same n m a b (ap (drop 1) e)

one-writing : (line : List ℕ) (v w : ℕ) → IsWritten (head_parts v) line → IsWritten (head_parts w) line → v ≡ w
one-writing line v w (n, a, e, x, p) (m, b, f, y, q) =
    let both : codes "psg" ++ (replicate n 32 ++ (48 + v) ∷ []) ≡ codes "psg" ++ (replicate m 32 ++ (48 + w) ∷ []) =
    ap (λ r. codes "psg" ++ (replicate n 32 ++ r)) (sym p) ∙ sym e ∙ f ∙ ap (λ r. codes "psg" ++ (replicate m 32 ++ r)) q in
    let d : 48 + v ≡ 48 + w = last-same n m (48 + v) (48 + w) (ap (drop 3) both) in
    omega (arith, d)

-- a line is the head of one version
pub one-head-line : (v w : ℕ) (line : List ℕ) → IsLineHead line v → IsLineHead line w → v ≡ w
one-head-line v w line (is, h) (is', k) = one-writing line v w h k
