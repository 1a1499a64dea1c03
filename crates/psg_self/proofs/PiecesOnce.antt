-- A text has its parts in one way.
use Rattle.std.proofs.Common.{arith, ◌≡◌, ◌==◌, ◌||◌, ◌&&◌, ℕ, zero, suc, ◌<◌, ◌≤◌, Bool, true, false, cond, inl, inr, List, [], ◌∷◌, ◌++◌, drop, length, replicate, refl, ap, ap₂, sym, ◌∙◌, subst, append-nil, length-append, codes}
use Rattle.std.specs.Prelude.{nat_le}
use Rattle.std.specs.List.{AllByRecursion, list_all, list_any}
use Rattle.std.proofs.lemmas.Bool.{and_parts, and_from, and_cases, or_cases, or_left, or_right, or_from, eqb-true, false≢true, cases_lt}
use Rattle.std.proofs.lemmas.Bool.Decides.{nat_tests}
use Rattle.psg_grammar.specs.Sound.{is_upper, is_lower, is_digit}
use Rattle.psg_deflines.specs.WrittenTerms.{is_plain}
use Rattle.psg_deflines.specs.WrittenTrees.{quoted_part}
use Rattle.psg_deflines.specs.Written.{goes_on_word, ends_word, begins_word, IsWritten}
use Rattle.psg_deflines.specs.Parts.{is_mark, is_sigil, goes_behind, IsPart, a_word, a_mark, a_sigil, a_quoted, IsApart}
use Rattle.psg_self.specs.Pieces.{is_broad, begins_broad, IsRun, Piece, run_piece, sign_piece, mark_piece, quote_piece, IsEnded, Laid}
use Rattle.psg_self.proofs.QuoteOnce.{quoted-is, quoted-once}

abbrev byte_of : List ℕ → ℕ
byte_of [] = 0
byte_of (c ∷ cs) = c

-- ---- what a piece begins with

abbrev pub kind_of_byte : ℕ → ℕ
kind_of_byte c = cond (is_broad c) 0 (cond (is_sigil c) 1 (cond (is_mark c) 2 (cond (c == 34) 3 4)))

abbrev piece_kind : {p : List ℕ} → Piece p → ℕ
piece_kind (run_piece r) = 0
piece_kind (sign_piece s n i r e) = 1
piece_kind (mark_piece m) = 2
piece_kind (quote_piece w e u) = 3

any-is : (test : ℕ → Bool) (c : ℕ) (xs : List ℕ) → list_any (λ d. c == d) xs ≡ true → list_all test xs ≡ true → test c ≡ true
any-is test c [] h k = absurd (false≢true h)
any-is test c (x ∷ xs) h k =
    let both = and_parts (test x) (list_all test xs) k in
    elim (or_cases (c == x) (list_any (λ d. c == d) xs) h) [
      | inl e ↦ ap test (eqb-true c x e) ∙ both.0
      | inr e ↦ any-is test c xs e both.1
    ]

pub mark-kind : (c : ℕ) → is_mark c ≡ true → kind_of_byte c ≡ 2
mark-kind c h = eqb-true (kind_of_byte c) 2 (any-is (λ d. kind_of_byte d == 2) c (codes ":=(),[]|") h refl)

pub sigil-kind : (c : ℕ) → is_sigil c ≡ true → kind_of_byte c ≡ 1
sigil-kind c h = elim (or_cases (c == 63) (c == 36) h) [
  | inl e ↦ ap kind_of_byte (eqb-true c 63 e)
  | inr e ↦ ap kind_of_byte (eqb-true c 36 e)
]

run-kind : (p x : List ℕ) → IsRun p → kind_of_byte (byte_of (p ++ x)) ≡ 0
run-kind [] x r = absurd (omega (arith, r.long))
run-kind (c ∷ cs) x r = let e = (and_parts (is_broad c) (list_all is_broad cs) r.run).0 in
    ap (λ b. cond b 0 (cond (is_sigil c) 1 (cond (is_mark c) 2 (cond (c == 34) 3 4)))) e

kind-is : (p : List ℕ) (a : Piece p) (x : List ℕ) → kind_of_byte (byte_of (p ++ x)) ≡ piece_kind a
kind-is p (run_piece r) x = run-kind p x r
kind-is p (sign_piece s n i r e) x = ap (λ z. kind_of_byte (byte_of (z ++ x))) e ∙ sigil-kind s i
kind-is p (mark_piece m) x = ap (λ z. kind_of_byte (byte_of (z ++ x))) m.whole ∙ mark-kind m.mark m.is
kind-is p (quote_piece w e u) x = ap (λ z. kind_of_byte (byte_of (z ++ x))) (e ∙ quoted-is w u)

kind-low : (p : List ℕ) (a : Piece p) → piece_kind a ≤ 3
kind-low p (run_piece r) = omega arith
kind-low p (sign_piece s n i r e) = omega arith
kind-low p (mark_piece m) = omega arith
kind-low p (quote_piece w e u) = omega arith

not-space : (p : List ℕ) (a : Piece p) (x : List ℕ) → byte_of (p ++ x) ≡ 32 → ⊥
not-space p a x e = omega (arith, kind-is p a x, kind-low p a, ap kind_of_byte e)

not-empty : (p : List ℕ) (a : Piece p) → 0 < length p
not-empty [] a = absurd (omega (arith, kind-is [] a [], kind-low [] a))
not-empty (c ∷ cs) a = omega arith

-- ---- one piece

run-once : (p q x y : List ℕ) → list_all is_broad p ≡ true → list_all is_broad q ≡ true → begins_broad x ≡ false
    → begins_broad y ≡ false → p ++ x ≡ q ++ y → (p ≡ q) × (x ≡ y)
run-once [] [] x y h k a b e = (refl, e)
run-once [] (d ∷ q) x y h k a b e =
    absurd (false≢true (sym a ∙ ap begins_broad e ∙ (and_parts (is_broad d) (list_all is_broad q) k).0))
run-once (c ∷ p) [] x y h k a b e =
    absurd (false≢true (sym b ∙ ap begins_broad (sym e) ∙ (and_parts (is_broad c) (list_all is_broad p) h).0))
run-once (c ∷ p) (d ∷ q) x y h k a b e =
    let rest = run-once p q x y (and_parts (is_broad c) (list_all is_broad p) h).1 (and_parts (is_broad d) (list_all is_broad q) k).1
    a b (ap (drop 1) e) in
    (ap₂ (λ z zs. z ∷ zs) (ap byte_of e) rest.0, rest.1)

piece-once : (p q x y : List ℕ) (a : Piece p) (b : Piece q) → IsEnded a x → IsEnded b y → p ++ x ≡ q ++ y → (p ≡ q) × (x ≡ y)
piece-once p q x y (run_piece r) (run_piece s) h k e = run-once p q x y r.run s.run h k e
piece-once p q x y (sign_piece s n i r f) (sign_piece t m j u g) h k e =
    let whole : s ∷ (n ++ x) ≡ t ∷ (m ++ y) = sym (ap (λ z. z ++ x) f) ∙ e ∙ ap (λ z. z ++ y) g in
    let rest = run-once n m x y r.run u.run h k (ap (drop 1) whole) in
    (f ∙ ap₂ (λ z zs. z ∷ zs) (ap byte_of whole) rest.0 ∙ sym g, rest.1)
piece-once p q x y (mark_piece m) (mark_piece n) h k e =
    let whole : m.mark ∷ x ≡ n.mark ∷ y = sym (ap (λ z. z ++ x) m.whole) ∙ e ∙ ap (λ z. z ++ y) n.whole in
    (m.whole ∙ ap (λ c. c ∷ []) (ap byte_of whole) ∙ sym n.whole, ap (drop 1) whole)
piece-once p q x y (quote_piece w f u) (quote_piece v g t) h k e =
    let both = quoted-once w v x y u t (sym (ap (λ z. z ++ x) f) ∙ e ∙ ap (λ z. z ++ y) g) in
    (f ∙ ap quoted_part both.0 ∙ sym g, both.1)
piece-once p q x y a b h k e = absurd (omega (arith, kind-is p a x, kind-is q b y, ap (λ z. kind_of_byte (byte_of z)) e))

-- ---- all pieces

spaces-once : (n m : ℕ) (a b : List ℕ) → (byte_of a ≡ 32 → ⊥) → (byte_of b ≡ 32 → ⊥) → replicate n 32 ++ a ≡ replicate m 32 ++ b → a ≡ b
spaces-once zero zero a b h k e = e
spaces-once zero (suc m) a b h k e = absurd (h (ap byte_of e))
spaces-once (suc n) zero a b h k e = absurd (k (ap byte_of (sym e)))
spaces-once (suc n) (suc m) a b h k e = spaces-once n m a b h k (ap (drop 1) e)

nothing-laid : (n : ℕ) (p rest x : List ℕ) → Piece p → x ≡ replicate n 32 ++ (p ++ rest) → x ≡ [] → ⊥
nothing-laid n p rest x a e none =
    omega (arith, ap length (sym none ∙ e), length-append (replicate n 32) (p ++ rest), length-append p rest, not-empty p a)

pub laid-once : (ps qs : List (List ℕ)) (x : List ℕ) → Laid ps x → Laid qs x → ps ≡ qs
laid-once [] [] x h k = refl
laid-once [] (q ∷ qs) x h (m, t, b, f, k, w) = absurd (nothing-laid m q t x b f h)
laid-once (p ∷ ps) [] x (n, r, a, e, h, v) k = absurd (nothing-laid n p r x a e k)
laid-once (p ∷ ps) (q ∷ qs) x (n, r, a, e, h, v) (m, t, b, f, k, w) =
    let same = spaces-once n m (p ++ r) (q ++ t) (not-space p a r) (not-space q b t) (sym e ∙ f) in
    let both = piece-once p q r t a b h k same in
    ap₂ (λ z zs. z ∷ zs) both.0 (laid-once ps qs r v (subst (Laid qs) (sym both.1) w))

pub laid-spaced : (n : ℕ) (q : List ℕ) (qs : List (List ℕ)) (x : List ℕ) → Laid (q ∷ qs) x → Laid (q ∷ qs) (replicate n 32 ++ x)
laid-spaced zero q qs x h = h
laid-spaced (suc n) q qs x h =
    let (m, r, a, e, k, w) = laid-spaced n q qs x h in (suc m, r, a, ap (λ z. 32 ∷ z) e, k, w)

-- ---- the parts of a definition's lines are such pieces

pub all-weaker : (p q : ℕ → Bool) → ((c : ℕ) → p c ≡ true → q c ≡ true) → (xs : List ℕ) → list_all p xs ≡ true → list_all q xs ≡ true
all-weaker p q f [] h = refl
all-weaker p q f (x ∷ xs) h =
    let both = and_parts (p x) (list_all p xs) h in and_from (q x) (list_all q xs) (f x both.0) (all-weaker p q f xs both.1)

pub word-broad : (c : ℕ) → goes_on_word c ≡ true → is_broad c ≡ true
word-broad c h = or_left (goes_on_word c) (nat_le 128 c) h

plain-word : (c : ℕ) → is_plain c ≡ true → goes_on_word c ≡ true
plain-word c h = or_left (is_upper c || is_lower c || is_digit c || (c == 95)) (c == 64) (or_left (is_upper c || is_lower c || is_digit c) (c == 95) h)

pub behind-word : (s c : ℕ) → goes_behind s c ≡ true → goes_on_word c ≡ true
behind-word s c h = by_sigil (s == 63) h
  where
    by_sigil : (b : Bool) → cond b (is_plain c) (is_lower c || is_digit c) ≡ true → goes_on_word c ≡ true
    by_sigil true k = plain-word c k
    by_sigil false k = elim (or_cases (is_lower c) (is_digit c) k) [
      | inl e ↦ plain-word c (or_left (is_upper c || is_lower c) (is_digit c) (or_right (is_upper c) (is_lower c) e))
      | inr e ↦ plain-word c (or_right (is_upper c || is_lower c) (is_digit c) e)
    ]

abbrev piece-of : (p : List ℕ) → IsPart p → Piece p
piece-of p (a_word w) = run_piece (record { long = w.0; run = all-weaker goes_on_word is_broad word-broad p w.1 })
piece-of p (a_mark m) = mark_piece m
piece-of p (a_sigil g) =
    sign_piece g.sigil g.name g.is (record {
      long = g.long;
      run = all-weaker (goes_behind g.sigil) is_broad (λ c h. word-broad c (behind-word g.sigil c h)) g.name g.run;
    }) g.whole
piece-of p (a_quoted q) = quote_piece q.contents q.whole q.is.utf8

-- ---- what follows them

abbrev begins_high : List ℕ → Bool
begins_high [] = false
begins_high (c ∷ cs) = nat_le 128 c

neither : (x : List ℕ) → begins_word x ≡ false → begins_high x ≡ false → begins_broad x ≡ false
neither [] h k = refl
neither (c ∷ cs) h k = or_from (goes_on_word c) (nat_le 128 c) h k

word-low : (c : ℕ) → goes_on_word c ≡ true → nat_le 128 c ≡ false
word-low c h = elim (cases_lt c 128) [
  | inl small ↦ grind (arith, nat_tests)
  | inr large ↦ absurd (false≢true (sym (above c large) ∙ h))
]
  where
    above : (d : ℕ) → 128 ≤ d → goes_on_word d ≡ false
    above d large = grind (arith, nat_tests)

pub kind-high : (d : ℕ) → 128 ≤ d → kind_of_byte d ≡ 2 → ⊥
kind-high d large k =
    let b : is_broad d ≡ true = or_right (goes_on_word d) (nat_le 128 d) (grind (arith, nat_tests)) in
    omega (arith, sym k ∙ ap (λ t. cond t 0 (cond (is_sigil d) 1 (cond (is_mark d) 2 (cond (d == 34) 3 4)))) b)

part-low : (p : List ℕ) → IsPart p → (x : List ℕ) → begins_high (p ++ x) ≡ false
part-low [] (a_word w) x = absurd (omega (arith, w.0))
part-low (c ∷ cs) (a_word w) x = word-low c (and_parts (goes_on_word c) (list_all goes_on_word cs) w.1).0
part-low p (a_mark m) x = ap (λ z. begins_high (z ++ x)) m.whole ∙ low m.mark m.is
  where
    low : (c : ℕ) → is_mark c ≡ true → nat_le 128 c ≡ false
    low c h = let k = eqb-true (kind_of_byte c) 2 (any-is (λ d. kind_of_byte d == 2) c (codes ":=(),[]|") h refl) in
        elim (cases_lt c 128) [
          | inl small ↦ grind (arith, nat_tests)
          | inr large ↦ absurd (kind-high c large k)
        ]
part-low p (a_sigil g) x = ap (λ z. begins_high (z ++ x)) g.whole ∙ low g.sigil g.is
  where
    low : (c : ℕ) → is_sigil c ≡ true → nat_le 128 c ≡ false
    low c h = elim (or_cases (c == 63) (c == 36) h) [
      | inl e ↦ ap (nat_le 128) (eqb-true c 63 e)
      | inr e ↦ ap (nat_le 128) (eqb-true c 36 e)
    ]
part-low p (a_quoted q) x = ap (λ z. begins_high (z ++ x)) (q.whole ∙ quoted-is q.contents q.is.utf8)

spaces-low : (n : ℕ) (x : List ℕ) → begins_high x ≡ false → begins_high (replicate n 32 ++ x) ≡ false
spaces-low zero x h = h
spaces-low (suc n) x h = refl

first-low : (q : List ℕ) (qs : List (List ℕ)) (x : List ℕ) → IsPart q → IsWritten (q ∷ qs) x → begins_high x ≡ false
first-low q [] x a e = ap begins_high (e ∙ sym (append-nil q)) ∙ part-low q a []
first-low q (r ∷ qs) x a (n, rest, e, apart, w) = ap begins_high e ∙ part-low q a (replicate n 32 ++ rest)

word-ends : (p : List ℕ) → 0 < length p → list_all goes_on_word p ≡ true → ends_word p ≡ true
word-ends [] h k = absurd (omega (arith, h))
word-ends (c ∷ []) h k = (and_parts (goes_on_word c) true k).0
word-ends (c ∷ d ∷ cs) h k = word-ends (d ∷ cs) (omega arith) (and_parts (goes_on_word c) (list_all goes_on_word (d ∷ cs)) k).1

sign-ends : (s : ℕ) (name : List ℕ) → 0 < length name → list_all goes_on_word name ≡ true → ends_word (s ∷ name) ≡ true
sign-ends s [] h k = absurd (omega (arith, h))
sign-ends s (c ∷ cs) h k = word-ends (c ∷ cs) h k

stops : (p x : List ℕ) → ends_word p ≡ true → IsApart p x → begins_high x ≡ false → begins_broad x ≡ false
stops p x ends apart low = elim (and_cases (ends_word p) (begins_word x) apart) [
  | inl k ↦ absurd (false≢true (sym k ∙ ends))
  | inr k ↦ neither x k low
]

ended-of : (p : List ℕ) (a : IsPart p) (x : List ℕ) → IsApart p x → begins_high x ≡ false → IsEnded (piece-of p a) x
ended-of p (a_word w) x apart low = stops p x (word-ends p w.0 w.1) apart low
ended-of p (a_mark m) x apart low = tt
ended-of p (a_sigil g) x apart low =
    stops p x (ap ends_word g.whole ∙ sign-ends g.sigil g.name g.long
    (all-weaker (goes_behind g.sigil) goes_on_word (behind-word g.sigil) g.name g.run)) apart low
ended-of p (a_quoted q) x apart low = tt

never : (b : Bool) → (b && false) ≡ false
never true = refl
never false = refl

pub laid-of : (ps : List (List ℕ)) (x : List ℕ) → AllByRecursion IsPart ps → IsWritten ps x → Laid ps x
laid-of [] x h e = e
laid-of (p ∷ []) x h e = (0, [], piece-of p h.0, e ∙ sym (append-nil p), ended-of p h.0 [] (never (ends_word p)) refl, refl)
laid-of (p ∷ q ∷ ps) x h (n, rest, e, apart, w) =
    let more = laid-of (q ∷ ps) rest h.1 w in
    let low = spaces-low n rest (first-low q ps rest h.1.0 w) in
    (0, replicate n 32 ++ rest, piece-of p h.0, e, ended-of p h.0 (replicate n 32 ++ rest) apart low, laid-spaced n q ps rest more)
