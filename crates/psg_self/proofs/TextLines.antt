-- The lines of the exported text are those that were written.
use Rattle.std.proofs.Common.{arith, ◌≡◌, ◌≢◌, ◌==◌, ℕ, zero, suc, ◌-◌, ◌≤◌, Bool, true, false, inl, inr, List, [], ◌∷◌, ◌++◌, take, length, map, replicate, refl, ap, ap₂, sym, ◌∙◌, subst, append_assoc, append-nil, decimal, if◌then◌else◌}
use Rattle.std.specs.Prelude.{slice_index}
use Rattle.std.specs.List.{AllByRecursion, list_all, flat_map, slice_split}
use Rattle.std.specs.Str.Lines.{lines as texts_of, lines_of_parts, strip_carriage_return}
use Rattle.std.proofs.lemmas.Bool.{and_parts, false≢true}
use Rattle.std.proofs.lemmas.Bool.Decides.{eqb_tells}
use Rattle.std.proofs.lemmas.List.Splits.{slice_split_at}
use Rattle.std.proofs.lemmas.List.Elements.{All-from_recursion}
use Rattle.psg_lexis.specs.Tokens.{escaped}
use Rattle.psg_deflines.specs.declared.lines.Line.{Line}
use Rattle.psg_defread.specs.DefinitionText.{fed}
use Rattle.psg_self.specs.Export.{exported_words, exported_line, spaced}
use Rattle.psg_self.specs.Pieces.{is_broad, IsRun, Piece, run_piece, sign_piece, mark_piece, quote_piece, Laid}
use Rattle.psg_self.proofs.QuoteOnce.{quoted-is}
use Rattle.psg_self.proofs.PiecesOnce.{kind_of_byte, mark-kind, sigil-kind}
use Rattle.psg_self.proofs.LinesLaid.{own_parts, IsOwnLine, line-laid}

abbrev IsNoFeed : ℕ → Type 0
IsNoFeed c = (c == 10) ≡ false

abbrev HasNoFeed : List ℕ → Type 0
HasNoFeed xs = AllByRecursion IsNoFeed xs

no-feed-append : (xs ys : List ℕ) → HasNoFeed xs → HasNoFeed ys → HasNoFeed (xs ++ ys)
no-feed-append [] ys h k = k
no-feed-append (x ∷ xs) ys h k = (h.0, no-feed-append xs ys h.1 k)

other-byte : (c : ℕ) (test : ℕ → Bool) → test c ≡ true → test 10 ≡ false → IsNoFeed c
other-byte c test h k = elim (eqb_tells c 10) [
  | inl e ↦ absurd (false≢true (sym k ∙ ap test (sym e.1) ∙ h))
  | inr e ↦ e.0
]

run-no-feed : (p : List ℕ) → list_all is_broad p ≡ true → HasNoFeed p
run-no-feed [] h = tt
run-no-feed (c ∷ cs) h =
    let both = and_parts (is_broad c) (list_all is_broad cs) h in (other-byte c is_broad both.0 refl, run-no-feed cs both.1)

kind-no-feed : (c k : ℕ) → kind_of_byte c ≡ k → k ≤ 3 → IsNoFeed c
kind-no-feed c k e small = elim (eqb_tells c 10) [
  | inl f ↦ absurd (omega (arith, e, small, ap kind_of_byte f.1))
  | inr f ↦ f.0
]

escaped-no-feed : (b : ℕ) → HasNoFeed (escaped b)
escaped-no-feed b = elim (eqb_tells b 34) [
  | inl p ↦ subst (λ x. HasNoFeed (escaped x)) (sym p.1) (refl, (refl, tt))
  | inr p ↦ elim (eqb_tells b 92) [
    | inl q ↦ subst (λ x. HasNoFeed (escaped x)) (sym q.1) (refl, (refl, tt))
    | inr q ↦ elim (eqb_tells b 10) [
      | inl s ↦ subst (λ x. HasNoFeed (escaped x)) (sym s.1) (refl, (refl, tt))
      | inr s ↦ rw (p.0, q.0, s.0) (s.0, tt)
    ]
  ]
]

quoted-no-feed : (w : List ℕ) → HasNoFeed (flat_map escaped w)
quoted-no-feed [] = tt
quoted-no-feed (b ∷ w) = no-feed-append (escaped b) (flat_map escaped w) (escaped-no-feed b) (quoted-no-feed w)

piece-no-feed : (p : List ℕ) → Piece p → HasNoFeed p
piece-no-feed p (run_piece r) = run-no-feed p r.run
piece-no-feed p (sign_piece s n i r e) =
    subst HasNoFeed (sym e) (kind-no-feed s 1 (sigil-kind s i) (omega arith), run-no-feed n r.run)
piece-no-feed p (mark_piece m) = subst HasNoFeed (sym m.whole) (kind-no-feed m.mark 2 (mark-kind m.mark m.is) (omega arith), tt)
piece-no-feed p (quote_piece w e u) =
    subst HasNoFeed (sym (e ∙ quoted-is w u)) (refl, no-feed-append (flat_map escaped w) (34 ∷ []) (quoted-no-feed w) (refl, tt))

spaces-no-feed : (n : ℕ) → HasNoFeed (replicate n 32)
spaces-no-feed zero = tt
spaces-no-feed (suc n) = (refl, spaces-no-feed n)

laid-no-feed : (ps : List (List ℕ)) (x : List ℕ) → Laid ps x → HasNoFeed x
laid-no-feed [] x h = subst HasNoFeed (sym h) tt
laid-no-feed (p ∷ ps) x (n, rest, a, e, k, w) =
    subst HasNoFeed (sym e)
    (no-feed-append (replicate n 32) (p ++ rest) (spaces-no-feed n) (no-feed-append p rest (piece-no-feed p a) (laid-no-feed ps rest w)))

-- ---- the last byte

abbrev last_byte : List ℕ → ℕ
last_byte [] = 0
last_byte (c ∷ []) = c
last_byte (c ∷ d ∷ cs) = last_byte (d ∷ cs)

last-append : (xs : List ℕ) (y : ℕ) (ys : List ℕ) → last_byte (xs ++ y ∷ ys) ≡ last_byte (y ∷ ys)
last-append [] y ys = refl
last-append (x ∷ []) y ys = refl
last-append (x ∷ z ∷ xs) y ys = last-append (z ∷ xs) y ys

last-at : (xs : List ℕ) → slice_index xs (length xs - 1) ≡ last_byte xs
last-at [] = refl
last-at (x ∷ []) = refl
last-at (x ∷ y ∷ xs) =
    let e : length (x ∷ y ∷ xs) - 1 ≡ suc (length (y ∷ xs) - 1) = omega arith in ap (slice_index (x ∷ y ∷ xs)) e ∙ last-at (y ∷ xs)

run-last : (c : ℕ) (cs : List ℕ) → list_all is_broad (c ∷ cs) ≡ true → is_broad (last_byte (c ∷ cs)) ≡ true
run-last c [] h = (and_parts (is_broad c) true h).0
run-last c (d ∷ cs) h = run-last d cs (and_parts (is_broad c) (list_all is_broad (d ∷ cs)) h).1

run-return : (p : List ℕ) → IsRun p → last_byte p ≢ 13
run-return [] r e = absurd (omega (arith, r.long))
run-return (c ∷ cs) r e = false≢true (ap is_broad (sym e) ∙ run-last c cs r.run)

sign-last : (s : ℕ) (n : List ℕ) → IsRun n → last_byte (s ∷ n) ≡ last_byte n
sign-last s [] r = absurd (omega (arith, r.long))
sign-last s (c ∷ cs) r = refl

piece-return : (p : List ℕ) → Piece p → last_byte p ≢ 13
piece-return p (run_piece r) = run-return p r
piece-return p (sign_piece s n i r e) = λ f. run-return n r (sym (ap last_byte e ∙ sign-last s n r) ∙ f)
piece-return p (mark_piece m) = λ f.
    let here : m.mark ≡ 13 = sym (ap last_byte m.whole) ∙ f in
    omega (arith, sym (mark-kind m.mark m.is) ∙ ap kind_of_byte here)
piece-return p (quote_piece w e u) = λ f. omega (arith, sym (ap last_byte (e ∙ quoted-is w u) ∙ last-append (34 ∷ flat_map escaped w) 34 []) ∙ f)

not-empty : (p : List ℕ) → Piece p → (c : ℕ) × (cs : List ℕ) × (p ≡ c ∷ cs)
not-empty [] (run_piece r) = absurd (omega (arith, r.long))
not-empty [] (sign_piece s n i r e) = absurd (omega (arith, ap length e))
not-empty [] (mark_piece m) = absurd (omega (arith, ap length m.whole))
not-empty [] (quote_piece w e u) = absurd (omega (arith, ap length (e ∙ quoted-is w u)))
not-empty (c ∷ cs) a = (c, cs, refl)

laid-return : (p : List ℕ) (ps : List (List ℕ)) (x : List ℕ) → Laid (p ∷ ps) x → last_byte x ≢ 13
laid-return p [] x (n, rest, a, e, k, w) f =
    let c = not-empty p a in
    let whole : x ≡ replicate n 32 ++ c.0 ∷ c.1 = e ∙ ap (λ r. replicate n 32 ++ (p ++ r)) w ∙ ap (λ z. replicate n 32 ++ z) (append-nil p ∙ c.2) in
    piece-return p a (ap last_byte c.2 ∙ sym (ap last_byte whole ∙ last-append (replicate n 32) c.0 c.1) ∙ f)
laid-return p (q ∷ ps) x (n, rest, a, e, k, w) f =
    let (m, more, b, g, l, v) = w in
    laid-return q ps rest (m, more, b, g, l, v) (by-rest rest (first-of q b m more rest g) e f)
  where
    first-of : (z : List ℕ) → Piece z → (i : ℕ) (more whole : List ℕ) → whole ≡ replicate i 32 ++ (z ++ more) → (c : ℕ) × (cs : List ℕ) × (whole ≡ c ∷ cs)
    first-of z b zero more whole g = let c = not-empty z b in (c.0, c.1 ++ more, g ∙ ap (λ t. t ++ more) c.2)
    first-of z b (suc i) more whole g = (32, replicate i 32 ++ (z ++ more), g)

    by-rest : (r : List ℕ) → (c : ℕ) × (cs : List ℕ) × (r ≡ c ∷ cs) → x ≡ replicate n 32 ++ (p ++ r) → last_byte x ≡ 13 → last_byte r ≡ 13
    by-rest r (c, cs, same) g h =
        let whole : x ≡ (replicate n 32 ++ p) ++ c ∷ cs =
        g ∙ ap (λ t. replicate n 32 ++ (p ++ t)) same ∙ sym (append_assoc (replicate n 32) p (c ∷ cs)) in
        ap last_byte same ∙ sym (ap last_byte whole ∙ last-append (replicate n 32 ++ p) c cs) ∙ h

-- ---- texts with a line feed after each

pub record IsLineText (t : List ℕ) : Type 0 where
  pub no_feed : HasNoFeed t
  pub no_return : last_byte t ≢ 13

strip-same : (t : List ℕ) → last_byte t ≢ 13 → strip_carriage_return t ≡ t
strip-same t h = elim (eqb_tells (slice_index t (length t - 1)) 13) [
  | inl p ↦ absurd (h (sym (last-at t) ∙ p.1))
  | inr p ↦ ap (λ b. if b then take (length t - 1) t else t) p.0
]

split-fed : (t : List ℕ) (rest : List ℕ) → HasNoFeed t → slice_split (λ b. b == 10) (t ++ 10 ∷ rest) ≡ t ∷ slice_split (λ b. b == 10) rest
split-fed t rest h = slice_split_at (λ b. b == 10) t 10 rest (All-from_recursion IsNoFeed t h) refl

pub texts-again : (ts : List (List ℕ)) → AllByRecursion IsLineText ts → texts_of (fed ts) ≡ ts
texts-again [] h = refl
texts-again (t ∷ []) h = ap lines_of_parts (split-fed t [] h.0.no_feed) ∙ ap (λ x. x ∷ []) (strip-same t h.0.no_return)
texts-again (t ∷ u ∷ ts) h =
    let rest = fed (u ∷ ts) in
    let more = slice_split (λ b. b == 10) (fed ts) in
    let second : slice_split (λ b. b == 10) rest ≡ u ∷ more = split-fed u (fed ts) h.1.0.no_feed in
    let behind : lines_of_parts (u ∷ more) ≡ u ∷ ts = ap lines_of_parts (sym second) ∙ texts-again (u ∷ ts) h.1 in
    ap lines_of_parts (split-fed t rest h.0.no_feed ∙ ap (λ l. t ∷ l) second) ∙ ap₂ (λ x l. x ∷ l) (strip-same t h.0.no_return) behind

-- ---- the exported text

abbrev pub text_of : Line → List ℕ
text_of line = spaced (exported_words line)

pub fed-lines : (ls : List Line) → flat_map exported_line ls ≡ fed (map text_of ls)
fed-lines [] = refl
fed-lines (l ∷ ls) = append_assoc (text_of l) (10 ∷ []) (flat_map exported_line ls) ∙ ap (λ x. text_of l ++ 10 ∷ x) (fed-lines ls)

laid-text : (ps : List (List ℕ)) (x : List ℕ) → Laid ps x → IsLineText x
laid-text [] x h = record { no_feed = laid-no-feed [] x h; no_return = λ e. omega (arith, sym (ap last_byte h) ∙ e) }
laid-text (p ∷ ps) x h = record { no_feed = laid-no-feed (p ∷ ps) x h; no_return = laid-return p ps x h }

pub lines-texts : ((n : ℕ) → IsRun (decimal n)) → (ls : List Line) → AllByRecursion IsOwnLine ls → AllByRecursion IsLineText (map text_of ls)
lines-texts digits [] h = tt
lines-texts digits (l ∷ ls) h = (laid-text (own_parts l) (text_of l) (line-laid digits l h.0), lines-texts digits ls h.1)
