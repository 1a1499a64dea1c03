-- The printed text with comments is made of blanks, tokens and comments.
use Rattle.std.proofs.Common.{◌≡◌, ℕ, suc, ◌+◌, ◌≤◌, ◌==◌, Bool, true, false, cond, List, [], ◌∷◌, ◌++◌, length, take, drop, map, replicate, sym, ap, ◌∙◌, subst, refl, append_assoc, append-nil, arith, length-append}
use Rattle.std.specs.Prelude.{encode_utf8_all, nat_le, not, ◌||◌}
use Rattle.std.specs.List.{prefix_len}
use Rattle.std.proofs.lemmas.Bool.{false≢true}
use Rattle.std.proofs.lemmas.Bool.Decides.{nat_tests}
use Rattle.std.proofs.lemmas.List.{map-append, take-append-drop}
use Rattle.psg_lexis.specs.Tokens.{bytes_of}
use Rattle.psg_lexis.specs.declared.token.Token.{Token}
use Rattle.psg_lexis.specs.declared.token.Token.TheVariants as lexed
use Rattle.psg_commented.specs.Noting.{bytes_between, is_counted}
use Rattle.psg_commented.specs.Printing.{closes, is_due, due, level_after, comment_level, token_level, new_line, on_lines, lead, behind_token, gap_with, heads, printed_from, with_notes}
use Rattle.psg_commented.specs.Keeping.{place_of, words_of}
use Rattle.psg_commented.specs.declared.noting.Note.{Note}
use Rattle.psg_comment_laws.proofs.Pieces.{Piece, a_blank, a_token, a_comment, bytes_in, tokens_in, says_in, places_in, between_seam}
use Rattle.psg_comment_laws.proofs.Saying.{AreDue, due_from}
use Rattle.psg_comment_laws.proofs.Parting.{Part, part_bytes, spans_of, counted}

-- ---- the pieces

abbrev pub line_pieces : ℕ → List Piece
line_pieces level = a_blank 10 ∷ map a_blank (replicate level 32)

abbrev pub lead_pieces : ℕ → Bool → List Piece
lead_pieces level true = a_blank 32 ∷ []
lead_pieces level false = line_pieces level

abbrev pub lines_pieces : ℕ → List Note → List Piece
lines_pieces level [] = []
lines_pieces level (n ∷ ns) = line_pieces level ++ (a_comment n.text ∷ lines_pieces level ns)

abbrev pub behind_pieces : ℕ → List Note → List Piece
behind_pieces level [] = []
behind_pieces level (n ∷ ns) = lead_pieces level n.trails ++ (a_comment n.text ∷ lines_pieces level ns)

abbrev pub gap_pieces : ℕ → List ℕ → List Note → List Piece
gap_pieces level gap [] = map a_blank gap
gap_pieces level gap (n ∷ ns) = behind_pieces (comment_level level gap) (n ∷ ns) ++ line_pieces (token_level level gap)

abbrev pub pieces : ℕ → ℕ → List Part → List Note → List Piece
pieces seen level [] notes = behind_pieces 0 notes ++ (a_blank 10 ∷ [])
pieces seen level (p ∷ ps) notes =
    gap_pieces level p.gap (take (due p.token seen notes) notes)
    ++ (a_token p.front p.token ∷ pieces (seen + cond (is_counted p.token) 1 0) (level_after level p.gap) ps (drop (due p.token seen notes) notes))

abbrev pub head_pieces : List Note → List Piece
head_pieces [] = []
head_pieces (n ∷ ns) = a_comment n.text ∷ a_blank 10 ∷ head_pieces ns

abbrev pub all_pieces : List Part → List Note → List Piece
all_pieces [] notes = head_pieces notes
all_pieces (p ∷ ps) notes =
    head_pieces (take (prefix_len (is_due 0) notes) notes)
    ++ pieces 0 0 (p ∷ ps) (drop (prefix_len (is_due 0) notes) notes)

-- ---- their bytes

bytes_append : (xs ys : List Piece) → bytes_in (xs ++ ys) ≡ bytes_in xs ++ bytes_in ys
bytes_append [] ys = refl
bytes_append (a_blank c ∷ xs) ys = ap (λ l. c ∷ l) (bytes_append xs ys)
bytes_append (a_token cs t ∷ xs) ys =
    ap (λ l. encode_utf8_all cs ++ l) (bytes_append xs ys) ∙ sym (append_assoc (encode_utf8_all cs) (bytes_in xs) (bytes_in ys))
bytes_append (a_comment b ∷ xs) ys =
    ap (λ l. b ++ l) (bytes_append xs ys) ∙ sym (append_assoc b (bytes_in xs) (bytes_in ys))

blanks_bytes : (bs : List ℕ) → bytes_in (map a_blank bs) ≡ bs
blanks_bytes [] = refl
blanks_bytes (b ∷ bs) = ap (λ l. b ∷ l) (blanks_bytes bs)

line_bytes : (level : ℕ) → bytes_in (line_pieces level) ≡ new_line level
line_bytes level = ap (λ l. 10 ∷ l) (blanks_bytes (replicate level 32))

lead_bytes : (level : ℕ) (b : Bool) → bytes_in (lead_pieces level b) ≡ lead level b
lead_bytes level true = refl
lead_bytes level false = line_bytes level

lines_bytes : (level : ℕ) (ns : List Note) → bytes_in (lines_pieces level ns) ≡ on_lines level ns
lines_bytes level [] = refl
lines_bytes level (n ∷ ns) =
    bytes_append (line_pieces level) (a_comment n.text ∷ lines_pieces level ns)
    ∙ ap (λ l. l ++ (n.text ++ bytes_in (lines_pieces level ns))) (line_bytes level)
    ∙ ap (λ l. new_line level ++ (n.text ++ l)) (lines_bytes level ns)
    ∙ sym (append_assoc (new_line level) n.text (on_lines level ns))

behind_bytes : (level : ℕ) (ns : List Note) → bytes_in (behind_pieces level ns) ≡ behind_token level ns
behind_bytes level [] = refl
behind_bytes level (n ∷ ns) =
    bytes_append (lead_pieces level n.trails) (a_comment n.text ∷ lines_pieces level ns)
    ∙ ap (λ l. l ++ (n.text ++ bytes_in (lines_pieces level ns))) (lead_bytes level n.trails)
    ∙ ap (λ l. lead level n.trails ++ (n.text ++ l)) (lines_bytes level ns)

gap_bytes : (level : ℕ) (gap : List ℕ) (ns : List Note) → bytes_in (gap_pieces level gap ns) ≡ gap_with level gap ns
gap_bytes level gap [] = blanks_bytes gap
gap_bytes level gap (n ∷ ns) =
    bytes_append (behind_pieces (comment_level level gap) (n ∷ ns)) (line_pieces (token_level level gap))
    ∙ ap (λ l. l ++ bytes_in (line_pieces (token_level level gap))) (behind_bytes (comment_level level gap) (n ∷ ns))
    ∙ ap (λ l. behind_token (comment_level level gap) (n ∷ ns) ++ l) (line_bytes (token_level level gap))

head_bytes : (ns : List Note) → bytes_in (head_pieces ns) ≡ heads ns
head_bytes [] = refl
head_bytes (n ∷ ns) =
    ap (λ l. n.text ++ (10 ∷ l)) (head_bytes ns) ∙ sym (append_assoc n.text (10 ∷ []) (heads ns))

printed_bytes : (ps : List Part) (tail front text : List ℕ) (from seen level : ℕ) (notes : List Note)
    → text ≡ front ++ part_bytes ps tail → from ≡ length front
    → printed_from text from seen level (spans_of from ps) notes ≡ bytes_in (pieces seen level ps notes)
printed_bytes [] tail front text from seen level notes e n =
    sym (bytes_append (behind_pieces 0 notes) (a_blank 10 ∷ []) ∙ ap (λ l. l ++ (10 ∷ [])) (behind_bytes 0 notes))
printed_bytes (p ∷ ps) tail front text from seen level notes e n =
    let start : ℕ = from + length p.gap in
    let end : ℕ = start + bytes_of p.front in
    let own : List ℕ = encode_utf8_all p.front in
    let here : List Note = take (due p.token seen notes) notes in
    let left : List Note = drop (due p.token seen notes) notes in
    let next : ℕ = seen + cond (is_counted p.token) 1 0 in
    let rest : List ℕ = part_bytes ps tail in
    let moved : text ≡ (front ++ p.gap) ++ (own ++ rest) = e ∙ sym (append_assoc front p.gap (own ++ rest)) in
    let size : start ≡ length (front ++ p.gap) = omega (arith, n, length-append front p.gap) in
    let gap_is : bytes_between text from start ≡ p.gap =
    ap (λ bs. bytes_between bs from start) e ∙ between_seam front p.gap (own ++ rest) from n in
    let own_is : bytes_between text start end ≡ own =
    ap (λ bs. bytes_between bs start end) moved ∙ between_seam (front ++ p.gap) own rest start size in
    let later : printed_from text end next (level_after level p.gap) (spans_of end ps) left ≡ bytes_in (pieces next (level_after level p.gap) ps left) =
    printed_bytes ps tail ((front ++ p.gap) ++ own) text end next (level_after level p.gap) left
    (moved ∙ sym (append_assoc (front ++ p.gap) own rest))
    (omega (arith, size, length-append (front ++ p.gap) own)) in
    ap (λ g. (gap_with level g here ++ bytes_between text start end) ++ printed_from text end next (level_after level g) (spans_of end ps) left) gap_is
    ∙ ap (λ o. (gap_with level p.gap here ++ o) ++ printed_from text end next (level_after level p.gap) (spans_of end ps) left) own_is
    ∙ ap (λ l. (gap_with level p.gap here ++ own) ++ l) later
    ∙ append_assoc (gap_with level p.gap here) own (bytes_in (pieces next (level_after level p.gap) ps left))
    ∙ sym (bytes_append (gap_pieces level p.gap here) (a_token p.front p.token ∷ pieces next (level_after level p.gap) ps left)
    ∙ ap (λ l. l ++ (own ++ bytes_in (pieces next (level_after level p.gap) ps left))) (gap_bytes level p.gap here))

pub with_bytes : (ps : List Part) (tail text : List ℕ) (notes : List Note) → text ≡ part_bytes ps tail
    → with_notes text (spans_of 0 ps) notes ≡ bytes_in (all_pieces ps notes)
with_bytes [] tail text notes e = sym (head_bytes notes)
with_bytes (p ∷ ps) tail text notes e =
    let here : List Note = take (prefix_len (is_due 0) notes) notes in
    let left : List Note = drop (prefix_len (is_due 0) notes) notes in
    ap (λ l. heads here ++ l) (printed_bytes (p ∷ ps) tail [] text 0 0 0 left e refl)
    ∙ ap (λ l. l ++ bytes_in (pieces 0 0 (p ∷ ps) left)) (sym (head_bytes here))
    ∙ sym (bytes_append (head_pieces here) (pieces 0 0 (p ∷ ps) left))

-- ---- what the comments say, and after how many tokens

-- these pieces have no token, and these comments
record AreQuiet (xs : List Piece) (ns : List Note) : Type 0 where
  says : (ps : List Piece) → says_in (xs ++ ps) ≡ map words_of ns ++ says_in ps
  tokens : (ps : List Piece) → tokens_in (xs ++ ps) ≡ tokens_in ps
  places : (seen : ℕ) (ps : List Piece) → places_in seen (xs ++ ps) ≡ map (λ (n : Note). seen) ns ++ places_in seen ps

quiet_none : AreQuiet [] []
quiet_none = record { says = λ ps. refl; tokens = λ ps. refl; places = λ seen ps. refl }

quiet_blank : (c : ℕ) (xs : List Piece) (ns : List Note) → AreQuiet xs ns → AreQuiet (a_blank c ∷ xs) ns
quiet_blank c xs ns q = record { says = q.says; tokens = q.tokens; places = q.places }

quiet_comment : (n : Note) (xs : List Piece) (ns : List Note) → AreQuiet xs ns
    → AreQuiet (a_comment n.text ∷ xs) (n ∷ ns)
quiet_comment n xs ns q = record {
  says = λ ps. ap (λ l. n.text ∷ l) (q.says ps);
  tokens = q.tokens;
  places = λ seen ps. ap (λ l. seen ∷ l) (q.places seen ps);
}

quiet_append : (xs ys : List Piece) (ns ms : List Note) → AreQuiet xs ns → AreQuiet ys ms
    → AreQuiet (xs ++ ys) (ns ++ ms)
quiet_append xs ys ns ms q r = record {
  says = λ ps.
      ap says_in (append_assoc xs ys ps) ∙ q.says (ys ++ ps) ∙ ap (λ l. map words_of ns ++ l) (r.says ps)
      ∙ sym (append_assoc (map words_of ns) (map words_of ms) (says_in ps))
      ∙ ap (λ l. l ++ says_in ps) (sym (map-append words_of ns ms));
  tokens = λ ps. ap tokens_in (append_assoc xs ys ps) ∙ q.tokens (ys ++ ps) ∙ r.tokens ps;
  places = λ seen ps.
      ap (places_in seen) (append_assoc xs ys ps) ∙ q.places seen (ys ++ ps)
      ∙ ap (λ l. map (λ (n : Note). seen) ns ++ l) (r.places seen ps)
      ∙ sym (append_assoc (map (λ (n : Note). seen) ns) (map (λ (n : Note). seen) ms) (places_in seen ps))
      ∙ ap (λ l. l ++ places_in seen ps) (sym (map-append (λ (n : Note). seen) ns ms));
}

quiet_blanks : (bs : List ℕ) → AreQuiet (map a_blank bs) []
quiet_blanks [] = quiet_none
quiet_blanks (b ∷ bs) = quiet_blank b (map a_blank bs) [] (quiet_blanks bs)

quiet_line : (level : ℕ) → AreQuiet (line_pieces level) []
quiet_line level = quiet_blanks (10 ∷ replicate level 32)

quiet_lead : (level : ℕ) (b : Bool) → AreQuiet (lead_pieces level b) []
quiet_lead level true = quiet_blanks (32 ∷ [])
quiet_lead level false = quiet_line level

quiet_lines : (level : ℕ) (ns : List Note) → AreQuiet (lines_pieces level ns) ns
quiet_lines level [] = quiet_none
quiet_lines level (n ∷ ns) =
    quiet_append (line_pieces level) (a_comment n.text ∷ lines_pieces level ns) [] (n ∷ ns) (quiet_line level)
    (quiet_comment n (lines_pieces level ns) ns (quiet_lines level ns))

quiet_behind : (level : ℕ) (ns : List Note) → AreQuiet (behind_pieces level ns) ns
quiet_behind level [] = quiet_none
quiet_behind level (n ∷ ns) =
    quiet_append (lead_pieces level n.trails) (a_comment n.text ∷ lines_pieces level ns) [] (n ∷ ns) (quiet_lead level n.trails)
    (quiet_comment n (lines_pieces level ns) ns (quiet_lines level ns))

quiet_gap : (level : ℕ) (gap : List ℕ) (ns : List Note) → AreQuiet (gap_pieces level gap ns) ns
quiet_gap level gap [] = quiet_blanks gap
quiet_gap level gap (n ∷ ns) =
    subst (AreQuiet (gap_pieces level gap (n ∷ ns))) (append-nil (n ∷ ns))
    (quiet_append (behind_pieces (comment_level level gap) (n ∷ ns)) (line_pieces (token_level level gap)) (n ∷ ns) []
    (quiet_behind (comment_level level gap) (n ∷ ns)) (quiet_line (token_level level gap)))

quiet_heads : (ns : List Note) → AreQuiet (head_pieces ns) ns
quiet_heads [] = quiet_none
quiet_heads (n ∷ ns) =
    quiet_comment n (a_blank 10 ∷ head_pieces ns) ns (quiet_blank 10 (head_pieces ns) ns (quiet_heads ns))

-- ---- which comments are due

-- of the comments those that are due are after so many tokens, and the others after more
record AreSplit (seen high k : ℕ) (notes : List Note) : Type 0 where
  here : map (λ (n : Note). seen) (take k notes) ≡ map place_of (take k notes)
  later : AreDue (seen + 1) high (drop k notes)

split_more : (seen high k : ℕ) (n : Note) (ns : List Note) → n.before ≡ seen → AreSplit seen high k ns
    → AreSplit seen high (1 + k) (n ∷ ns)
split_more seen high k n ns e s = subst (λ m. AreSplit seen high m (n ∷ ns)) (one k) (record {
  here = λ i. sym e i ∷ s.here i;
  later = s.later;
})
  where
    one : (m : ℕ) → suc m ≡ 1 + m
    one m = omega arith

split_due : (notes : List Note) (seen high : ℕ) → AreDue seen high notes
    → AreSplit seen high (prefix_len (is_due seen) notes) notes
split_due [] seen high d = record { here = refl; later = tt }
split_due (n ∷ ns) seen high d = by (nat_le n.before seen) refl (λ e. split_due ns seen high (subst (λ m. AreDue m high ns) e d.1))
  where
    by : (b : Bool) → nat_le n.before seen ≡ b → (n.before ≡ seen → AreSplit seen high (prefix_len (is_due seen) ns) ns)
        → AreSplit seen high (cond b (1 + prefix_len (is_due seen) ns) 0) (n ∷ ns)
    by true e rest =
        let same : n.before ≡ seen = let l = d.0.0 in grind (arith, nat_tests, e, l) in
        split_more seen high (prefix_len (is_due seen) ns) n ns same (rest same)
    by false e rest = record {
      here = refl;
      later = ((grind (arith, nat_tests, e), d.0.1), d.1);
    }

closes_uncounted : (t : Token) → closes t ≡ true → is_counted t ≡ false
closes_uncounted (lexed.Solo c) h = ap not (ap (λ b. (c == 40) || b) h ∙ or_true (c == 40))
  where
    or_true : (b : Bool) → (b || true) ≡ true
    or_true true = refl
    or_true false = refl
closes_uncounted (lexed.Word w) h = absurd (false≢true h)
closes_uncounted (lexed.Number w) h = absurd (false≢true h)
closes_uncounted (lexed.Text w) h = absurd (false≢true h)
closes_uncounted (lexed.Symbol w) h = absurd (false≢true h)
closes_uncounted (lexed.Hole w) h = absurd (false≢true h)
closes_uncounted lexed.More h = absurd (false≢true h)

-- before a token, and after it
record IsBefore (t : Token) (seen high : ℕ) (notes : List Note) : Type 0 where
  here : map (λ (n : Note). seen) (take (due t seen notes) notes) ≡ map place_of (take (due t seen notes) notes)
  later : AreDue (seen + cond (is_counted t) 1 0) high (drop (due t seen notes) notes)

one_more : (b : Bool) (seen : ℕ) → seen + cond b 1 0 ≤ seen + 1
one_more true seen = omega arith
one_more false seen = omega arith

before_token : (t : Token) (seen high : ℕ) (notes : List Note) → AreDue seen high notes → IsBefore t seen high notes
before_token t seen high notes d = by (closes t) refl
  where
    by : (b : Bool) → closes t ≡ b → IsBefore t seen high notes
    by true e =
        let none : due t seen notes ≡ 0 = ap (λ q. cond q 0 (prefix_len (is_due seen) notes)) e in
        let zero : seen ≡ seen + 0 = omega arith in
        let same : seen ≡ seen + cond (is_counted t) 1 0 = zero ∙ ap (λ q. seen + cond q 1 0) (sym (closes_uncounted t e)) in
        record {
          here = subst (λ k. map (λ (n : Note). seen) (take k notes) ≡ map place_of (take k notes)) (sym none) refl;
          later = subst (λ k. AreDue (seen + cond (is_counted t) 1 0) high (drop k notes)) (sym none) (subst (λ m. AreDue m high notes) same d);
        }
    by false e =
        let some : due t seen notes ≡ prefix_len (is_due seen) notes = ap (λ q. cond q 0 (prefix_len (is_due seen) notes)) e in
        let s : AreSplit seen high (prefix_len (is_due seen) notes) notes = split_due notes seen high d in
        record {
          here = subst (λ k. map (λ (n : Note). seen) (take k notes) ≡ map place_of (take k notes)) (sym some) s.here;
          later = subst (λ k. AreDue (seen + cond (is_counted t) 1 0) high (drop k notes)) (sym some)
              (due_from (seen + 1) (seen + cond (is_counted t) 1 0) high (drop (prefix_len (is_due seen) notes) notes) (one_more (is_counted t) seen) s.later);
        }

-- where no more tokens come
all_here : (notes : List Note) (seen high : ℕ) → AreDue seen high notes → high ≡ seen
    → map (λ (n : Note). seen) notes ≡ map place_of notes
all_here [] seen high d e = refl
all_here (n ∷ ns) seen high d e =
    let l = d.0.0 in
    let m = d.0.1 in
    let same : n.before ≡ seen = omega (arith, l, m, e) in
    let rest = all_here ns seen high (subst (λ k. AreDue k high ns) same d.1) e in
    λ i. sym same i ∷ rest i

-- ---- the comments are said, each at its place

abbrev pub part_token : Part → Token
part_token p = p.token

pub record AreTold (xs : List Piece) (seen : ℕ) (ps : List Part) (notes : List Note) : Type 0 where
  pub tokens : tokens_in xs ≡ map part_token ps
  pub says : says_in xs ≡ map words_of notes
  pub places : places_in seen xs ≡ map place_of notes

both_halves : {Y : Type 0} (f : Note → Y) (k : ℕ) (notes : List Note)
    → map f (take k notes) ++ map f (drop k notes) ≡ map f notes
both_halves f k notes = sym (map-append f (take k notes) (drop k notes)) ∙ ap (map f) (take-append-drop k notes)

told : (ps : List Part) (seen level high : ℕ) (notes : List Note) → AreDue seen high notes → high ≡ seen + counted ps
    → AreTold (pieces seen level ps notes) seen ps notes
told [] seen level high notes d e =
    let q : AreQuiet (behind_pieces 0 notes) notes = quiet_behind 0 notes in
    let none : high ≡ seen = omega (arith, e) in
    record {
      tokens = q.tokens (a_blank 10 ∷ []);
      says = q.says (a_blank 10 ∷ []) ∙ append-nil (map words_of notes);
      places = q.places seen (a_blank 10 ∷ []) ∙ append-nil (map (λ (n : Note). seen) notes) ∙ all_here notes seen high d none;
    }
told (p ∷ ps) seen level high notes d e =
    let k : ℕ = due p.token seen notes in
    let next : ℕ = seen + cond (is_counted p.token) 1 0 in
    let whole : high ≡ seen + (cond (is_counted p.token) 1 0 + counted ps) = e in
    let left : high ≡ seen + cond (is_counted p.token) 1 0 + counted ps = omega (arith, whole) in
    let b : IsBefore p.token seen high notes = before_token p.token seen high notes d in
    let more : List Piece = a_token p.front p.token ∷ pieces next (level_after level p.gap) ps (drop k notes) in
    let r : AreTold (pieces next (level_after level p.gap) ps (drop k notes)) next ps (drop k notes) =
    told ps next (level_after level p.gap) high (drop k notes) b.later left in
    let q : AreQuiet (gap_pieces level p.gap (take k notes)) (take k notes) = quiet_gap level p.gap (take k notes) in
    record {
      tokens = q.tokens more ∙ ap (λ l. p.token ∷ l) r.tokens;
      says = q.says more ∙ ap (λ l. map words_of (take k notes) ++ l) r.says ∙ both_halves words_of k notes;
      places = q.places seen more ∙ ap (λ l. l ++ places_in next (pieces next (level_after level p.gap) ps (drop k notes))) b.here
          ∙ ap (λ l. map place_of (take k notes) ++ l) r.places ∙ both_halves place_of k notes;
    }

pub all_told : (ps : List Part) (high : ℕ) (notes : List Note) → AreDue 0 high notes → high ≡ counted ps
    → AreTold (all_pieces ps notes) 0 ps notes
all_told [] high notes d e =
    let q : AreQuiet (head_pieces notes) notes = quiet_heads notes in
    let whole : head_pieces notes ++ [] ≡ head_pieces notes = append-nil (head_pieces notes) in
    record {
      tokens = ap tokens_in (sym whole) ∙ q.tokens [];
      says = ap says_in (sym whole) ∙ q.says [] ∙ append-nil (map words_of notes);
      places = ap (places_in 0) (sym whole) ∙ q.places 0 [] ∙ append-nil (map (λ (n : Note). 0) notes) ∙ all_here notes 0 high d e;
    }
all_told (p ∷ ps) high notes d e =
    let k : ℕ = prefix_len (is_due 0) notes in
    let s : AreSplit 0 high k notes = split_due notes 0 high d in
    let less : AreDue 0 high (drop k notes) = due_from (0 + 1) 0 high (drop k notes) (omega arith) s.later in
    let zero_more : high ≡ 0 + counted (p ∷ ps) = omega (arith, e) in
    let r : AreTold (pieces 0 0 (p ∷ ps) (drop k notes)) 0 (p ∷ ps) (drop k notes) =
    told (p ∷ ps) 0 0 high (drop k notes) less zero_more in
    let q : AreQuiet (head_pieces (take k notes)) (take k notes) = quiet_heads (take k notes) in
    let more : List Piece = pieces 0 0 (p ∷ ps) (drop k notes) in
    record {
      tokens = q.tokens more ∙ r.tokens;
      says = q.says more ∙ ap (λ l. map words_of (take k notes) ++ l) r.says ∙ both_halves words_of k notes;
      places = q.places 0 more ∙ ap (λ l. l ++ places_in 0 more) s.here
          ∙ ap (λ l. map place_of (take k notes) ++ l) r.places ∙ both_halves place_of k notes;
    }
