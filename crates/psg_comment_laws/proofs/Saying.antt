-- What the comments of a text say, and that they are in order beside its tokens.
use Rattle.std.proofs.Common.{◌≡◌, inl, inr, ℕ, suc, ◌+◌, ◌-◌, ◌<◌, ◌≤◌, ◌==◌, Bool, true, false, cond, List, [], ◌∷◌, ◌++◌, length, take, drop, get_or, sym, ap, ◌∙◌, subst, refl, append_assoc, append-nil, arith, length-append}
use Rattle.std.specs.Prelude.{chars, codes, encode_utf8, encode_utf8_all, count_by, not, reverse, ◌&&◌, ◌||◌, IsUtf8}
use Rattle.std.specs.Char.{is_ascii_whitespace}
use Rattle.std.specs.List.{AllByRecursion, list_any, list_all, prefix_len, suffix_len}
use Rattle.std.specs.Str.{all_scalars, IsAscii, IsCharBoundary}
use Rattle.std.specs.Cmp.{first_so, second_so}
use Rattle.std.proofs.lemmas.Bool.{and_parts, eqb-true, false≢true, true≢false, cases_lt}
use Rattle.std.proofs.lemmas.Bool.Decides.{nat_tests}
use Rattle.std.proofs.lemmas.List.{take_all, take-append-drop, length-take-le, length-reverse, get_or-drop, get_or-take, get_or_past, get_or_push, get_or-reverse, nil_from_length}
use Rattle.std.proofs.lemmas.List.Sums.{prefix_len_passes, prefix_len_stops, suffix_len-take_no}
use Rattle.std.proofs.lemmas.List.Folds.{list_any-append}
use Rattle.std.proofs.lemmas.Str.{inside_one, encodes-append, encodes-chars, chars-append, chars-encodes, chars-IsAscii, chars-nil, encode_ascii, IsUtf8-take, IsCharBoundary-before_ascii, IsCharBoundary-end}
use lib.Utf8.{scalar}
use Rattle.psg_terms.specs.Names.{Name}
use Rattle.psg_lexis.specs.Classes.{Chars, is_symbol, EndsBy}
use Rattle.psg_lexis.specs.Tokens.{bytes_of}
use Rattle.psg_lexis.specs.declared.token.Spanned.{Spanned}
use Rattle.psg_lexis.proofs.Walk.{blank-small}
use Rattle.psg_comments.specs.Fitting.{begins_with, IsFit}
use Rattle.psg_comments.specs.Finding.{is_end, line_of, after_line, HasComments, nothing, blank, comment, token_there, no_token}
use Rattle.psg_comments.specs.declared.finding.Comment.{Comment}
use Rattle.psg_comments.proofs.Cuts.{line_whole}
use Rattle.psg_comments.proofs.Fronts.{untrue, begins_head, begins_run}
use Rattle.psg_commented.specs.Noting.{has_feed, is_feed, counts, ended_by, bytes_between, trimmed, notes_of}
use Rattle.psg_commented.specs.declared.noting.Note.{Note}
use Rattle.psg_commented.proofs.Counts.{ended_more, counted_more}
use Rattle.psg_comment_laws.proofs.Pieces.{IsSaid, between_seam, seen_by}

-- ---- lines

abbrev IsOther : ℕ → Type 0
IsOther c = (c == 10) ≡ false

feed_ends : (rest : Chars) → is_end (10 ∷ rest) ≡ true
feed_ends [] = refl
feed_ends (d ∷ rest) = refl

line_at_feed : (rest : Chars) → line_of (10 ∷ rest) ≡ []
line_at_feed rest = ap (λ b. cond b [] (10 ∷ line_of rest)) (feed_ends rest)

after_at_feed : (rest : Chars) → after_line (10 ∷ rest) ≡ 10 ∷ rest
after_at_feed rest = ap (λ b. cond b (10 ∷ rest) (after_line rest)) (feed_ends rest)

goes_on : (c d : ℕ) (cs : Chars) → (c == 10) ≡ false → ((c == 13) && (d == 10)) ≡ false → is_end (c ∷ d ∷ cs) ≡ false
goes_on c d cs h k = ap (λ b. b || ((c == 13) && (d == 10))) h ∙ k

and_false : (a b : Bool) → b ≡ false → (a && b) ≡ false
and_false true b h = h
and_false false b h = refl

no_return : (c : ℕ) → (c ≡ 13 → ⊥) → (c == 13) ≡ false
no_return c h = untrue _ (λ e. h (eqb-true c 13 e))

line_on : (c : ℕ) (cs : Chars) → is_end (c ∷ cs) ≡ false → line_of (c ∷ cs) ≡ c ∷ line_of cs
line_on c cs e = ap (λ b. cond b [] (c ∷ line_of cs)) e

after_on : (c : ℕ) (cs : Chars) → is_end (c ∷ cs) ≡ false → after_line (c ∷ cs) ≡ after_line cs
after_on c cs e = ap (λ b. cond b (c ∷ cs) (after_line cs)) e

-- characters without a line feed, the last of which is no carriage return, are the line before a line feed
line_stops : (cs : Chars) → AllByRecursion IsOther cs → ((xs : Chars) → cs ≡ xs ++ 13 ∷ [] → ⊥) → (rest : Chars)
    → (line_of (cs ++ 10 ∷ rest) ≡ cs) × (after_line (cs ++ 10 ∷ rest) ≡ 10 ∷ rest)
line_stops [] a n rest = (line_at_feed rest, after_at_feed rest)
line_stops (c ∷ []) a n rest =
    let k : (c == 13) ≡ false = no_return c (λ h. n [] (ap (λ x. x ∷ []) h)) in
    let e : is_end (c ∷ 10 ∷ rest) ≡ false = goes_on c 10 rest a.0 (ap (λ b. b && (10 == 10)) k) in (
      line_on c (10 ∷ rest) e ∙ ap (λ l. c ∷ l) (line_at_feed rest),
      after_on c (10 ∷ rest) e ∙ after_at_feed rest,
    )
line_stops (c ∷ d ∷ cs) a n rest =
    let e : is_end (c ∷ d ∷ (cs ++ 10 ∷ rest)) ≡ false = goes_on c d (cs ++ 10 ∷ rest) a.0 (and_false (c == 13) (d == 10) a.1.0) in
    let k = line_stops (d ∷ cs) a.1 (λ xs h. n (c ∷ xs) (ap (λ l. c ∷ l) h)) rest in (
      line_on c (d ∷ (cs ++ 10 ∷ rest)) e ∙ ap (λ l. c ∷ l) k.0,
      after_on c (d ∷ (cs ++ 10 ∷ rest)) e ∙ k.1,
    )

left_false : (a b : Bool) → (a || b) ≡ false → a ≡ false
left_false true b h = absurd (true≢false h)
left_false false b h = refl

other_goes_on : (c : ℕ) (cs : Chars) → is_end (c ∷ cs) ≡ false → (c == 10) ≡ false
other_goes_on c [] h = h
other_goes_on c (d ∷ cs) h = left_false (c == 10) ((c == 13) && (d == 10)) h

line_others : (cs : Chars) → AllByRecursion IsOther (line_of cs)
line_others [] = tt
line_others (c ∷ cs) = by (is_end (c ∷ cs)) refl (line_others cs)
  where
    by : (b : Bool) → is_end (c ∷ cs) ≡ b → AllByRecursion IsOther (line_of cs)
        → AllByRecursion IsOther (cond b [] (c ∷ line_of cs))
    by true e rest = tt
    by false e rest = (other_goes_on c cs e, rest)

symbol_goes_on : (c : ℕ) (cs : Chars) → is_symbol c ≡ true → is_end (c ∷ cs) ≡ false
symbol_goes_on c cs h = by cs
  where
    ten : (c == 10) ≡ false
    ten = untrue _ (λ e. false≢true (sym (ap is_symbol (eqb-true c 10 e)) ∙ h))

    thirteen : (c == 13) ≡ false
    thirteen = untrue _ (λ e. false≢true (sym (ap is_symbol (eqb-true c 13 e)) ∙ h))

    by : (ds : Chars) → is_end (c ∷ ds) ≡ false
    by [] = ten
    by (d ∷ ds) = goes_on c d ds ten (ap (λ b. b && (d == 10)) thirteen)

after_no_symbol : (cs : Chars) → EndsBy is_symbol (after_line cs)
after_no_symbol [] = refl
after_no_symbol (c ∷ cs) = by (is_end (c ∷ cs)) refl (after_no_symbol cs)
  where
    by : (b : Bool) → is_end (c ∷ cs) ≡ b → EndsBy is_symbol (after_line cs)
        → EndsBy is_symbol (cond b (c ∷ cs) (after_line cs))
    by true e rest = untrue _ (λ h. false≢true (sym (symbol_goes_on c cs h) ∙ e))
    by false e rest = rest

others_front : (xs ys : Chars) → AllByRecursion IsOther (xs ++ ys) → AllByRecursion IsOther xs
others_front [] ys a = tt
others_front (x ∷ xs) ys a = (a.0, others_front xs ys a.1)

pub scalars_front : (xs ys : Chars) → all_scalars (xs ++ ys) ≡ true → all_scalars xs ≡ true
scalars_front [] ys h = refl
scalars_front (x ∷ xs) ys h =
    let p = and_parts (scalar x) (all_scalars (xs ++ ys)) h in
    ap (λ b. b && all_scalars xs) p.0 ∙ scalars_front xs ys p.1

pub scalars_rest : (xs ys : Chars) → all_scalars (xs ++ ys) ≡ true → all_scalars ys ≡ true
scalars_rest [] ys h = h
scalars_rest (x ∷ xs) ys h = scalars_rest xs ys (and_parts (scalar x) (all_scalars (xs ++ ys)) h).1

-- a text of such characters has no line feed
feed_at : (xs : List ℕ) → has_feed xs ≡ true → (k : ℕ) × (k < length xs) × (get_or xs k 0 ≡ 10)
feed_at [] h = absurd (false≢true h)
feed_at (x ∷ xs) h = by (x == 10) refl (λ k. feed_at xs k)
  where
    by : (b : Bool) → (x == 10) ≡ b
        → (has_feed xs ≡ true → (k : ℕ) × (k < length xs) × (get_or xs k 0 ≡ 10))
        → (k : ℕ) × (k < length (x ∷ xs)) × (get_or (x ∷ xs) k 0 ≡ 10)
    by true e later = (0, omega arith, eqb-true x 10 e)
    by false e later =
        let l = later (sym (ap (λ b. b || has_feed xs) e) ∙ h) in
        let m = l.1 in
        (suc l.0, omega (arith, m), l.2)

char_feedless : (c : ℕ) → (c == 10) ≡ false → has_feed (encode_utf8 c) ≡ false
char_feedless c e = untrue _ (λ h.
    let l = feed_at (encode_utf8 c) h in
    let k : ℕ = l.0 in
    let is = l.2 in
    let small : get_or (encode_utf8 c) k 0 < 128 = omega (arith, is) in
    let same : c ≡ get_or (encode_utf8 c) k 0 = inside_one c [] (encode_utf8 c) k (sym (append-nil (encode_utf8 c))) l.1 small in
    let ten : c ≡ 10 = same ∙ is in
    true≢false (sym (ap (λ d. d == 10) ten) ∙ e))

feedless : (cs : Chars) → AllByRecursion IsOther cs → has_feed (encode_utf8_all cs) ≡ false
feedless [] a = refl
feedless (c ∷ cs) a =
    list_any-append is_feed (encode_utf8 c) (encode_utf8_all cs)
    ∙ ap (λ b. b || has_feed (encode_utf8_all cs)) (char_feedless c a.0) ∙ feedless cs a.1

-- ---- blanks at the end

abbrev white : ℕ → Bool
white c = is_ascii_whitespace c

among : (p : ℕ → Bool) (c : ℕ) (cs : List ℕ) → list_any (λ d. c == d) cs ≡ true → list_all p cs ≡ true → p c ≡ true
among p c [] h a = absurd (false≢true h)
among p c (d ∷ cs) h a = by (c == d) refl (λ k. among p c cs k (second_so (p d) (list_all p cs) a))
  where
    by : (b : Bool) → (c == d) ≡ b → (list_any (λ x. c == x) cs ≡ true → p c ≡ true) → p c ≡ true
    by true e later = ap p (eqb-true c d e) ∙ first_so (p d) (list_all p cs) a
    by false e later = later (subst (λ b. (b || list_any (λ x. c == x) cs) ≡ true) e h)

white_no_symbol : (c : ℕ) → white c ≡ true → is_symbol c ≡ false
white_no_symbol c w = untrue _ (λ h.
    let k : not (white c) ≡ true = among (λ d. not (white d)) c (codes "+-*/%<>=!&|^~:.@#$") h refl in
    false≢true (ap not (sym w) ∙ k))

white_small : (c : ℕ) → white c ≡ true → c < 128
white_small c w = grind (arith, nat_tests, w)

module _ (b : List ℕ) (u : IsUtf8 b) where
  abbrev cut : ℕ
  cut = length b - suffix_len is_ascii_whitespace b

  abbrev kept : List ℕ
  kept = trimmed b

  abbrev ending : List ℕ
  ending = drop cut b

  cut_within : cut ≤ length b
  cut_within = omega arith

  white_from : (k : ℕ) → cut ≤ k → k < length b → white (get_or b k 0) ≡ true
  white_from k l m =
      let j : ℕ = length b - 1 - k in
      let far : length b - prefix_len is_ascii_whitespace (reverse b) ≤ k = l in
      let near : length b - 1 - k < prefix_len is_ascii_whitespace (reverse b) = omega (arith, far, m) in
      let in_b : j < length b = omega (arith, m) in
      let same : length b - 1 - j ≡ k = omega (arith, m) in
      ap white (ap (λ n. get_or b n 0) (sym same) ∙ sym (get_or-reverse b j 0 in_b))
      ∙ prefix_len_passes is_ascii_whitespace (reverse b) j 0 near

  not_white : 0 < cut → white (get_or b (cut - 1) 0) ≡ false
  not_white h =
      let n : ℕ = prefix_len is_ascii_whitespace (reverse b) in
      let some : 0 < length b - prefix_len is_ascii_whitespace (reverse b) = h in
      let in_b : prefix_len is_ascii_whitespace (reverse b) < length b = omega (arith, some) in
      let same : length b - 1 - prefix_len is_ascii_whitespace (reverse b) ≡ length b - prefix_len is_ascii_whitespace (reverse b) - 1 = omega arith in
      ap white (ap (λ m. get_or b m 0) (sym same) ∙ sym (get_or-reverse b n 0 in_b))
      ∙ prefix_len_stops is_ascii_whitespace (reverse b) 0 (omega (arith, in_b, length-reverse b))

  ending_white : (k : ℕ) → k < length ending → white (get_or ending k 0) ≡ true
  ending_white k l =
      let sizes : length kept + length ending ≡ length b = sym (length-append kept ending) ∙ ap length (take-append-drop cut b) in
      ap white (get_or-drop cut b k 0)
      ∙ white_from (cut + k) (omega arith) (omega (arith, l, sizes, length-take-le cut b cut_within))

  ending_ascii : IsAscii ending
  ending_ascii k = elim (cases_lt k (length ending)) [
    | inl l ↦ white_small (get_or ending k 0) (ending_white k l)
    | inr l ↦ subst (λ n. n < 128) (sym (get_or_past ending k 0 l)) (omega arith)
  ]

  first_ends : (xs : List ℕ) → ((k : ℕ) → k < length xs → white (get_or xs k 0) ≡ true) → EndsBy is_symbol xs
  first_ends [] h = refl
  first_ends (x ∷ xs) h = white_no_symbol x (h 0 (omega arith))

  kept_utf8 : IsUtf8 kept
  kept_utf8 = IsUtf8-take b cut u (elim (cases_lt cut (length b)) [
    | inl m ↦ IsCharBoundary-before_ascii b cut m (white_small (get_or b cut 0) (white_from cut (omega arith) m))
    | inr m ↦ subst (IsCharBoundary b) (ends m) (IsCharBoundary-end b)
  ])
    where
      ends : length b ≤ cut → length b ≡ cut
      ends m = omega (arith, m, cut_within)

  kept_chars : chars b ≡ chars kept ++ ending
  kept_chars =
      ap chars (sym (take-append-drop cut b)) ∙ chars-append kept ending kept_utf8
      ∙ ap (λ l. chars kept ++ l) (chars-IsAscii ending ending_ascii)

  kept_again : trimmed kept ≡ kept
  kept_again = elim (cases_lt 0 cut) [
    | inl h ↦
        let none : suffix_len is_ascii_whitespace kept ≡ 0 = suffix_len-take_no is_ascii_whitespace b cut 0 h cut_within (not_white h) in
        take_all (length kept - suffix_len is_ascii_whitespace kept) kept (omega (arith, none))
    | inr h ↦
        let e : kept ≡ [] = nil_from_length kept (omega (arith, h, length-take-le cut b cut_within)) in
        ap trimmed e ∙ sym e
  ]

  kept_no_return : (xs : Chars) → chars kept ≡ xs ++ 13 ∷ [] → ⊥
  kept_no_return xs e =
      let last : encode_utf8_all (13 ∷ []) ≡ 13 ∷ [] = ap (λ l. l ++ []) (encode_ascii 13 (omega arith)) in
      let whole : kept ≡ encode_utf8_all xs ++ 13 ∷ [] =
      sym (encodes-chars kept kept_utf8) ∙ ap encode_utf8_all e ∙ encodes-append xs (13 ∷ []) ∙ ap (λ l. encode_utf8_all xs ++ l) last in
      let size : length kept ≡ length (encode_utf8_all xs) + 1 = ap length whole ∙ length-append (encode_utf8_all xs) (13 ∷ []) in
      let full : length kept ≡ cut = length-take-le cut b cut_within in
      let place : length (encode_utf8_all xs) ≡ cut - 1 = omega (arith, size, full) in
      let some : 0 < cut = omega (arith, size, full) in
      let is : get_or b (cut - 1) 0 ≡ 13 =
      sym (get_or-take cut b (cut - 1) 0 (omega (arith, some))) ∙ ap (λ l. get_or l (cut - 1) 0) whole
      ∙ get_or_push (encode_utf8_all xs) 13 0 (cut - 1) place in
      true≢false (ap white (sym is) ∙ not_white some)

module _ (fixed : List Name) (token : List ℕ) (fit : IsFit fixed token) where
  abbrev ts : Chars
  ts = chars token

  some_begun : (bs : List ℕ) → begins_with (chars bs) ts ≡ true → 0 < length bs
  some_begun bs h = elim (cases_lt 0 (length bs)) [
    | inl l ↦ l
    | inr l ↦
        let e : bs ≡ [] = nil_from_length bs (omega (arith, l)) in
        absurd (false≢true (begins_head [] ts fit.begins (subst (λ cs. begins_with cs ts ≡ true) (ap chars e ∙ chars-nil) h)))
  ]

  said_of : (all : Chars) → all_scalars all ≡ true → begins_with all ts ≡ true
      → IsSaid fixed token (trimmed (encode_utf8_all (line_of all)))
  said_of all s h =
      let line : Chars = line_of all in
      let known : all_scalars line ≡ true = scalars_front line (after_line all) (subst (λ cs. all_scalars cs ≡ true) (line_whole all) s) in
      let b : List ℕ = encode_utf8_all line in
      let u : IsUtf8 b = (line, (known, refl)) in
      let parts : line ≡ chars (kept b u) ++ ending b u = sym (chars-encodes line known) ∙ kept_chars b u in
      let begun : begins_with line ts ≡ true =
      begins_run line (after_line all) ts fit.symbols (after_no_symbol all) (subst (λ cs. begins_with cs ts ≡ true) (line_whole all) h) in
      let own : begins_with (chars (kept b u)) ts ≡ true =
      begins_run (chars (kept b u)) (ending b u) ts fit.symbols (first_ends b u (ending b u) (ending_white b u))
      (subst (λ cs. begins_with cs ts ≡ true) parts begun) in
      let others : AllByRecursion IsOther (chars (kept b u)) =
      others_front (chars (kept b u)) (ending b u) (subst (AllByRecursion IsOther) parts (line_others all)) in
      record {
        utf8 = kept_utf8 b u;
        begins = own;
        some = some_begun (kept b u) own;
        line = λ rest. (line_stops (chars (kept b u)) others (kept_no_return b u) rest).0;
        after = λ rest. (line_stops (chars (kept b u)) others (kept_no_return b u) rest).1;
        no_blanks = kept_again b u;
        no_feed =
            ap has_feed (sym (encodes-chars (kept b u) (kept_utf8 b u))) ∙ feedless (chars (kept b u)) others;
      }

  abbrev pub AreSaid : List Note → Type 0
  AreSaid [] = Unit {0}
  AreSaid (n ∷ ns) = IsSaid fixed token n.text × AreSaid ns

  pub notes_said : (all : Chars) (at : ℕ) (found : List Comment) → HasComments fixed ts all at found
      → all_scalars all ≡ true → (us : List Spanned) (front text : List ℕ) → text ≡ front ++ encode_utf8_all all
      → at ≡ length front → AreSaid (notes_of text us found)
  notes_said _ _ _ (nothing at) s us front text e n = tt
  notes_said _ _ _ (blank c cs at more h k) s us front text e n =
      notes_said cs (at + 1) more k (and_parts (scalar c) (all_scalars cs) s).1 us (front ++ c ∷ []) text
      (e ∙ ap (λ l. front ++ (l ++ encode_utf8_all cs)) (encode_ascii c (blank-small c h))
      ∙ sym (append_assoc front (c ∷ []) (encode_utf8_all cs)))
      (omega (arith, n, length-append front (c ∷ [])))
  notes_said _ _ _ (comment all at more b k) s us front text e n =
      let line : Chars = line_of all in
      let after : Chars = after_line all in
      let whole : text ≡ front ++ (encode_utf8_all line ++ encode_utf8_all after) =
      e ∙ ap (λ l. front ++ l) (ap encode_utf8_all (line_whole all) ∙ encodes-append line after) in
      let between : bytes_between text at (at + bytes_of line) ≡ encode_utf8_all line =
      ap (λ bs. bytes_between bs at (at + bytes_of line)) whole
      ∙ between_seam front (encode_utf8_all line) (encode_utf8_all after) at n in (
        subst (λ bs. IsSaid fixed token (trimmed bs)) (sym between) (said_of all s b),
        notes_said after (at + bytes_of line) more k
            (scalars_rest line after (subst (λ cs. all_scalars cs ≡ true) (line_whole all) s)) us (front ++ encode_utf8_all line) text
            (whole ∙ sym (append_assoc front (encode_utf8_all line) (encode_utf8_all after)))
            (omega (arith, n, length-append front (encode_utf8_all line))),
      )
  notes_said _ _ _ (token_there all own rest at t more b w i k) s us front text e n =
      notes_said rest (at + bytes_of own) more k
      (scalars_rest own rest (subst (λ cs. all_scalars cs ≡ true) w s)) us (front ++ encode_utf8_all own) text
      (e ∙ ap (λ l. front ++ l) (ap encode_utf8_all w ∙ encodes-append own rest)
      ∙ sym (append_assoc front (encode_utf8_all own) (encode_utf8_all rest)))
      (omega (arith, n, length-append front (encode_utf8_all own)))
  notes_said _ _ _ (no_token all at place f b i) s us front text e n = tt

-- ---- comments in order

-- The comments are in order, each after at least so many tokens, and after no more than the others.
abbrev pub AreDue : ℕ → ℕ → List Note → Type 0
AreDue low high [] = Unit {0}
AreDue low high (n ∷ ns) = ((low ≤ n.before) × (n.before ≤ high)) × AreDue n.before high ns

pub due_from : (low least high : ℕ) (ns : List Note) → least ≤ low → AreDue low high ns → AreDue least high ns
due_from low least high [] l d = tt
due_from low least high (n ∷ ns) l d = let k = d.0.0 in ((omega (arith, l, k), d.0.1), d.1)

seen_grows : (us : List Spanned) (a b : ℕ) → a ≤ b → seen_by us a ≤ seen_by us b
seen_grows us a b l =
    let k : ℕ = ended_by us a in
    let m : ℕ = ended_by us b in
    let more : k ≤ m = ended_more us a b l in
    let sum : k + (m - k) ≡ m = omega (arith, more) in
    let e : count_by counts (take m us) ≡ count_by counts (take k us) + count_by counts (take (m - k) (drop k us)) =
    ap (λ n. count_by counts (take n us)) (sym sum) ∙ counted_more us k (m - k) in
    omega (arith, e)

seen_within : (us : List Spanned) (a : ℕ) → seen_by us a ≤ count_by counts us
seen_within us a =
    let k : ℕ = ended_by us a in
    let whole : take (k + length us) us ≡ us = take_all (k + length us) us (omega arith) in
    let e : count_by counts us ≡ count_by counts (take k us) + count_by counts (take (length us) (drop k us)) =
    ap (count_by counts) (sym whole) ∙ counted_more us k (length us) in
    omega (arith, e)

pub notes_due : (fixed : List Name) (ts : Chars) (us : List Spanned) (text : List ℕ) (all : Chars) (at : ℕ)
    (found : List Comment) → HasComments fixed ts all at found → (low : ℕ) → low ≤ at
    → AreDue (seen_by us low) (count_by counts us) (notes_of text us found)
notes_due fixed ts us text _ _ _ (nothing at) low l = tt
notes_due fixed ts us text _ _ _ (blank c cs at more h k) low l =
    notes_due fixed ts us text cs (at + 1) more k low (omega (arith, l))
notes_due fixed ts us text _ _ _ (comment all at more b k) low l = (
  (seen_grows us low at l, seen_within us at),
  notes_due fixed ts us text (after_line all) (at + bytes_of (line_of all)) more k at (omega arith),
)
notes_due fixed ts us text _ _ _ (token_there all own rest at t more b w i k) low l =
    notes_due fixed ts us text rest (at + bytes_of own) more k low (omega (arith, l))
notes_due fixed ts us text _ _ _ (no_token all at place f b i) low l = tt
