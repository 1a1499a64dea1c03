-- The tokens of a whole text in which bytes are replaced: those of the lines in front, of the new lines, and of the lines behind.
use Rattle.std.proofs.Common.{◌≡◌, inl, inr, ℕ, zero, suc, ◌+◌, ◌-◌, ◌≤◌, List, [], ◌∷◌, ◌++◌, length, length-append, take, drop, refl, ap, sym, ◌∙◌, subst, append_assoc, arith}
use Rattle.std.specs.Str.{chars, IsUtf8}
use Rattle.std.specs.List.{AllByRecursion}
use Rattle.std.proofs.lemmas.Str.{chars-append, chars-nil, IsUtf8-append, IsUtf8-between}
use Rattle.psg_terms.specs.Names.{Name}
use Rattle.psg_lexis.specs.Tokens.{bytes_of, HasTokens, IsBeside}
use Rattle.psg_lexis.specs.declared.token.Spanned.{Spanned}
use Rattle.psg_lexis.proofs.Cutting.{IsCut}
use Rattle.psg_lexis.proofs.Joining.{joined_tokens}
use Rattle.psg_unparse.specs.Nodes.{part_of}
use Rattle.psg_unparse.proofs.Borders.{starts_within}
use Rattle.psg_unparse.proofs.Lexing.{chars_gap}
use Rattle.psg_textedit.specs.Regions.{Typing, edited, IsInside}
use Rattle.psg_textedit.proofs.Cuts.{all_last, size_of}
use Rattle.psg_textedit.specs.Lines.{AreLines, BeginsLine, IsLastLine, lines_with}
use Rattle.psg_textedit.proofs.Feeds.{all_both, all_first, beside_end, beside_start, border_apart, border_cut, ends_within, IsFeedBorder, moved_by, MovedBy}

-- ---- lists

halves : (n : ℕ) (xs : List ℕ) → xs ≡ take n xs ++ drop n xs
halves zero xs = refl
halves (suc n) [] = refl
halves (suc n) (x ∷ xs) = ap (λ ys. x ∷ ys) (halves n xs)

dropped_none : (k : ℕ) → ◌≡◌ {A = List ℕ} (drop k []) []
dropped_none zero = refl
dropped_none (suc k) = refl

dropped : (m n : ℕ) (xs : List ℕ) → m ≤ n → drop (n - m) (drop m xs) ≡ drop n xs
dropped zero n xs h = ap (λ k. drop k xs) (let e : n - 0 ≡ n = omega arith in e)
dropped (suc m) zero xs h = absurd (omega (arith, h))
dropped (suc m) (suc n) [] h = dropped_none (suc n - suc m)
dropped (suc m) (suc n) (x ∷ xs) h =
    ap (λ k. drop k (drop m xs)) (let e : suc n - suc m ≡ n - m = omega arith in e) ∙ dropped m n xs (omega (arith, h))

joined : (a p m q b : List ℕ) → (a ++ p) ++ (m ++ (q ++ b)) ≡ a ++ ((p ++ (m ++ q)) ++ b)
joined a p m q b =
    append_assoc a p (m ++ (q ++ b))
    ∙ ap (λ x. a ++ x) (ap (λ x. p ++ x) (sym (append_assoc m q b)) ∙ sym (append_assoc p (m ++ q) b))

-- ---- borders of lines

first_border : (front before rest : List ℕ) → IsLastLine front before
    → IsFeedBorder (chars front) (chars (before ++ rest))
first_border front before rest (inl (e, one)) = inl (ap chars e ∙ chars-nil)
first_border front before rest (inr (x, e, one)) =
    inr (inr (chars (x ++ rest), ap (λ y. chars (y ++ rest)) e ∙ chars_gap 10 (x ++ rest) (inr refl)))

last_border : (own : List ℕ) (back : List ℕ) → BeginsLine back → IsFeedBorder (chars own) (chars back)
last_border own back (inl e) = inr (inl (ap chars e ∙ chars-nil))
last_border own back (inr (x, e)) = inr (inr (chars x, ap chars e ∙ chars_gap 10 x (inr refl)))

module _ (fixed : List Name) (e : Typing) (text before behind : List ℕ) (inside : IsInside e text) (utf8 : IsUtf8 text) (new_utf8 : IsUtf8 e.new) (l : AreLines e text before behind) where
  own : List ℕ
  own = part_of e.start e.end text

  old_lines : List ℕ
  old_lines = before ++ (own ++ behind)

  abbrev new_lines : List ℕ
  new_lines = lines_with e before behind

  old_seam : text ≡ l.front ++ (old_lines ++ l.back)
  unfolding own old_lines
  old_seam =
      halves e.start text
      ∙ ap (λ x. take e.start text ++ x) (halves (e.end - e.start) (drop e.start text))
      ∙ ap (λ x. take e.start text ++ (take (e.end - e.start) (drop e.start text) ++ x)) (dropped e.start e.end text inside.ordered)
      ∙ ap (λ x. x ++ (take (e.end - e.start) (drop e.start text) ++ drop e.end text)) l.first
      ∙ ap (λ x. (l.front ++ before) ++ (take (e.end - e.start) (drop e.start text) ++ x)) l.last
      ∙ joined l.front before (take (e.end - e.start) (drop e.start text)) behind l.back

  new_seam : edited e text ≡ l.front ++ (new_lines ++ l.back)
  new_seam =
      ap (λ x. x ++ (e.new ++ drop e.end text)) l.first
      ∙ ap (λ x. (l.front ++ before) ++ (e.new ++ x)) l.last
      ∙ joined l.front before e.new behind l.back

  old_utf8 : IsUtf8 old_lines
  unfolding own old_lines
  old_utf8 =
      IsUtf8-append before (part_of e.start e.end text ++ behind) l.before_utf8
      (IsUtf8-append (part_of e.start e.end text) behind
      (IsUtf8-between text e.start e.end utf8 inside.ordered inside.start_whole inside.end_whole) l.behind_utf8)

  lines_utf8 : IsUtf8 new_lines
  lines_utf8 = IsUtf8-append before (e.new ++ behind) l.before_utf8 (IsUtf8-append e.new behind new_utf8 l.behind_utf8)

  old_begins : IsFeedBorder (chars l.front) (chars (old_lines ++ l.back))
  unfolding own old_lines
  old_begins =
      subst (λ x. IsFeedBorder (chars l.front) (chars x)) (sym (append_assoc before (part_of e.start e.end text ++ behind) l.back))
      (first_border l.front before ((part_of e.start e.end text ++ behind) ++ l.back) l.begins)

  new_begins : IsFeedBorder (chars l.front) (chars (new_lines ++ l.back))
  new_begins =
      subst (λ x. IsFeedBorder (chars l.front) (chars x)) (sym (append_assoc before (e.new ++ behind) l.back))
      (first_border l.front before ((e.new ++ behind) ++ l.back) l.begins)

  abbrev place : ℕ
  place = 0 + bytes_of (chars l.front)

  -- ---- of the whole new text to those of the lines

  pub lines_have : (all : List Spanned) → HasTokens fixed (chars (edited e text)) 0 all
      → (ts : List Spanned) × HasTokens fixed (chars new_lines) 0 ts
  lines_have all h =
      let i : IsCut fixed (chars l.front) (chars (new_lines ++ l.back)) 0 all =
      border_cut fixed (chars l.front) (chars (new_lines ++ l.back)) 0 all
      (subst (λ cs. HasTokens fixed cs 0 all) (ap chars new_seam ∙ chars-append l.front (new_lines ++ l.back) l.front_utf8) h)
      new_begins in
      let k : IsCut fixed (chars new_lines) (chars l.back) place i.back =
      border_cut fixed (chars new_lines) (chars l.back) place i.back
      (subst (λ cs. HasTokens fixed cs place i.back) (chars-append new_lines l.back lines_utf8) i.right)
      (last_border new_lines l.back l.ends) in
      let m : MovedBy fixed (chars new_lines) place 0 k.front = moved_by fixed (chars new_lines) place 0 k.front k.left in
      (m.spans, m.are)

  -- ---- of the lines to those of the whole

  -- the tokens of the whole new text, and which borders none of them is across
  pub record IsWhole (old lines : List Spanned) : Type 0 where
    pub tokens : List Spanned
    pub are : HasTokens fixed (chars (edited e text)) 0 tokens
    pub start_to : (start : ℕ) → start ≤ e.start → AllByRecursion (IsBeside start) old
        → AllByRecursion (IsBeside (length before - (e.start - start))) lines → AllByRecursion (IsBeside start) tokens
    pub start_from : (start : ℕ) → start ≤ e.start → AllByRecursion (IsBeside start) tokens
        → AllByRecursion (IsBeside (length before - (e.start - start))) lines
    pub end_to : (end new : ℕ) → e.end ≤ end → end ≤ length text → length (edited e text) + end ≡ new + length text
        → AllByRecursion (IsBeside end) old
        → AllByRecursion (IsBeside (length new_lines - (length behind - (end - e.end)))) lines
        → AllByRecursion (IsBeside new) tokens
    pub end_from : (end new : ℕ) → e.end ≤ end → end ≤ length text → length (edited e text) + end ≡ new + length text
        → AllByRecursion (IsBeside new) tokens
        → AllByRecursion (IsBeside (length new_lines - (length behind - (end - e.end)))) lines

  module _ (old lines : List Spanned) (old_are : HasTokens fixed (chars text) 0 old) (lines_are : HasTokens fixed (chars new_lines) 0 lines) where
    cut_first : IsCut fixed (chars l.front) (chars (old_lines ++ l.back)) 0 old
    cut_first =
        border_cut fixed (chars l.front) (chars (old_lines ++ l.back)) 0 old
        (subst (λ cs. HasTokens fixed cs 0 old) (ap chars old_seam ∙ chars-append l.front (old_lines ++ l.back) l.front_utf8) old_are)
        old_begins

    cut_last : IsCut fixed (chars old_lines) (chars l.back) place cut_first.back
    cut_last =
        border_cut fixed (chars old_lines) (chars l.back) place cut_first.back
        (subst (λ cs. HasTokens fixed cs place cut_first.back) (chars-append old_lines l.back old_utf8) cut_first.right)
        (last_border old_lines l.back l.ends)

    own_moved : MovedBy fixed (chars new_lines) 0 place lines
    own_moved = moved_by fixed (chars new_lines) 0 place lines lines_are

    back_moved : MovedBy fixed (chars l.back) (place + bytes_of (chars old_lines)) (place + bytes_of (chars new_lines)) cut_last.back
    back_moved =
        moved_by fixed (chars l.back) (place + bytes_of (chars old_lines)) (place + bytes_of (chars new_lines)) cut_last.back
        cut_last.right

    all : List Spanned
    all = cut_first.front ++ (own_moved.spans ++ back_moved.spans)

    all_are : HasTokens fixed (chars (edited e text)) 0 all
    unfolding all
    all_are =
        subst (λ cs. HasTokens fixed cs 0 (cut_first.front ++ (own_moved.spans ++ back_moved.spans)))
        (sym (ap chars new_seam ∙ chars-append l.front (new_lines ++ l.back) l.front_utf8))
        (joined_tokens fixed (chars l.front) 0 cut_first.front (chars (new_lines ++ l.back)) (own_moved.spans ++ back_moved.spans)
        (border_apart (chars l.front) (chars (new_lines ++ l.back)) new_begins) cut_first.left
        (subst (λ cs. HasTokens fixed cs place (own_moved.spans ++ back_moved.spans)) (sym (chars-append new_lines l.back lines_utf8))
        (joined_tokens fixed (chars new_lines) place own_moved.spans (chars l.back) back_moved.spans
        (border_apart (chars new_lines) (chars l.back) (last_border new_lines l.back l.ends)) own_moved.are back_moved.are)))

    -- sizes
    front_size : bytes_of (chars l.front) ≡ length l.front
    front_size = size_of l.front l.front_utf8

    new_size : bytes_of (chars new_lines) ≡ length new_lines
    new_size = size_of new_lines lines_utf8

    old_size : bytes_of (chars old_lines) ≡ length old_lines
    old_size = size_of old_lines old_utf8

    text_size : length text ≡ length l.front + (length old_lines + length l.back)
    text_size =
        ap length old_seam ∙ length-append l.front (old_lines ++ l.back) ∙ ap (λ n. length l.front + n) (length-append old_lines l.back)

    edited_size : length (edited e text) ≡ length l.front + (length new_lines + length l.back)
    edited_size =
        ap length new_seam ∙ length-append l.front (new_lines ++ l.back) ∙ ap (λ n. length l.front + n) (length-append new_lines l.back)

    start_size : e.start ≡ length l.front + length before
    start_size = sym (taken e.start text (omega (arith, inside.ordered, inside.within))) ∙ ap length l.first ∙ length-append l.front before where
      taken : (n : ℕ) (xs : List ℕ) → n ≤ length xs → length (take n xs) ≡ n
      taken zero xs h = refl
      taken (suc n) [] h = absurd (omega (arith, h))
      taken (suc n) (x ∷ xs) h = ap (λ k. suc k) (taken n xs (omega (arith, h)))

    end_size : length text ≡ e.end + (length behind + length l.back)
    end_size =
        ap length (halves e.end text) ∙ length-append (take e.end text) (drop e.end text)
        ∙ ap (λ n. n + length (drop e.end text)) (taken e.end text inside.within)
        ∙ ap (λ n. e.end + n) (ap length l.last ∙ length-append behind l.back) where
          taken : (n : ℕ) (xs : List ℕ) → n ≤ length xs → length (take n xs) ≡ n
          taken zero xs h = refl
          taken (suc n) [] h = absurd (omega (arith, h))
          taken (suc n) (x ∷ xs) h = ap (λ k. suc k) (taken n xs (omega (arith, h)))

    lines_size : length new_lines ≡ length before + (length e.new + length behind)
    lines_size = length-append before (e.new ++ behind) ∙ ap (λ n. length before + n) (length-append e.new behind)

    -- the parts
    front_ends : AllByRecursion (λ (t : Spanned). t.end ≤ 0 + bytes_of (chars l.front)) cut_first.front
    front_ends = ends_within fixed (chars l.front) 0 cut_first.front cut_first.left

    own_ends : AllByRecursion (λ (t : Spanned). t.end ≤ place + bytes_of (chars new_lines)) own_moved.spans
    own_ends = ends_within fixed (chars new_lines) place own_moved.spans own_moved.are

    own_starts : AllByRecursion (λ (t : Spanned). place ≤ t.start) own_moved.spans
    own_starts = starts_within fixed (chars new_lines) place own_moved.spans own_moved.are

    back_starts : AllByRecursion (λ (t : Spanned). place + bytes_of (chars new_lines) ≤ t.start) back_moved.spans
    back_starts = starts_within fixed (chars l.back) (place + bytes_of (chars new_lines)) back_moved.spans back_moved.are

    parts : (n : ℕ) → AllByRecursion (IsBeside n) cut_first.front → AllByRecursion (IsBeside n) own_moved.spans
        → AllByRecursion (IsBeside n) back_moved.spans → AllByRecursion (IsBeside n) all
    unfolding all
    parts n a b c =
        all_both (IsBeside n) cut_first.front (own_moved.spans ++ back_moved.spans) a
        (all_both (IsBeside n) own_moved.spans back_moved.spans b c)

    own_part : (n : ℕ) → AllByRecursion (IsBeside n) all → AllByRecursion (IsBeside n) own_moved.spans
    unfolding all
    own_part n h =
        all_first (IsBeside n) own_moved.spans back_moved.spans
        (all_last (IsBeside n) cut_first.front (own_moved.spans ++ back_moved.spans) h)

    old_front : (n : ℕ) → AllByRecursion (IsBeside n) old → AllByRecursion (IsBeside n) cut_first.front
    old_front n h =
        all_first (IsBeside n) cut_first.front cut_first.back (subst (AllByRecursion (IsBeside n)) cut_first.whole h)

    old_back : (n : ℕ) → AllByRecursion (IsBeside n) old → AllByRecursion (IsBeside n) cut_last.back
    old_back n h =
        all_last (IsBeside n) cut_last.front cut_last.back
        (subst (AllByRecursion (IsBeside n)) cut_last.whole
        (all_last (IsBeside n) cut_first.front cut_first.back (subst (AllByRecursion (IsBeside n)) cut_first.whole h)))

    lines_start : AllByRecursion (λ (t : Spanned). 0 ≤ t.start) lines
    lines_start = starts_within fixed (chars new_lines) 0 lines lines_are

    lines_end : AllByRecursion (λ (t : Spanned). t.end ≤ 0 + bytes_of (chars new_lines)) lines
    lines_end = ends_within fixed (chars new_lines) 0 lines lines_are

    to_start : (start : ℕ) → start ≤ e.start → AllByRecursion (IsBeside start) old
        → AllByRecursion (IsBeside (length before - (e.start - start))) lines → AllByRecursion (IsBeside start) all
    to_start start h old_beside beside = by (length before - (e.start - start)) refl beside where
      by : (n : ℕ) → length before - (e.start - start) ≡ n → AllByRecursion (IsBeside n) lines
          → AllByRecursion (IsBeside start) all
      by zero is b =
          parts start (old_front start old_beside)
          (beside_start start place (omega (arith, is, start_size, front_size, h)) own_moved.spans own_starts)
          (beside_start start (place + bytes_of (chars new_lines)) (omega (arith, is, start_size, front_size, h)) back_moved.spans back_starts)
      by (suc n) is b =
          parts start (beside_end start (0 + bytes_of (chars l.front)) (omega (arith, is, start_size, front_size, h)) cut_first.front front_ends)
          (own_moved.to (suc n) start (omega (arith, is, start_size, front_size, h)) b)
          (beside_start start (place + bytes_of (chars new_lines)) (omega (arith, start_size, front_size, new_size, lines_size, h)) back_moved.spans back_starts)

    from_start : (start : ℕ) → start ≤ e.start → AllByRecursion (IsBeside start) all
        → AllByRecursion (IsBeside (length before - (e.start - start))) lines
    from_start start h beside = by (length before - (e.start - start)) refl where
      by : (n : ℕ) → length before - (e.start - start) ≡ n → AllByRecursion (IsBeside n) lines
      by zero is = beside_start 0 0 (omega arith) lines lines_start
      by (suc n) is = own_moved.from (suc n) start (omega (arith, is, start_size, front_size, h)) (own_part start beside)

    to_end : (end new : ℕ) → e.end ≤ end → end ≤ length text → length (edited e text) + end ≡ new + length text
        → AllByRecursion (IsBeside end) old
        → AllByRecursion (IsBeside (length new_lines - (length behind - (end - e.end)))) lines → AllByRecursion (IsBeside new) all
    to_end end new h within is old_beside beside = by (length behind - (end - e.end)) refl beside where
      by : (n : ℕ) → length behind - (end - e.end) ≡ n → AllByRecursion (IsBeside (length new_lines - n)) lines
          → AllByRecursion (IsBeside new) all
      by zero k b =
          parts new
          (beside_end new (0 + bytes_of (chars l.front)) (omega (arith, k, is, h, within, front_size, edited_size, text_size, end_size)) cut_first.front front_ends)
          (beside_end new (place + bytes_of (chars new_lines)) (omega (arith, k, is, h, within, front_size, new_size, edited_size, text_size, end_size)) own_moved.spans own_ends)
          (back_moved.to end new (omega (arith, is, front_size, new_size, old_size, edited_size, text_size)) (old_back end old_beside))
      by (suc n) k b =
          parts new
          (beside_end new (0 + bytes_of (chars l.front)) (omega (arith, k, is, h, within, front_size, lines_size, edited_size, text_size, end_size)) cut_first.front front_ends)
          (own_moved.to (length new_lines - suc n) new (omega (arith, k, is, h, within, front_size, lines_size, edited_size, text_size, end_size)) b)
          (beside_start new (place + bytes_of (chars new_lines)) (omega (arith, k, is, h, within, front_size, new_size, edited_size, text_size, end_size)) back_moved.spans back_starts)

    from_end : (end new : ℕ) → e.end ≤ end → end ≤ length text → length (edited e text) + end ≡ new + length text
        → AllByRecursion (IsBeside new) all
        → AllByRecursion (IsBeside (length new_lines - (length behind - (end - e.end)))) lines
    from_end end new h within is beside = by (length behind - (end - e.end)) refl where
      by : (n : ℕ) → length behind - (end - e.end) ≡ n → AllByRecursion (IsBeside (length new_lines - n)) lines
      by zero k = beside_end (length new_lines - 0) (0 + bytes_of (chars new_lines)) (omega (arith, new_size)) lines lines_end
      by (suc n) k =
          own_moved.from (length new_lines - suc n) new (omega (arith, k, is, h, within, front_size, lines_size, edited_size, text_size, end_size))
          (own_part new beside)

    pub whole : IsWhole old lines
    whole = record {
      tokens = all;
      are = all_are;
      start_to = to_start;
      start_from = from_start;
      end_to = to_end;
      end_from = from_end;
    }
