-- That the chosen place is shown, and the walks that find its line and its columns.
use Rattle.std.proofs.Common.{◌≡◌, ◌⊎◌, ℕ, suc, ◌+◌, ◌-◌, ◌/◌, ◌^◌, ◌<◌, ◌≤◌, min, Bool, true, false, cond, List, [], ◌∷◌, ◌++◌, length, refl, ap, ◌∙◌, arith, inl, inr, encode_utf8_all}
use Rattle.std.specs.Prelude.{◌&&◌, encode_utf8, nat_lt, nat_le}
use Rattle.std.specs.Char.{len_utf8}
use Rattle.std.specs.List.{count_by}
use Rattle.std.proofs.lemmas.Bool.{cases_lt, leb-true, leb-false, ltb-false}
use Rattle.std.proofs.lemmas.List.{length-append}
use Rattle.std.proofs.lemmas.List.Sums.{sum_by-cons}
use Rattle.psg_screen.specs.declared.View.{View}
use Rattle.psg_screen.specs.Window.{width_of}
use Rattle.psg_picture.specs.Scrolling.{IsSeen, columns_between, end_column, first_column, is_feed, left_after, line_of, margin, scrolled_of, text_rows, top_after}
use Rattle.psg_picture.proofs.MarkedLaws.{encoded-push}

-- ---- the chosen place is shown

abbrev IsTop : ℕ → ℕ → ℕ → Type 0
IsTop rows line top = (top ≤ line) × (line < top + rows)

margin_below : (rows : ℕ) → 1 ≤ rows → margin rows < rows
margin_below rows some = let e : rows / 6 < rows = omega (arith, some) in e

top_second : (rows top line : ℕ) → 1 ≤ rows → top + margin rows ≤ line → (b : Bool) → nat_le (top + rows) (line + margin rows) ≡ b
    → IsTop rows line (cond b (line - (rows - margin rows - 1)) top)
top_second rows top line some low true test =
    let le : top + rows ≤ line + margin rows = leb-true (top + rows) (line + margin rows) test in
    (omega arith, omega (arith, some, margin_below rows some, le))
top_second rows top line some low false test =
    let lt : line + margin rows < top + rows = leb-false (top + rows) (line + margin rows) test in
    (omega (arith, low), omega (arith, lt))

top_first : (rows top line : ℕ) → 1 ≤ rows → (b : Bool) → nat_lt line (top + margin rows) ≡ b
    → IsTop rows line (cond b (line - margin rows) (cond (nat_le (top + rows) (line + margin rows)) (line - (rows - margin rows - 1)) top))
top_first rows top line some true test = (omega arith, omega (arith, some, margin_below rows some))
top_first rows top line some false test =
    top_second rows top line some (ltb-false line (top + margin rows) test) (nat_le (top + rows) (line + margin rows)) refl

top_seen : (rows top line : ℕ) → 1 ≤ rows → IsTop rows line (top_after rows top line)
top_seen rows top line some = top_first rows top line some (nat_lt line (top + margin rows)) refl

abbrev IsLeft : ℕ → ℕ → ℕ → ℕ → Type 0
IsLeft cols start end left = (left ≤ start) × ((end ≤ left + cols) ⊎ ((left ≡ start) × (start + cols < end)))

left_least : (cols start end : ℕ) → IsLeft cols start end (min start (end - cols))
left_least cols start end = elim (cases_lt (start + cols) end) [
  | inl wide ↦ let e : min start (end - cols) ≡ start = omega (arith, wide) in (omega (arith, e), inr (e, wide))
  | inr fits ↦ (omega arith, inl (omega (arith, fits)))
]

left_start : (cols start end : ℕ) → IsLeft cols start end start
left_start cols start end = elim (cases_lt (start + cols) end) [
  | inl wide ↦ (omega arith, inr (refl, wide))
  | inr fits ↦ (omega arith, inl fits)
]

left_third : (cols left start end : ℕ) → left ≤ start → (b : Bool) → nat_lt (left + cols) end ≡ b
    → IsLeft cols start end (cond b (min start (end - cols)) left)
left_third cols left start end low true test = left_least cols start end
left_third cols left start end low false test = (low, inl (ltb-false (left + cols) end test))

left_second : (cols left start end : ℕ) → (b : Bool) → nat_lt start left ≡ b
    → IsLeft cols start end (cond b start (cond (nat_lt (left + cols) end) (min start (end - cols)) left))
left_second cols left start end true test = left_start cols start end
left_second cols left start end false test = left_third cols left start end (ltb-false start left test) (nat_lt (left + cols) end) refl

left_first : (cols left start end : ℕ) → (b : Bool) → nat_le end cols ≡ b
    → IsLeft cols start end (cond b 0 (cond (nat_lt start left) start (cond (nat_lt (left + cols) end) (min start (end - cols)) left)))
left_first cols left start end true test =
    let le : end ≤ cols = leb-true end cols test in (omega arith, inl (omega (arith, le)))
left_first cols left start end false test = left_second cols left start end (nat_lt start left) refl

left_seen : (cols left start end : ℕ) → IsLeft cols start end (left_after cols left start end)
left_seen cols left start end = left_first cols left start end (nat_le end cols) refl

pub scrolled_seen : (view : View) (text : List ℕ) (chosen : ℕ × ℕ)
    → IsSeen (text_rows view) (scrolled_of view text chosen) (line_of text chosen.0) (first_column text chosen) (end_column text chosen)
scrolled_seen view text chosen =
    let some : 1 ≤ text_rows view = omega arith in
    let top = top_seen (text_rows view) view.top (line_of text chosen.0) some in
    let left = left_seen view.cols view.left (first_column text chosen) (end_column text chosen) in
    record { above = top.0; below = top.1; left = left.0; right = left.1 }

-- ---- the walks

pub feed-next : (line next b : ℕ) (bytes whole : List ℕ) → next ≡ min (line + cond (is_feed b) 1 0) (2 ^ 32 - 1)
    → min (line + count_by is_feed (b ∷ bytes)) (2 ^ 32 - 1) ≡ min (count_by is_feed whole) (2 ^ 32 - 1)
    → min (next + count_by is_feed bytes) (2 ^ 32 - 1) ≡ min (count_by is_feed whole) (2 ^ 32 - 1)
feed-next line next b bytes whole now held =
    let e : count_by is_feed (b ∷ bytes) ≡ cond (is_feed b) 1 0 + count_by is_feed bytes = sum_by-cons (λ x. cond (is_feed x) 1 0) b bytes in
    omega (arith, e, now, held)

pub feed-end : (line : ℕ) (bytes whole : List ℕ) → length bytes ≡ 0 → line ≤ 2 ^ 32 - 1
    → min (line + count_by is_feed bytes) (2 ^ 32 - 1) ≡ min (count_by is_feed whole) (2 ^ 32 - 1)
    → line ≡ min (count_by is_feed whole) (2 ^ 32 - 1)
feed-end line [] whole none low held = let z : count_by is_feed [] ≡ 0 = refl in omega (arith, z, low, held)
feed-end line (b ∷ bytes) whole none low held = absurd (let f : suc (length bytes) ≡ 0 = none in omega (arith, f))

between-push : (from to byte : ℕ) (cs : List ℕ) (c : ℕ)
    → columns_between from to byte (cs ++ c ∷ [])
    ≡ columns_between from to byte cs
    + cond (nat_le from (byte + length (encode_utf8_all cs)) && nat_lt (byte + length (encode_utf8_all cs)) to) (width_of c) 0
between-push from to byte [] c =
    let e : byte ≡ byte + length (encode_utf8_all []) = (let f : byte ≡ byte + 0 = omega arith in f) in
    let z : cond (nat_le from byte && nat_lt byte to) (width_of c) 0 + 0 ≡ 0 + cond (nat_le from byte && nat_lt byte to) (width_of c) 0 = omega arith in
    z ∙ ap (λ n. 0 + cond (nat_le from n && nat_lt n to) (width_of c) 0) e
between-push from to byte (x ∷ cs) c =
    let next : ℕ = byte + length (encode_utf8 x) in
    let w : ℕ = cond (nat_le from byte && nat_lt byte to) (width_of x) 0 in
    let e : next + length (encode_utf8_all cs) ≡ byte + length (encode_utf8_all (x ∷ cs)) =
    (let long : length (encode_utf8_all (x ∷ cs)) ≡ length (encode_utf8 x) + length (encode_utf8_all cs) =
    length-append (encode_utf8 x) (encode_utf8_all cs) in omega (arith, long)) in
    let ih = between-push from to next cs c in
    ap (λ n. w + n) ih
    ∙ ap (λ n. w + (columns_between from to next cs + cond (nat_le from n && nat_lt n to) (width_of c) 0)) e
    ∙ (let f : w + (columns_between from to next cs + cond (nat_le from (byte + length (encode_utf8_all (x ∷ cs))) && nat_lt (byte + length (encode_utf8_all (x ∷ cs))) to) (width_of c) 0)
    ≡ w + columns_between from to next cs + cond (nat_le from (byte + length (encode_utf8_all (x ∷ cs))) && nat_lt (byte + length (encode_utf8_all (x ∷ cs))) to) (width_of c) 0 = omega arith in f)

-- what the walk over a text has behind these characters of it
pub record IsCounted (from to : ℕ) (cs : List ℕ) (column byte : ℕ) : Type 0 where
  pub columns : column ≡ min (columns_between from to 0 cs) (2 ^ 32 - 1)
  pub place : byte ≡ length (encode_utf8_all cs)

pub IsCounted-init : (from to : ℕ) → IsCounted from to [] 0 0
IsCounted-init from to = record { columns = omega arith; place = refl }

pub IsCounted-step : (from to : ℕ) (cs : List ℕ) (column byte c more next : ℕ) → IsCounted from to cs column byte
    → more ≡ min (column + cond (nat_le from byte && nat_lt byte to) (width_of c) 0) (2 ^ 32 - 1) → next ≡ byte + len_utf8 c
    → IsCounted from to (cs ++ c ∷ []) more next
IsCounted-step from to cs column byte c more next is now moved =
    let at : byte ≡ 0 + length (encode_utf8_all cs) = is.place ∙ (let f : length (encode_utf8_all cs) ≡ 0 + length (encode_utf8_all cs) = omega arith in f) in
    let same : cond (nat_le from byte && nat_lt byte to) (width_of c) 0
    ≡ cond (nat_le from (0 + length (encode_utf8_all cs)) && nat_lt (0 + length (encode_utf8_all cs)) to) (width_of c) 0 =
    ap (λ n. cond (nat_le from n && nat_lt n to) (width_of c) 0) at in
    let pushed = between-push from to 0 cs c in
    record {
      columns = omega (arith, is.columns, now, same, pushed);
      place = omega (arith, is.place, moved, encoded-push cs c);
    }
