-- Cells that fit into rows.
use Rattle.std.proofs.Common.{◌≡◌, ℕ, zero, suc, ◌+◌, ◌-◌, ◌*◌, ◌%◌, ◌<◌, ◌≤◌, Bool, true, false, List, [], ◌∷◌, ◌++◌, length, replicate, refl, sym, ap, ◌∙◌, arith, inl, inr, subst, Some}
use Rattle.std.specs.Prelude.{not, ◌||◌, ◌&&◌, ◌==◌}
use Rattle.std.proofs.Math.Nat.{mod-add-mod, mod-le, zero-mod, add-mul-mod_self_right}
use Rattle.std.proofs.lemmas.Bool.{true≢false, and_parts, and_from, or_cases, eqb-true, ne_eqb}
use Rattle.std.proofs.lemmas.Nat.{mod_below}
use Rattle.std.proofs.lemmas.Grind.{flat_map-append}
use Rattle.std.proofs.lemmas.List.{length-append}
use Rattle.unicode_width.specs.Width.{char_width}
use Rattle.psg_canvas.specs.Cells.{Slot, rest, cell_of, columns, columns_of, width_of, width_of_text, is_cell, is_mark, is_left_out, are_marks, AreCells}
use Rattle.psg_canvas.specs.declared.style.Style.{Style}
use Rattle.psg_canvas.specs.Terminal.{is_loose}
use Rattle.psg_canvas.specs.Sketching.{joined}
use Rattle.psg_canvas.proofs.LeftLaws.{AreStarts, length_columns}

-- ---- one cell

has_text : (text : List ℕ) → is_cell text ≡ true → (length text == 0) ≡ false
has_text [] h = absurd (true≢false (sym h))
has_text (c ∷ marks) h = ne_eqb (length (c ∷ marks)) 0 (λ e. omega (arith, e))

pub cell_starts : (cell : Slot) → is_cell cell.text ≡ true → is_loose (Some cell) ≡ false
cell_starts cell h = has_text cell.text h

pub has_width : (text : List ℕ) → is_cell text ≡ true → 0 < width_of_text text
has_width [] h = absurd (true≢false (sym h))
has_width (c ∷ marks) h =
    let wide : ((width_of c == 1) || (width_of c == 2)) ≡ true =
    (and_parts ((width_of c == 1) || (width_of c == 2)) (not (is_left_out c))
    (and_parts (((width_of c == 1) || (width_of c == 2)) && not (is_left_out c)) (are_marks marks) h).0).0 in
    elim (or_cases (width_of c == 1) (width_of c == 2) wide) [
      | inl one ↦ let e : width_of c ≡ 1 = eqb-true (width_of c) 1 one in omega (arith, e)
      | inr two ↦ let e : width_of c ≡ 2 = eqb-true (width_of c) 2 two in omega (arith, e)
    ]

pub cell_long : (cell : Slot) → is_cell cell.text ≡ true → length (columns_of cell) ≡ width_of_text cell.text
cell_long cell h = length_columns cell (width_of_text cell.text) refl (has_width cell.text h)

-- ---- a mark more

marks_push : (marks : List ℕ) (mark : ℕ) → is_mark mark ≡ true → is_left_out mark ≡ false → are_marks marks ≡ true
    → are_marks (marks ++ mark ∷ []) ≡ true
marks_push [] mark is kept h =
    ap (λ b. b && not (is_left_out mark) && true) is ∙ ap (λ b. true && not b && true) kept
marks_push (c ∷ marks) mark is kept h =
    let parts : ((is_mark c && not (is_left_out c)) ≡ true) × (are_marks marks ≡ true) =
    and_parts (is_mark c && not (is_left_out c)) (are_marks marks) h in
    and_from (is_mark c && not (is_left_out c)) (are_marks (marks ++ mark ∷ [])) parts.0 (marks_push marks mark is kept parts.1)

pub cell_push : (text : List ℕ) (mark : ℕ) → is_mark mark ≡ true → is_left_out mark ≡ false → is_cell text ≡ true
    → is_cell (text ++ mark ∷ []) ≡ true
cell_push [] mark is kept h = absurd (true≢false (sym h))
cell_push (c ∷ marks) mark is kept h =
    let head : Bool = ((width_of c == 1) || (width_of c == 2)) && not (is_left_out c) in
    let parts : (head ≡ true) × (are_marks marks ≡ true) = and_parts head (are_marks marks) h in
    and_from head (are_marks (marks ++ mark ∷ [])) parts.0 (marks_push marks mark is kept parts.1)

width_push : (text : List ℕ) (mark : ℕ) → is_cell text ≡ true → width_of_text (text ++ mark ∷ []) ≡ width_of_text text
width_push [] mark h = absurd (true≢false (sym h))
width_push (c ∷ marks) mark h = refl

pub joined_fit : (cols start mark : ℕ) (row : List Slot) → is_mark mark ≡ true → is_left_out mark ≡ false → AreCells cols start row
    → AreCells cols start (joined mark row)
joined_fit cols start mark [] is kept fit = tt
joined_fit cols start mark (cell ∷ []) is kept fit = (
  cell_push cell.text mark is kept fit.0,
  subst (λ w. start + w ≤ cols) (sym (width_push cell.text mark fit.0)) fit.1,
  tt,
)
joined_fit cols start mark (cell ∷ (next ∷ cells)) is kept fit = (
  fit.0,
  fit.1,
  joined_fit cols ((start + width_of_text cell.text) % cols) mark (next ∷ cells) is kept fit.2,
)

pub joined_long : (cols start mark : ℕ) (row : List Slot) → is_mark mark ≡ true → is_left_out mark ≡ false → AreCells cols start row
    → length (columns (joined mark row)) ≡ length (columns row)
joined_long cols start mark [] is kept fit = refl
joined_long cols start mark (cell ∷ []) is kept fit =
    let more : Slot = record { text = cell.text ++ mark ∷ []; style = cell.style } in
    length-append (columns_of more) []
    ∙ ap (λ n. n + 0)
    (cell_long more (cell_push cell.text mark is kept fit.0) ∙ width_push cell.text mark fit.0 ∙ sym (cell_long cell fit.0))
    ∙ sym (length-append (columns_of cell) [])
joined_long cols start mark (cell ∷ (next ∷ cells)) is kept fit =
    length-append (columns_of cell) (columns (joined mark (next ∷ cells)))
    ∙ ap (λ n. length (columns_of cell) + n)
    (joined_long cols ((start + width_of_text cell.text) % cols) mark (next ∷ cells) is kept fit.2)
    ∙ sym (length-append (columns_of cell) (columns (next ∷ cells)))

-- ---- rows after each other

pub starts_of : (cols start : ℕ) (cells : List Slot) → AreCells cols start cells → AreStarts cells
starts_of cols start [] fit = tt
starts_of cols start (cell ∷ cells) fit =
    (cell_starts cell fit.0, starts_of cols ((start + width_of_text cell.text) % cols) cells fit.2)

pub columns_append : (xs ys : List Slot) → columns (xs ++ ys) ≡ columns xs ++ columns ys
columns_append xs ys = flat_map-append columns_of xs ys

pub fits_after : (cols place : ℕ) (xs ys : List Slot) → AreCells cols (place % cols) xs
    → AreCells cols ((place + length (columns xs)) % cols) ys → AreCells cols (place % cols) (xs ++ ys)
fits_after cols place [] ys fit after =
    let e : place + 0 ≡ place = omega arith in subst (λ n. AreCells cols (n % cols) ys) e after
fits_after cols place (cell ∷ xs) ys fit after =
    let w : ℕ = width_of_text cell.text in
    let turn : (place % cols + w) % cols ≡ (place + w) % cols = mod-add-mod place cols w in
    let long : length (columns_of cell ++ columns xs) ≡ w + length (columns xs) =
    length-append (columns_of cell) (columns xs) ∙ ap (λ n. n + length (columns xs)) (cell_long cell fit.0) in
    let far : place + length (columns_of cell ++ columns xs) ≡ place + w + length (columns xs) = omega (arith, long) in
    let inner : AreCells cols ((place + w) % cols) (xs ++ ys) =
    fits_after cols (place + w) xs ys (subst (λ n. AreCells cols n xs) turn fit.2) (subst (λ n. AreCells cols (n % cols) ys) far after) in
    (fit.0, fit.1, subst (λ n. AreCells cols n (xs ++ ys)) (sym turn) inner)

-- the same from the beginning of a row
pub fits_first : (cols : ℕ) (xs ys : List Slot) → AreCells cols 0 xs → AreCells cols (length (columns xs) % cols) ys
    → AreCells cols 0 (xs ++ ys)
fits_first cols xs ys fit after =
    let none : 0 % cols ≡ 0 = zero-mod cols in
    let same : length (columns xs) ≡ 0 + length (columns xs) = omega arith in
    subst (λ n. AreCells cols n (xs ++ ys)) none
    (fits_after cols 0 xs ys (subst (λ n. AreCells cols n xs) (sym none) fit) (subst (λ n. AreCells cols (n % cols) ys) same after))

pub row_push : (cols : ℕ) (row : List Slot) (cell : Slot) → AreCells cols 0 row → is_cell cell.text ≡ true
    → length (columns row) + width_of_text cell.text ≤ cols → AreCells cols 0 (row ++ cell ∷ [])
row_push cols row cell fit is low =
    let le : length (columns row) % cols ≤ length (columns row) = mod-le (length (columns row)) cols in
    let room : length (columns row) % cols + width_of_text cell.text ≤ cols = omega (arith, le, low) in
    fits_first cols row (cell ∷ []) fit (is, room, tt)

pub long_push : (row : List Slot) (cell : Slot) → is_cell cell.text ≡ true
    → length (columns (row ++ cell ∷ [])) ≡ length (columns row) + width_of_text cell.text
long_push row cell is =
    let one : length (columns (cell ∷ [])) ≡ length (columns_of cell) + 0 = length-append (columns_of cell) [] in
    let both : length (columns row ++ columns (cell ∷ [])) ≡ length (columns row) + length (columns (cell ∷ [])) =
    length-append (columns row) (columns (cell ∷ [])) in
    let w : length (columns_of cell) ≡ width_of_text cell.text = cell_long cell is in
    ap length (columns_append row (cell ∷ [])) ∙ (let e : length (columns row ++ columns (cell ∷ [])) ≡ length (columns row) + width_of_text cell.text = omega (arith, one, both, w) in e)

-- ---- spaces

pub space_width : width_of 32 ≡ 1
unfolding width_of char_width
space_width = refl

pub space_is : is_cell (32 ∷ []) ≡ true
space_is = ap (λ w. ((w == 1) || (w == 2)) && not (is_left_out 32) && true) space_width

pub columns_spaces : (n : ℕ) (style : Style) → columns (replicate n (cell_of 32 style)) ≡ replicate n (cell_of 32 style)
columns_spaces zero style = refl
columns_spaces (suc n) style =
    ap (λ w. (cell_of 32 style ∷ replicate (w - 1) rest) ++ columns (replicate n (cell_of 32 style))) space_width
    ∙ ap (λ xs. cell_of 32 style ∷ xs) (columns_spaces n style)

pub spaces_fit : (cols place n : ℕ) (style : Style) → 0 < cols → AreCells cols (place % cols) (replicate n (cell_of 32 style))
spaces_fit cols place zero style some = tt
spaces_fit cols place (suc n) style some =
    let below : place % cols < cols = mod_below place cols some in
    let room : place % cols + width_of 32 ≤ cols = omega (arith, below, space_width) in
    let turn : (place + 1) % cols ≡ (place % cols + width_of 32) % cols =
    sym (mod-add-mod place cols 1) ∙ ap (λ w. (place % cols + w) % cols) (sym space_width) in
    (space_is, room, subst (λ m. AreCells cols m (replicate n (cell_of 32 style))) turn (spaces_fit cols (place + 1) n style some))

-- the end of a row is the beginning of one
pub row_turns : (cols lines : ℕ) → (lines * cols) % cols ≡ 0
row_turns cols lines =
    let e : lines * cols ≡ 0 + lines * cols = omega arith in
    ap (λ n. n % cols) e ∙ add-mul-mod_self_right 0 lines cols ∙ zero-mod cols
