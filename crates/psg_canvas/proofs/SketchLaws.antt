-- What is true of a sketch after each step, and that a finished one is a picture.
use Rattle.std.proofs.Common.{◌≡◌, ℕ, zero, suc, ◌+◌, ◌-◌, ◌*◌, ◌%◌, ◌<◌, ◌≤◌, Bool, true, false, List, [], ◌∷◌, ◌++◌, length, replicate, refl, sym, ap, ◌∙◌, arith, subst, append_assoc, get_or, Option, Some, None}
use Rattle.std.specs.Prelude.{not, ◌||◌, ◌&&◌, ◌==◌, nat_lt, nat_le, if◌then◌else◌, IfSome}
use Rattle.std.proofs.Math.Nat.{mul_comm, mul-zero, lt_of_mul-lt-mul_right, mul-le-mul_right}
use Rattle.std.proofs.lemmas.Bool.{and_parts, ltb-true, leb-true}
use Rattle.std.proofs.lemmas.Nat.{mul-add-lt}
use Rattle.std.proofs.lemmas.List.{length-append, length-replicate, replicate_more, flat_map_more}
use Rattle.std.proofs.Math.ListN.{set}
use Rattle.psg_canvas.specs.Cells.{Slot, Picture, IsPicture, AreRows, AreCells, plain, blank, rest, cell_of, columns, columns_of, width_of, width_of_text, is_cell, is_mark, is_left_out}
use Rattle.psg_canvas.specs.declared.style.Style.{Style}
use Rattle.psg_canvas.specs.Sketching.{Sketched, IsSketch, empty_sketch, has_room, joined, row_after, with_row, ended, with_row_end, place_of, filled_up, finished}
use Rattle.psg_canvas.proofs.RowLaws.{joined_fit, joined_long, fits_first, row_push, long_push, columns_append, columns_spaces, spaces_fit, row_turns}

pub empty_is : (rows cols : ℕ) → IsSketch (empty_sketch rows cols)
empty_is rows cols = record {
  whole = record { cells = []; made = refl; fit = tt };
  lines = 0;
  full = omega arith;
  within = omega arith;
  fit = tt;
  narrow = omega arith;
}

-- ---- a row

record IsRow (cols : ℕ) (row : List Slot) : Type 0 where
  pub fit : AreCells cols 0 row
  pub narrow : length (columns row) ≤ cols

-- a character that has room is a cell
one_cell : (cols column c : ℕ) → is_left_out c ≡ false → has_room cols column c ≡ true
    → (is_cell (c ∷ []) ≡ true) × (column + width_of c ≤ cols)
one_cell cols column c kept room =
    let wide : Bool = (width_of c == 1) || (width_of c == 2) in
    let parts : (wide ≡ true) × (nat_le (column + width_of c) cols ≡ true) = and_parts wide (nat_le (column + width_of c) cols) room in (
      ap (λ b. b && not (is_left_out c) && true) parts.0 ∙ ap (λ b. true && not b && true) kept,
      leb-true (column + width_of c) cols parts.1,
    )

row_is : (cols : ℕ) (row : List Slot) (c : ℕ) (style : Style) → IsRow cols row → IsRow cols (row_after cols row c style)
row_is cols row c style is = by_left_out (is_left_out c) refl
  where
    by_room : (b : Bool) → is_left_out c ≡ false → has_room cols (length (columns row)) c ≡ b
        → IsRow cols (if b then row ++ cell_of c style ∷ [] else row)
    by_room true kept room =
        let one : (is_cell (c ∷ []) ≡ true) × (length (columns row) + width_of c ≤ cols) = one_cell cols (length (columns row)) c kept room in
        let long : length (columns (row ++ cell_of c style ∷ [])) ≡ length (columns row) + width_of c =
        long_push row (cell_of c style) one.0 in
        record { fit = row_push cols row (cell_of c style) is.fit one.0 one.1; narrow = omega (arith, long, one.1) }
    by_room false kept room = is

    by_mark : (b : Bool) → is_left_out c ≡ false → is_mark c ≡ b
        → IsRow cols (if b then joined c row else if has_room cols (length (columns row)) c then row ++ cell_of c style ∷ [] else row)
    by_mark true kept mark =
        let long : length (columns (joined c row)) ≡ length (columns row) = joined_long cols 0 c row mark kept is.fit in
        record { fit = joined_fit cols 0 c row mark kept is.fit; narrow = omega (arith, long, is.narrow) }
    by_mark false kept mark = by_room (has_room cols (length (columns row)) c) kept refl

    by_left_out : (b : Bool) → is_left_out c ≡ b
        → IsRow cols (if b then row else if is_mark c then joined c row else if has_room cols (length (columns row)) c then row ++ cell_of c style ∷ [] else row)
    by_left_out true out = is
    by_left_out false kept = by_mark (is_mark c) kept refl

pub char_is : (s : Sketched) (c : ℕ) (style : Style) (row : List Slot) → IsSketch s → row ≡ row_after s.cols s.row c style
    → let next : Sketched = record s { row = row } in IsSketch next
char_is s c style row is e =
    let before : IsRow s.cols s.row = record { fit = is.fit; narrow = is.narrow } in
    let after : IsRow s.cols row = subst (IsRow s.cols) (sym e) (row_is s.cols s.row c style before) in
    record { whole = is.whole; lines = is.lines; full = is.full; within = is.within; fit = after.fit; narrow = after.narrow }

-- the columns of the row after the character
pub char_columns : (cols : ℕ) (row : List Slot) (c : ℕ) (style : Style) → is_left_out c ≡ false
    → has_room cols (length (columns row)) c ≡ true
    → length (columns (row ++ cell_of c style ∷ [])) ≡ length (columns row) + width_of c
char_columns cols row c style kept room =
    long_push row (cell_of c style) (one_cell cols (length (columns row)) c kept room).0

pub mark_columns : (cols : ℕ) (row : List Slot) (c : ℕ) → is_left_out c ≡ false → is_mark c ≡ true → AreCells cols 0 row
    → length (columns (joined c row)) ≡ length (columns row)
mark_columns cols row c kept mark fit = joined_long cols 0 c row mark kept fit

-- ---- the end of a row

-- rows that are ended
pub record AreEnded (rows cols : ℕ) (above : List Slot) : Type 0 where
  pub whole : AreRows cols above
  pub lines : ℕ
  pub full : length above ≡ lines * cols
  pub within : lines ≤ rows

row_above : (rows cols left lines : ℕ) (style : Style) (above row : List Slot) → AreRows cols above → length above ≡ lines * cols
    → length above < rows * cols → AreCells cols 0 row → length (columns row) + left ≡ cols
    → AreEnded rows cols (above ++ columns row ++ replicate left (cell_of 32 style))
row_above rows cols left lines style above row whole full below fit count = record {
  whole = record { cells = (whole.cells ++ row) ++ spaces; made = made; fit = fits };
  lines = lines + 1;
  full = long;
  within = let h : lines < rows = lt_of_mul-lt-mul_right cols (let e : lines * cols < rows * cols = omega (arith, full, below) in e) in omega (arith, h);
}
  where
    spaces : List Slot
    spaces = replicate left (cell_of 32 style)

    made : above ++ columns row ++ replicate left (cell_of 32 style) ≡ columns ((whole.cells ++ row) ++ replicate left (cell_of 32 style))
    made =
        ap (λ xs. xs ++ columns row ++ replicate left (cell_of 32 style)) whole.made
        ∙ ap (λ xs. xs ++ replicate left (cell_of 32 style)) (sym (columns_append whole.cells row))
        ∙ ap (λ xs. columns (whole.cells ++ row) ++ xs) (sym (columns_spaces left style))
        ∙ sym (columns_append (whole.cells ++ row) (replicate left (cell_of 32 style)))

    first : AreCells cols 0 (whole.cells ++ row)
    first =
        let at_end : length (columns whole.cells) % cols ≡ 0 = ap (λ n. n % cols) (ap length (sym whole.made) ∙ full) ∙ row_turns cols lines in
        fits_first cols whole.cells row whole.fit (subst (λ n. AreCells cols n row) (sym at_end) fit)

    rest_fits : (left : ℕ) → length (columns row) + left ≡ cols → AreCells cols (length (columns (whole.cells ++ row)) % cols) (replicate left (cell_of 32 style))
    rest_fits zero e = tt
    rest_fits (suc n) e = spaces_fit cols (length (columns (whole.cells ++ row))) (suc n) style (omega (arith, e))

    fits : AreCells cols 0 ((whole.cells ++ row) ++ replicate left (cell_of 32 style))
    fits = fits_first cols (whole.cells ++ row) (replicate left (cell_of 32 style)) first (rest_fits left count)

    long : length (above ++ columns row ++ replicate left (cell_of 32 style)) ≡ (lines + 1) * cols
    long =
        let a : length (above ++ columns row ++ replicate left (cell_of 32 style)) ≡ length (above ++ columns row) + length (replicate left (cell_of 32 style)) =
        length-append (above ++ columns row) (replicate left (cell_of 32 style)) in
        let b : length (above ++ columns row) ≡ length above + length (columns row) = length-append above (columns row) in
        let d : length (replicate left (cell_of 32 style)) ≡ left = length-replicate left (cell_of 32 style) in
        omega (arith, a, b, d, full, count)

pub ended_are : (s : Sketched) (style : Style) → IsSketch s → AreEnded s.rows s.cols (ended style s)
ended_are s style is = by_test (nat_lt (length s.above) (s.rows * s.cols)) refl
  where
    left : ℕ
    left = s.cols - length (columns s.row)

    by_test : (b : Bool) → nat_lt (length s.above) (s.rows * s.cols) ≡ b
        → AreEnded s.rows s.cols (if b then s.above ++ columns s.row ++ replicate (s.cols - length (columns s.row)) (cell_of 32 style) else s.above)
    by_test true below =
        row_above s.rows s.cols (s.cols - length (columns s.row)) is.lines style s.above s.row is.whole is.full
        (ltb-true (length s.above) (s.rows * s.cols) below) is.fit (omega (arith, is.narrow))
    by_test false past = record { whole = is.whole; lines = is.lines; full = is.full; within = is.within }

pub end_is : (s : Sketched) (style : Style) (above : List Slot) → IsSketch s → above ≡ ended style s
    → let next : Sketched = record s { above = above; row = [] } in IsSketch next
end_is s style above is e =
    let are : AreEnded s.rows s.cols above = subst (AreEnded s.rows s.cols) (sym e) (ended_are s style is) in
    record { whole = are.whole; lines = are.lines; full = are.full; within = are.within; fit = tt; narrow = omega arith }

-- ---- the picture

place_within : (rows cols : ℕ) (at : Option (ℕ × ℕ)) → IfSome (place_of rows cols at) (λ place. place < rows * cols)
place_within rows cols None = tt
place_within rows cols (Some at) = by_test (nat_lt at.0 rows && nat_lt at.1 cols) refl
  where
    by_test : (b : Bool) → (nat_lt at.0 rows && nat_lt at.1 cols) ≡ b
        → IfSome (if b then Some (at.0 * cols + at.1) else None) (λ place. place < rows * cols)
    by_test true e =
        let parts : (nat_lt at.0 rows ≡ true) × (nat_lt at.1 cols ≡ true) = and_parts (nat_lt at.0 rows) (nat_lt at.1 cols) e in
        let below : at.0 * cols + at.1 < cols * rows =
        mul-add-lt at.0 cols at.1 rows (ltb-true at.0 rows parts.0) (ltb-true at.1 cols parts.1) in
        subst (λ n. at.0 * cols + at.1 < n) (mul_comm cols rows) below
    by_test false e = tt

filled_whole : (rows cols : ℕ) (above : List Slot) → AreEnded rows cols above → AreRows cols (filled_up (rows * cols) above)
filled_whole rows cols above are = record {
  cells = are.whole.cells ++ replicate n blank;
  made = ap (λ xs. xs ++ replicate n blank) are.whole.made ∙ ap (λ xs. columns are.whole.cells ++ xs) (sym (columns_spaces n plain))
      ∙ sym (columns_append are.whole.cells (replicate n blank));
  fit = fits_first cols are.whole.cells (replicate n blank) are.whole.fit (spaces cols n refl none);
}
  where
    n : ℕ
    n = rows * cols - length above

    none : cols ≡ 0 → n ≡ 0
    none e = let z : rows * cols ≡ 0 = ap (λ c. rows * c) e ∙ mul-zero rows in omega (arith, z)

    spaces : (some m : ℕ) → some ≡ cols → (cols ≡ 0 → m ≡ 0)
        → AreCells cols (length (columns are.whole.cells) % cols) (replicate m blank)
    spaces zero m e nil =
        subst (λ k. AreCells cols (length (columns are.whole.cells) % cols) (replicate k blank)) (sym (nil (sym e))) tt
    spaces (suc k) m e nil = spaces_fit cols (length (columns are.whole.cells)) m plain (omega (arith, e))

pub finished_is : (s : Sketched) (at : Option (ℕ × ℕ)) → IsSketch s → IsPicture (finished s at)
finished_is s at is =
    let are : AreEnded s.rows s.cols (ended plain s) = ended_are s plain is in
    let below : are.lines * s.cols ≤ s.rows * s.cols = mul-le-mul_right s.cols are.within in
    let n : ℕ = s.rows * s.cols - length (ended plain s) in
    let both : length (filled_up (s.rows * s.cols) (ended plain s)) ≡ length (ended plain s) + length (replicate n blank) =
    length-append (ended plain s) (replicate n blank) in
    let count : length (replicate n blank) ≡ n = length-replicate n blank in
    record {
      whole = filled_whole s.rows s.cols (ended plain s) are;
      size = omega (arith, both, count, are.full, below);
      within = place_within s.rows s.cols at;
    }

-- ---- loops that put columns at the end

pub one_more : (first now next : List Slot) (n : ℕ) (x : Slot) → now ≡ first ++ replicate n x → next ≡ now ++ x ∷ []
    → next ≡ first ++ replicate (n + 1) x
one_more first now next n x e f =
    f ∙ ap (λ s. s ++ x ∷ []) e ∙ append_assoc first (replicate n x) (x ∷ []) ∙ ap (λ s. first ++ s) (replicate_more n x)

pub cell_more : (first now next : List Slot) (cell : Slot) → now ≡ first ++ cell ∷ []
    → next ≡ now ++ replicate (width_of_text cell.text - 1) rest → next ≡ first ++ columns_of cell
cell_more first now next cell e f =
    f ∙ ap (λ s. s ++ replicate (width_of_text cell.text - 1) rest) e
    ∙ append_assoc first (cell ∷ []) (replicate (width_of_text cell.text - 1) rest)

pub row_more : (first now next : List Slot) (done : List Slot) (cell : Slot) → now ≡ first ++ columns done
    → next ≡ now ++ columns_of cell → next ≡ first ++ columns (done ++ cell ∷ [])
row_more first now next done cell e f =
    f ∙ ap (λ s. s ++ columns_of cell) e ∙ flat_map_more columns_of first done cell

-- ---- a mark at the last cell

pub joined_none : (mark : ℕ) (row : List Slot) → length row ≡ 0 → row ≡ joined mark row
joined_none mark [] e = refl
joined_none mark (cell ∷ []) e = absurd (omega (arith, e))
joined_none mark (cell ∷ (next ∷ cells)) e = absurd (omega (arith, e))

pub joined_set : (mark last : ℕ) (row : List Slot) (old new : Slot) → length row ≡ last + 1 → old ≡ get_or row last old
    → new.text ≡ old.text ++ mark ∷ [] → new.style ≡ old.style → set row last new ≡ joined mark row
joined_set mark last [] old new long read text style = absurd (omega (arith, long))
joined_set mark zero (cell ∷ []) old new long read text style = ap (λ c. c ∷ []) (same_cell new cell mark (text ∙ ap (λ c. c.text ++ mark ∷ []) read) (style ∙ ap (λ c. c.style) read))
  where
    same_cell : (new cell : Slot) (mark : ℕ) → new.text ≡ cell.text ++ mark ∷ [] → new.style ≡ cell.style
        → let other : Slot = record { text = cell.text ++ mark ∷ []; style = cell.style } in new ≡ other
    same_cell new cell mark e f =
        let make : List ℕ → Style → Slot = λ t s. record { text = t; style = s } in
        ap (λ t. make t new.style) e ∙ ap (make (cell.text ++ mark ∷ [])) f
joined_set mark (suc last) (cell ∷ []) old new long read text style = absurd (omega (arith, long))
joined_set mark zero (cell ∷ (next ∷ cells)) old new long read text style = absurd (omega (arith, long))
joined_set mark (suc last) (cell ∷ (next ∷ cells)) old new long read text style =
    let fewer : length (next ∷ cells) ≡ last + 1 = omega (arith, long) in
    ap (λ s. cell ∷ s) (joined_set mark last (next ∷ cells) old new fewer read text style)

-- ---- what the code makes of the fields of a sketch

pub end_above : (s : Sketched) (total column : ℕ) (style : Style) (above : List Slot) → total ≡ s.rows * s.cols
    → column ≡ length (columns s.row) → above ≡ with_row total (s.cols - column) style s.above s.row → above ≡ ended style s
end_above s total column style above all count e =
    e ∙ ap (λ n. with_row n (s.cols - column) style s.above s.row) all
    ∙ ap (λ k. with_row (s.rows * s.cols) (s.cols - k) style s.above s.row) count

pub finish_slots : (s : Sketched) (at : Option (ℕ × ℕ)) (total column : ℕ) (style : Style) (mid last : List Slot) → total ≡ s.rows * s.cols
    → column ≡ length (columns s.row) → style ≡ plain → mid ≡ with_row total (s.cols - column) style s.above s.row
    → last ≡ filled_up total mid → last ≡ (finished s at).slots
finish_slots s at total column style mid last all count is e f =
    f ∙ ap (λ n. filled_up n mid) all
    ∙ ap (filled_up (s.rows * s.cols)) (end_above s total column style mid all count e ∙ ap (λ st. ended st s) is)

pub same_picture : (p : Picture) (slots : List Slot) (cursor : Option ℕ) → slots ≡ p.slots → cursor ≡ p.cursor
    → let other : Picture = record { rows = p.rows; cols = p.cols; slots = slots; cursor = cursor } in other ≡ p
same_picture p slots cursor e f =
    let make : List Slot → Option ℕ → Picture = λ s c. record { rows = p.rows; cols = p.cols; slots = s; cursor = c } in
    ap (λ s. make s cursor) e ∙ ap (make p.slots) f

pub same_row : (s : Sketched) (row : List Slot) → row ≡ s.row → IsSketch s → let next : Sketched = record s { row = row } in IsSketch next
same_row s row e is = record {
  whole = is.whole;
  lines = is.lines;
  full = is.full;
  within = is.within;
  fit = subst (AreCells s.cols 0) (sym e) is.fit;
  narrow = subst (λ r. length (columns r) ≤ s.cols) (sym e) is.narrow;
}

pub blank_is : (rows cols : ℕ) (above row : List Slot) → above ≡ [] → row ≡ []
    → let s : Sketched = record { rows = rows; cols = cols; above = above; row = row } in (0 ≡ length (columns row)) × IsSketch s
blank_is rows cols above row no_above no_row =
    let make : List Slot → List Slot → Sketched = λ a r. record { rows = rows; cols = cols; above = a; row = r } in (
      ap (λ r. length (columns r)) (sym no_row),
      subst (λ a. IsSketch (make a row)) (sym no_above) (subst (λ r. IsSketch (make [] r)) (sym no_row) (empty_is rows cols)),
    )

-- a sketch after the end of a row
pub ended_is : (s : Sketched) (total column : ℕ) (style : Style) (above row : List Slot) → total ≡ s.rows * s.cols
    → column ≡ length (columns s.row) → above ≡ with_row total (s.cols - column) style s.above s.row → row ≡ [] → IsSketch s
    → let next : Sketched = record { rows = s.rows; cols = s.cols; above = above; row = row } in
    (0 ≡ length (columns row)) × IsSketch next × (next ≡ with_row_end style s)
ended_is s total column style above row all count e no_row is =
    let make : List Slot → List Slot → Sketched = λ a r. record { rows = s.rows; cols = s.cols; above = a; row = r } in
    let a : above ≡ ended style s = end_above s total column style above all count e in (
      ap (λ r. length (columns r)) (sym no_row),
      subst (λ r. IsSketch (make above r)) (sym no_row) (end_is s style above is a),
      ap (λ x. make x row) a ∙ ap (make (ended style s)) no_row,
    )
