-- How a sketch comes to rows, and what a finished one is.
use Rattle.std.proofs.Common.{◌≡◌, ℕ, suc, ◌+◌, ◌-◌, ◌*◌, ◌<◌, ◌≤◌, Bool, true, false, List, [], ◌∷◌, ◌++◌, length, refl, sym, ap, ◌∙◌, arith, append_assoc, append-nil, replicate, Option}
use Rattle.std.specs.Prelude.{nat_lt, if◌then◌else◌}
use Rattle.std.specs.List.{flat_map}
use Rattle.std.proofs.Math.Nat.{mul-le-mul_right}
use Rattle.std.proofs.lemmas.Bool.{true≢false, le-ltb, ltb-false}
use Rattle.std.proofs.lemmas.Grind.{flat_map-append}
use Rattle.std.proofs.lemmas.List.{length-append, length-replicate}
use Rattle.psg_canvas.specs.Cells.{Slot, blank, cell_of, columns, plain}
use Rattle.psg_canvas.specs.Sketching.{Sketched, IsSketch, empty_sketch, row_after, with_char, with_row_end, ended, place_of, finished}
use Rattle.psg_canvas.proofs.SketchLaws.{char_is, empty_is}
use Rattle.psg_picture.specs.declared.row.Styled.{Styled}
use Rattle.psg_picture.specs.Rows.{Row, cells_from, row_cells, row_slots, rows_picture, with_row, with_rows, written}

pub written-append : (xs ys : List Styled) (s : Sketched) → written (xs ++ ys) s ≡ written ys (written xs s)
written-append [] ys s = refl
written-append (x ∷ xs) ys s = written-append xs ys (with_char x.c x.style s)

pub with_rows-append : (xs ys : List Row) (s : Sketched) → with_rows (xs ++ ys) s ≡ with_rows ys (with_rows xs s)
with_rows-append [] ys s = refl
with_rows-append (x ∷ xs) ys s = with_rows-append xs ys (with_row x s)

pub rows-push : (rows : List Row) (row : Row) (start before after : Sketched) → before ≡ with_rows rows start
    → after ≡ with_row row before → after ≡ with_rows (rows ++ row ∷ []) start
rows-push rows row start before after held now =
    now ∙ ap (with_row row) held ∙ sym (with_rows-append rows (row ∷ []) start)

-- ---- a row of a sketch

abbrev pub sketch_of : ℕ → ℕ → List Row → Sketched
sketch_of rows cols done = record { rows = rows; cols = cols; above = flat_map (row_slots cols) done; row = [] }

pub written_is : (cs : List Styled) (rows cols : ℕ) (above row : List Slot)
    → written cs (record { rows = rows; cols = cols; above = above; row = row })
    ≡ record { rows = rows; cols = cols; above = above; row = cells_from cols row cs }
written_is [] rows cols above row = refl
written_is (c ∷ cs) rows cols above row = written_is cs rows cols above (row_after cols row c.c c.style)

-- the cells of a row are within it
cells_sketch : (cs : List Styled) (cols : ℕ) (row : List Slot) → IsSketch (record { rows = 0; cols = cols; above = []; row = row })
    → IsSketch (record { rows = 0; cols = cols; above = []; row = cells_from cols row cs })
cells_sketch [] cols row is = is
cells_sketch (c ∷ cs) cols row is =
    cells_sketch cs cols (row_after cols row c.c c.style)
    (char_is (record { rows = 0; cols = cols; above = []; row = row }) c.c c.style (row_after cols row c.c c.style) is refl)

pub cells_narrow : (cols : ℕ) (row : Row) → length (columns (row_cells cols row)) ≤ cols
cells_narrow cols row =
    let is : IsSketch (record { rows = 0; cols = cols; above = []; row = cells_from cols [] row.chars }) =
    cells_sketch row.chars cols [] (empty_is 0 cols) in
    is.narrow

pub slots_long : (cols : ℕ) (row : Row) → length (row_slots cols row) ≡ cols
slots_long cols row =
    let cells : List Slot = columns (row_cells cols row) in
    let narrow : length cells ≤ cols = cells_narrow cols row in
    let both : length (row_slots cols row) ≡ length cells + length (replicate (cols - length cells) (cell_of 32 row.rest)) =
    length-append cells (replicate (cols - length cells) (cell_of 32 row.rest)) in
    let spaces : length (replicate (cols - length cells) (cell_of 32 row.rest)) ≡ cols - length cells =
    length-replicate (cols - length cells) (cell_of 32 row.rest) in
    omega (arith, narrow, both, spaces)

pub above_long : (cols : ℕ) (rows : List Row) → length (flat_map (row_slots cols) rows) ≡ length rows * cols
above_long cols [] = omega arith
above_long cols (row ∷ rows) =
    let both : length (row_slots cols row ++ flat_map (row_slots cols) rows) ≡ length (row_slots cols row) + length (flat_map (row_slots cols) rows) =
    length-append (row_slots cols row) (flat_map (row_slots cols) rows) in
    let more : (length rows + 1) * cols ≡ length rows * cols + cols = omega arith in
    let one : suc (length rows) * cols ≡ (length rows + 1) * cols = ap (λ n. n * cols) (let e : suc (length rows) ≡ length rows + 1 = omega arith in e) in
    both ∙ (let e : length (row_slots cols row) + length (flat_map (row_slots cols) rows) ≡ length rows * cols + cols = omega (arith, slots_long cols row, above_long cols rows) in e)
    ∙ sym more ∙ sym one

none_of : {A : Type 0} (xs : List A) → length xs ≡ 0 → xs ≡ []
none_of [] e = refl
none_of (x ∷ xs) e = absurd (let f : suc (length xs) ≡ 0 = e in omega (arith, f))

-- a row more
above_more : (rows cols : ℕ) (done : List Row) (row : Row) (b : Bool) → length done < rows
    → nat_lt (length (flat_map (row_slots cols) done)) (rows * cols) ≡ b
    → (if b then (flat_map (row_slots cols) done ++ columns (row_cells cols row)) ++ replicate (cols - length (columns (row_cells cols row))) (cell_of 32 row.rest) else flat_map (row_slots cols) done)
    ≡ flat_map (row_slots cols) (done ++ row ∷ [])
above_more rows cols done row true below test =
    append_assoc (flat_map (row_slots cols) done) (columns (row_cells cols row)) (replicate (cols - length (columns (row_cells cols row))) (cell_of 32 row.rest))
    ∙ sym (flat_map-append (row_slots cols) done (row ∷ [])
    ∙ ap (λ r. flat_map (row_slots cols) done ++ r) (append-nil (row_slots cols row)))
above_more rows cols done row false below test =
    let full : rows * cols ≤ length (flat_map (row_slots cols) done) = ltb-false (length (flat_map (row_slots cols) done)) (rows * cols) test in
    let long : length (flat_map (row_slots cols) done) ≡ length done * cols = above_long cols done in
    let next : (length done + 1) * cols ≤ rows * cols =
    mul-le-mul_right {m = length done + 1} {n = rows} cols (let h : length done + 1 ≤ rows = omega (arith, below) in h) in
    let more : (length done + 1) * cols ≡ length done * cols + cols = omega arith in
    let nothing : length (row_slots cols row) ≡ 0 = omega (arith, full, long, next, more, slots_long cols row) in
    sym (flat_map-append (row_slots cols) done (row ∷ [])
    ∙ ap (λ r. flat_map (row_slots cols) done ++ (r ++ [])) (none_of (row_slots cols row) nothing)
    ∙ append-nil (flat_map (row_slots cols) done))

pub with_row_is : (rows cols : ℕ) (done : List Row) (row : Row) → length done < rows
    → with_row row (sketch_of rows cols done) ≡ sketch_of rows cols (done ++ row ∷ [])
with_row_is rows cols done row below =
    ap (with_row_end row.rest) (written_is row.chars rows cols (flat_map (row_slots cols) done) [])
    ∙ ap (λ a. record { rows = rows; cols = cols; above = a; row = [] })
    (above_more rows cols done row (nat_lt (length (flat_map (row_slots cols) done)) (rows * cols)) below refl)

pub with_rows_is : (rows cols : ℕ) (done list : List Row) → length done + length list ≤ rows
    → with_rows list (sketch_of rows cols done) ≡ sketch_of rows cols (done ++ list)
with_rows_is rows cols done [] low = ap (sketch_of rows cols) (sym (append-nil done))
with_rows_is rows cols done (row ∷ list) low =
    let room : length done + suc (length list) ≤ rows = low in
    let below : length done < rows = omega (arith, room) in
    let long : length (done ++ row ∷ []) ≡ length done + 1 = length-append done (row ∷ []) in
    let rest : length (done ++ row ∷ []) + length list ≤ rows = omega (arith, room, long) in
    ap (with_rows list) (with_row_is rows cols done row below) ∙ with_rows_is rows cols (done ++ row ∷ []) list rest
    ∙ ap (sketch_of rows cols) (append_assoc done (row ∷ []) list)

-- ---- a finished sketch

full_ended : (rows cols : ℕ) (list : List Row) (b : Bool) → nat_lt (length (flat_map (row_slots cols) list)) (rows * cols) ≡ b → length list ≡ rows
    → (if b then (flat_map (row_slots cols) list ++ []) ++ replicate (cols - 0) (cell_of 32 plain) else flat_map (row_slots cols) list)
    ≡ flat_map (row_slots cols) list
full_ended rows cols list true test full =
    let long : length (flat_map (row_slots cols) list) ≡ length list * cols = above_long cols list in
    let same : length list * cols ≡ rows * cols = ap (λ n. n * cols) full in
    absurd (true≢false (sym test ∙ le-ltb (length (flat_map (row_slots cols) list)) (rows * cols) (let h : rows * cols ≤ length (flat_map (row_slots cols) list) = omega (arith, long, same) in h)))
full_ended rows cols list false test full = refl

pub finished_rows : (rows cols : ℕ) (list : List Row) (at : Option (ℕ × ℕ)) → length list ≡ rows
    → finished (sketch_of rows cols list) at ≡ rows_picture rows cols list (place_of rows cols at)
finished_rows rows cols list at full =
    let above : List Slot = flat_map (row_slots cols) list in
    let long : length above ≡ length list * cols = above_long cols list in
    let same : length list * cols ≡ rows * cols = ap (λ n. n * cols) full in
    let none : rows * cols - length above ≡ 0 = omega (arith, long, same) in
    let stays : ended plain (sketch_of rows cols list) ≡ above = full_ended rows cols list (nat_lt (length above) (rows * cols)) refl full in
    let slots : ended plain (sketch_of rows cols list) ++ replicate (rows * cols - length (ended plain (sketch_of rows cols list))) blank ≡ above =
    ap (λ a. a ++ replicate (rows * cols - length a) blank) stays ∙ ap (λ n. above ++ replicate n blank) none ∙ append-nil above in
    ap (λ xs. record { rows = rows; cols = cols; slots = xs; cursor = place_of rows cols at }) slots

-- all rows of a picture, from its first one on
pub picture_is : (rows cols : ℕ) (list : List Row) (at : Option (ℕ × ℕ)) → length list ≡ rows
    → finished (with_rows list (empty_sketch rows cols)) at ≡ rows_picture rows cols list (place_of rows cols at)
picture_is rows cols list at full =
    let room : 0 + length list ≤ rows = omega (arith, full) in
    ap (λ s. finished s at) (with_rows_is rows cols [] list room) ∙ finished_rows rows cols list at full
