-- The rows of the whole picture, and its cursor.
use Rattle.std.proofs.Common.{◌≡◌, ℕ, suc, ◌+◌, ◌-◌, ◌*◌, ◌≤◌, min, Bool, true, false, cond, List, [], ◌∷◌, ◌++◌, length, refl, sym, ap, ◌∙◌, arith, Option, Some, None}
use Rattle.std.specs.Prelude.{◌&&◌, codes, nat_lt, if◌then◌else◌}
use Rattle.std.proofs.lemmas.Bool.{lt-ltb, ltb-false, or_parts}
use Rattle.std.proofs.lemmas.List.{length-append}
use Rattle.std.proofs.lemmas.List.FromFn.{length-map-range_with_len}
use Rattle.psg_canvas.specs.Cells.{Picture}
use Rattle.psg_canvas.specs.Sketching.{Sketched, empty_sketch, finished, place_of}
use Rattle.psg_keys.specs.Lines.{Typed}
use Rattle.psg_screen.specs.declared.View.{View}
use Rattle.psg_picture.specs.declared.around.Around.{Around}
use Rattle.psg_picture.specs.Marked.{page_row, page_rows}
use Rattle.psg_picture.specs.Pictures.{cursor_at, cursor_place, ended, is_small, picture_of, rows_below, small_picture, title_row, whole_picture}
use Rattle.psg_picture.specs.Rows.{Row, column_within, rows_picture, with_row, with_rows}
use Rattle.psg_picture.proofs.SketchSteps.{picture_is, with_rows-append}

pub small_is : (view : View) (a : Around) (between : List Row) (line : Option Typed) (b : Bool) → b ≡ is_small view → b ≡ true
    → small_picture view ≡ picture_of view a between line
small_is view a between line b tested held =
    ap (λ t. cond t (small_picture view) (whole_picture view a between line)) (sym held ∙ tested)

pub big : (view : View) (b : Bool) → b ≡ is_small view → b ≡ false → is_small view ≡ false
big view b tested held = sym tested ∙ held

pub record IsBig (view : View) : Type 0 where
  pub rows : 6 ≤ view.rows
  pub cols : 20 ≤ view.cols

pub big_is : (view : View) → is_small view ≡ false → IsBig view
big_is view large =
    let parts = or_parts (nat_lt view.rows 6) (nat_lt view.cols 20) large in
    record { rows = ltb-false view.rows 6 parts.0; cols = ltb-false view.cols 20 parts.1 }

cursor_is : (view : View) (line : Option Typed) → IsBig view
    → place_of view.rows view.cols (cursor_at view.rows view.cols line) ≡ cursor_place view.rows view.cols line
cursor_is view None big = refl
cursor_is view (Some line) big =
    let row : ℕ = view.rows - 1 in
    let col : ℕ = min (column_within line.before) (view.cols - 1) in
    let in_rows : nat_lt row view.rows ≡ true = lt-ltb row view.rows (omega (arith, big.rows)) in
    let in_cols : nat_lt col view.cols ≡ true = lt-ltb col view.cols (omega (arith, big.cols)) in
    ap (λ b. if b && nat_lt col view.cols then Some (row * view.cols + col) else None) in_rows
    ∙ ap (λ b. if true && b then Some (row * view.cols + col) else None) in_cols

-- the rows of the whole picture
pub whole_is : (view : View) (a : Around) (between : List Row) (line : Option Typed) (begun middle : Sketched) (picture : Picture)
    → is_small view ≡ false → length between ≡ view.rows - 5
    → begun ≡ with_row (title_row view.cols a) (empty_sketch view.rows view.cols) → middle ≡ with_rows between begun
    → picture ≡ ended view a line middle → picture ≡ picture_of view a between line
whole_is view a between line begun middle picture large long started drawn last =
    let is : IsBig view = big_is view large in
    let below : List Row = rows_below view.cols a line in
    let rows : List Row = title_row view.cols a ∷ (between ++ below) in
    let both : length (between ++ below) ≡ length between + 4 = length-append between below in
    let count : suc (length (between ++ below)) ≡ view.rows = omega (arith, both, long, is.rows) in
    let start : Sketched = with_row (title_row view.cols a) (empty_sketch view.rows view.cols) in
    let middle_is : middle ≡ with_rows between start = drawn ∙ ap (with_rows between) started in
    let all : with_rows below middle ≡ with_rows rows (empty_sketch view.rows view.cols) =
    ap (with_rows below) middle_is ∙ sym (with_rows-append between below start) in
    let whole : finished (with_rows below middle) (cursor_at view.rows view.cols line) ≡ whole_picture view a between line =
    ap (λ s. finished s (cursor_at view.rows view.cols line)) all
    ∙ picture_is view.rows view.cols rows (cursor_at view.rows view.cols line) count
    ∙ ap (λ at. rows_picture view.rows view.cols rows at) (cursor_is view line is) in
    last ∙ whole ∙ sym (ap (λ b. cond b (small_picture view) (whole_picture view a between line)) large)

pub page_long : (cols top count : ℕ) (lines : List (List ℕ)) → length (page_rows cols lines top count) ≡ count
page_long cols top count lines = length-map-range_with_len (page_row cols lines) top count

pub small_done : (view : View) (lines : List (List ℕ)) (start now : Sketched) (picture : Picture) → lines ≡ codes "the window is too small" ∷ []
    → start ≡ empty_sketch view.rows view.cols → now ≡ with_rows (page_rows view.cols lines 0 view.rows) start
    → picture ≡ finished now None → picture ≡ small_picture view
small_done view lines start now picture said begun drawn last =
    let rows : List Row = page_rows view.cols (codes "the window is too small" ∷ []) 0 view.rows in
    last
    ∙ ap (λ s. finished s None) (drawn ∙ ap (with_rows (page_rows view.cols lines 0 view.rows)) begun
    ∙ ap (λ l. with_rows (page_rows view.cols l 0 view.rows) (empty_sketch view.rows view.cols)) said)
    ∙ picture_is view.rows view.cols rows None (page_long view.cols 0 view.rows (codes "the window is too small" ∷ []))
