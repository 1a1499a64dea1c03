-- How a picture is made of characters, row by row.
use Rattle.std.specs.Prelude.{ℕ, ◌+◌, ◌-◌, ◌*◌, ◌≡◌, ◌≤◌, ◌==◌, ◌||◌, ◌&&◌, Bool, List}
use Rattle.std.specs.Prelude.{[], ◌∷◌, ◌++◌, Option, Some, None}
use Rattle.std.specs.Prelude.{length, replicate, nat_lt, nat_le, if◌then◌else◌}
use Rattle.psg_canvas.specs.Cells.{Slot, Picture, AreRows, AreCells, plain, blank, cell_of}
use Rattle.psg_canvas.specs.Cells.{columns, width_of, is_mark, is_left_out}
use Rattle.psg_canvas.specs.declared.style.Style.{Style}

-- A picture that is being made: the columns of the rows that are ended, and the cells of the row that is written.
pub record Sketched : Type 0 where
  pub rows : ℕ
  pub cols : ℕ
  pub above : List Slot
  pub row : List Slot

abbrev pub empty_sketch : ℕ → ℕ → Sketched
empty_sketch rows cols = record { rows = rows; cols = cols; above = []; row = [] }

-- the character has width 1 or 2, and that many columns are left
abbrev pub has_room : ℕ → ℕ → ℕ → Bool
has_room cols column c = ((width_of c == 1) || (width_of c == 2)) && nat_le (column + width_of c) cols

-- the mark is a part of the row's last cell, if there is one
abbrev pub joined : ℕ → List Slot → List Slot
joined mark [] = []
joined mark (cell ∷ []) = record { text = cell.text ++ mark ∷ []; style = cell.style } ∷ []
joined mark (cell ∷ (next ∷ cells)) = cell ∷ joined mark (next ∷ cells)

-- a row after a character
abbrev pub row_after : ℕ → List Slot → ℕ → Style → List Slot
row_after cols row c style =
    if is_left_out c then row else if is_mark c then joined c row
    else if has_room cols (length (columns row)) c then row ++ cell_of c style ∷ [] else row

abbrev pub with_char : ℕ → Style → Sketched → Sketched
with_char c style s = record s { row = row_after s.cols s.row c style }

-- A row is filled with that many spaces of the style. One after the last row of the picture is left out.
abbrev pub with_row : ℕ → ℕ → Style → List Slot → List Slot → List Slot
with_row total left style above row =
    if nat_lt (length above) total then above ++ columns row ++ replicate left (cell_of 32 style) else above

abbrev pub ended : Style → Sketched → List Slot
ended style s = with_row (s.rows * s.cols) (s.cols - length (columns s.row)) style s.above s.row

abbrev pub with_row_end : Style → Sketched → Sketched
with_row_end style s = record s { above = ended style s; row = [] }

-- the place of a row and a column among the columns, where both are within
abbrev pub place_of : ℕ → ℕ → Option (ℕ × ℕ) → Option ℕ
place_of rows cols None = None
place_of rows cols (Some at) =
    if nat_lt at.0 rows && nat_lt at.1 cols then Some (at.0 * cols + at.1) else None

-- the picture is filled with empty columns
abbrev pub filled_up : ℕ → List Slot → List Slot
filled_up total above = above ++ replicate (total - length above) blank

abbrev pub finished : Sketched → Option (ℕ × ℕ) → Picture
finished s at = record {
  rows = s.rows;
  cols = s.cols;
  slots = filled_up (s.rows * s.cols) (ended plain s);
  cursor = place_of s.rows s.cols at;
}

-- what is true of a sketch: the rows that are ended are full of cells, and so is the front of the one that is written
pub record IsSketch (s : Sketched) : Type 0 where
  pub whole : AreRows s.cols s.above
  pub lines : ℕ
  pub full : length s.above ≡ lines * s.cols
  pub within : lines ≤ s.rows
  pub fit : AreCells s.cols 0 s.row
  pub narrow : length (columns s.row) ≤ s.cols
