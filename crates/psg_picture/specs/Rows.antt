-- Rows of a picture: characters with their styles, and what a window's columns show of them.
use Rattle.std.specs.Prelude.{ℕ, ◌-◌, ◌^◌, List, [], ◌∷◌, ◌++◌, Option, length, replicate, min}
use Rattle.std.specs.List.{flat_map}
use Rattle.psg_canvas.specs.Cells.{Slot, Picture, columns, cell_of}
use Rattle.psg_canvas.specs.Cells as cells
use Rattle.psg_canvas.specs.Sketching.{Sketched, row_after, with_char, with_row_end}
use Rattle.psg_canvas.specs.declared.style.Style.{Style}
use Rattle.psg_screen.specs.declared.View.{View}
use Rattle.psg_screen.specs.Window.{column_after, ends_written, shown_for}
use Rattle.psg_picture.specs.declared.row.Styled.{Styled}

-- the style in which nothing is special
abbrev pub plain : Style
plain = cells.plain

abbrev pub styled : ℕ → Style → Styled
styled c style = record { c = c; style = style }

abbrev pub in_style : Style → List ℕ → List Styled
in_style style [] = []
in_style style (c ∷ cs) = styled c style ∷ in_style style cs

-- the columns from `left` on, that many of them
abbrev pub columns_from : ℕ → ℕ → View
columns_from left cols = record { top = 0; left = left; rows = 0; cols = cols }

-- What a window's columns show of the characters of a line after some of it, of which the nearest is the first of the
-- list. A character that is cut is spaces.
abbrev pub shown : View → List ℕ → List Styled → List Styled
shown view before [] = []
shown view before (c ∷ line) =
    in_style c.style (shown_for view (column_after before) c.c (ends_written view before))
    ++ shown view (c.c ∷ before) line

-- the columns of characters; columns from 2^32 - 1 on are alike
abbrev pub column_within : List ℕ → ℕ
column_within cs = min (column_after cs) (2 ^ 32 - 1)

-- a row of a picture: its characters, and the style of the spaces after them
pub record Row : Type 0 where
  pub chars : List Styled
  pub rest : Style

abbrev pub plain_row : List Styled → Row
plain_row chars = record { chars = chars; rest = plain }

abbrev pub empty_row : Row
empty_row = plain_row []

-- The cells of a row of `cols` columns after these: a mark joins the cell before it, and a character that turns the
-- direction of writing, a control character, or one that the row has no room for is in no cell.
abbrev pub cells_from : ℕ → List Slot → List Styled → List Slot
cells_from cols row [] = row
cells_from cols row (c ∷ cs) = cells_from cols (row_after cols row c.c c.style) cs

abbrev pub row_cells : ℕ → Row → List Slot
row_cells cols row = cells_from cols [] row.chars

-- all columns of a row
abbrev pub row_slots : ℕ → Row → List Slot
row_slots cols row =
    columns (row_cells cols row) ++ replicate (cols - length (columns (row_cells cols row))) (cell_of 32 row.rest)

-- the picture that has these rows
abbrev pub rows_picture : ℕ → ℕ → List Row → Option ℕ → Picture
rows_picture rows cols list cursor =
    record { rows = rows; cols = cols; slots = flat_map (row_slots cols) list; cursor = cursor }

-- ---- how a sketch makes them

abbrev pub written : List Styled → Sketched → Sketched
written [] s = s
written (c ∷ cs) s = written cs (with_char c.c c.style s)

abbrev pub with_row : Row → Sketched → Sketched
with_row row s = with_row_end row.rest (written row.chars s)

abbrev pub with_rows : List Row → Sketched → Sketched
with_rows [] s = s
with_rows (row ∷ rows) s = with_rows rows (with_row row s)
