-- Cells of a screen, and the pictures that they are.
use Rattle.std.specs.Prelude.{ℕ, ◌+◌, ◌-◌, ◌*◌, ◌%◌, ◌≡◌, ◌<◌, ◌≤◌, ◌==◌, ◌||◌, ◌&&◌, Bool}
use Rattle.std.specs.Prelude.{true, false, List, [], ◌∷◌, Option}
use Rattle.std.specs.Prelude.{length, replicate, flat_map, unwrap_or, nat_le, not, IfSome}
use Rattle.unicode_width.specs.Width.{char_width}
use Rattle.psg_canvas.specs.declared.style.Style.{Style}
use Rattle.psg_canvas.specs.declared.style.Color.TheVariants as colors

-- What one column shows: the characters of a cell and their style, or nothing of its own where the cell began before
-- it.
pub record Slot : Type 0 where
  pub text : List ℕ
  pub style : Style

-- the style in which nothing is special
abbrev pub plain : Style
plain = record { color = colors.Own; bold = false; underlined = false; reversed = false }

-- the cell of one character
abbrev pub cell_of : ℕ → Style → Slot
cell_of c style = record { text = c ∷ []; style = style }

-- a further column of the cell that began before it
abbrev pub rest : Slot
rest = record { text = []; style = plain }

-- an empty column
abbrev pub blank : Slot
blank = cell_of 32 plain

-- the columns that a character takes by itself; a control character has none
unfoldable pub width_of : ℕ → ℕ
width_of c = unwrap_or (char_width false c) 0

-- the character takes no column, and is no control character: it is shown where the one before it is
unfoldable pub is_mark : ℕ → Bool
is_mark c = unwrap_or (char_width false c) 1 == 0

-- The characters that no cell has: those that turn the direction of writing, and those that change how wide the ones
-- beside them are in some terminals, the joiner and the selectors of variants.
abbrev pub is_left_out : ℕ → Bool
is_left_out c =
    (c == 0x61C) || (c == 0x200D) || (c == 0x200E) || (c == 0x200F)
    || (nat_le 0x202A c && nat_le c 0x202E) || (nat_le 0x2066 c && nat_le c 0x2069)
    || (nat_le 0xFE00 c && nat_le c 0xFE0F)

-- a cell is a character of width 1 or 2 and marks after it
abbrev pub are_marks : List ℕ → Bool
are_marks [] = true
are_marks (c ∷ marks) = is_mark c && not (is_left_out c) && are_marks marks

abbrev pub is_cell : List ℕ → Bool
is_cell [] = false
is_cell (c ∷ marks) = ((width_of c == 1) || (width_of c == 2)) && not (is_left_out c) && are_marks marks

-- the columns of a cell are those of its first character
abbrev pub width_of_text : List ℕ → ℕ
width_of_text [] = 0
width_of_text (c ∷ marks) = width_of c

-- all columns of a cell
abbrev pub columns_of : Slot → List Slot
columns_of cell = cell ∷ replicate (width_of_text cell.text - 1) rest

abbrev pub columns : List Slot → List Slot
columns cells = flat_map columns_of cells

-- These are cells, and none goes past the end of its row, of `cols` columns, where the first one begins at the column
-- `start` of a row.
abbrev pub AreCells : ℕ → ℕ → List Slot → Type 0
AreCells cols start [] = Unit {0}
AreCells cols start (cell ∷ cells) =
    (is_cell cell.text ≡ true)
    × (start + width_of_text cell.text ≤ cols)
    × AreCells cols ((start + width_of_text cell.text) % cols) cells

-- the columns are those of cells that fit into rows of `cols` columns
pub record AreRows (cols : ℕ) (slots : List Slot) : Type 0 where
  pub cells : List Slot
  pub made : slots ≡ columns cells
  pub fit : AreCells cols 0 cells

-- A picture as contracts see it. The columns go row by row. `cursor` is the place where the cursor is shown, among the
-- columns.
pub record Picture : Type 0 where
  pub rows : ℕ
  pub cols : ℕ
  pub slots : List Slot
  pub cursor : Option ℕ

-- the picture is `rows` rows of `cols` columns, full of cells
pub record IsPicture (p : Picture) : Type 0 where
  pub whole : AreRows p.cols p.slots
  pub size : length p.slots ≡ p.rows * p.cols
  pub within : IfSome p.cursor (λ place. place < p.rows * p.cols)
