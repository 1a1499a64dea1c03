-- The rows of a program's text with what is marked in it, and those of a page.
use Rattle.std.specs.Prelude.{ℕ, zero, suc, ◌≡◌, ◌+◌, ◌==◌, ◌&&◌, ◌||◌, Bool, true, false, cond}
use Rattle.std.specs.Prelude.{List, [], ◌∷◌, length, map, drop}
use Rattle.std.specs.Prelude.{chars, encode_utf8, encode_utf8_all, slice_index_or, nat_lt, nat_le}
use Rattle.std.specs.List.{list_any, slice_split, range_with_len}
use Rattle.psg_canvas.specs.declared.style.Color.{Color}
use Rattle.psg_canvas.specs.declared.style.Color.TheVariants as colors
use Rattle.psg_canvas.specs.declared.style.Style.{Style}
use Rattle.psg_screen.specs.declared.View.{View}
use Rattle.psg_screen.specs.Window.{window_of}
use Rattle.psg_picture.specs.declared.marks.Marks.{Marks}
use Rattle.psg_picture.specs.declared.marks.Part.{Part}
use Rattle.psg_picture.specs.declared.marks.Part.TheVariants as parts
use Rattle.psg_picture.specs.declared.row.Styled.{Styled}
use Rattle.psg_picture.specs.Rows.{Row, columns_from, in_style, plain, plain_row, shown, styled}

-- ---- the style of a character by its first byte

abbrev pub is_in : ℕ × ℕ → ℕ → Bool
is_in bytes byte = nat_le bytes.0 byte && nat_lt byte bytes.1

-- a place without bytes is shown by the character after it
abbrev pub is_chosen : ℕ × ℕ → ℕ → Bool
is_chosen bytes byte = (byte == bytes.0) || is_in bytes byte

abbrev pub is_in_any : List (ℕ × ℕ) → ℕ → Bool
is_in_any all byte = list_any (λ bytes. is_in bytes byte) all

abbrev pub color_of : Part → Color
color_of parts.Word = colors.Own
color_of parts.Name = colors.Cyan
color_of parts.Literal = colors.Green
color_of parts.Place = colors.Yellow

abbrev pub is_place : Part → Bool
is_place parts.Place = true
is_place _ = false

-- the chosen place is reversed, wrong places are underlined and red, open ones bold
abbrev pub style_at : Marks → ℕ → Style
style_at m byte = record {
  color = cond (is_in_any m.wrong.items byte) colors.Red (color_of (slice_index_or m.parts.items byte parts.Word));
  bold = is_place (slice_index_or m.parts.items byte parts.Word);
  underlined = is_in_any m.wrong.items byte;
  reversed = is_chosen m.chosen byte;
}

-- characters of which the first one begins at this byte
abbrev pub marked_from : Marks → ℕ → List ℕ → List Styled
marked_from m byte [] = []
marked_from m byte (c ∷ cs) =
    styled c (style_at m byte) ∷ marked_from m (byte + length (encode_utf8 c)) cs

-- ---- the rows of the window

-- the rows of lines of which the first one begins at this byte; a line feed is between two lines
abbrev pub rows_from : View → Marks → ℕ → List (List ℕ) → List Row
rows_from view m byte [] = []
rows_from view m byte (line ∷ lines) =
    plain_row (shown view [] (marked_from m byte (chars line))) ∷ rows_from view m (byte + length line + 1) lines

-- that many rows, with empty ones at the end
abbrev pub filled : ℕ → List Row → List Row
filled zero rows = []
filled (suc n) [] = plain_row [] ∷ filled n []
filled (suc n) (row ∷ rows) = row ∷ filled n rows

-- that many rows of a text, from the top line on
abbrev pub program_rows : View → ℕ → List ℕ → Marks → List Row
program_rows view rows text m =
    filled rows (drop view.top (rows_from view m 0 (slice_split (λ b. b == 10) text)))

-- the bytes of a row's characters
abbrev pub row_text : Row → List ℕ
row_text row = encode_utf8_all (map (λ (s : Styled). s.c) row.chars)

-- The rows of a text have the characters of its window.
abbrev pub ShowsWindow : Type 0
ShowsWindow =
    (view : View) (rows : ℕ) (text : List ℕ) (m : Marks)
    → map row_text (program_rows view rows text m) ≡ window_of text (record view { rows = rows })

-- a line of a page, and that many of them from the top one on
abbrev pub page_row : ℕ → List (List ℕ) → ℕ → Row
page_row cols lines place =
    plain_row (shown (columns_from 0 cols) [] (in_style plain (chars (slice_index_or lines place []))))

abbrev pub page_rows : ℕ → List (List ℕ) → ℕ → ℕ → List Row
page_rows cols lines top rows = map (page_row cols lines) (range_with_len top rows)
