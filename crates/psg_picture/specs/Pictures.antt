-- The picture of the editor, row by row.
use Rattle.std.specs.Prelude.{ℕ, ◌+◌, ◌-◌, ◌*◌, ◌^◌, ◌||◌, Bool, true, cond, List, [], ◌∷◌, ◌++◌, Option, Some, None}
use Rattle.std.specs.Prelude.{chars, codes, min, nat_lt, option_map, replicate, string_bytes}
use Rattle.psg_canvas.specs.Cells.{Picture}
use Rattle.psg_canvas.specs.Sketching.{Sketched, finished}
use Rattle.psg_canvas.specs.declared.style.Style.{Style}
use Rattle.psg_keys.specs.Lines.{Typed}
use Rattle.psg_screen.specs.declared.View.{View}
use Rattle.psg_picture.specs.declared.around.Around.{Around}
use Rattle.psg_picture.specs.declared.around.Piece.{Piece}
use Rattle.psg_picture.specs.declared.row.Styled.{Styled}
use Rattle.psg_picture.specs.Marked.{page_rows}
use Rattle.psg_picture.specs.Rows.{Row, column_within, columns_from, in_style, plain, plain_row, rows_picture, shown}
use Rattle.psg_picture.specs.Rows.{with_rows}

abbrev pub style_of : Bool → Style
style_of reversed = record plain { reversed = reversed }

abbrev pub reversed : Style
reversed = style_of true

-- a text's characters in one style
abbrev pub words : Style → List ℕ → List Styled
words style text = in_style style (chars text)

-- ---- the first row

-- the columns before the mark, which has two columns after it
abbrev pub before_mark : ℕ → List ℕ → ℕ
before_mark cols mark = cols - min (column_within (chars mark) + 2) (2 ^ 32 - 1)

-- a title as far as that many columns show it, and spaces up to one column more
abbrev pub title_part : Style → ℕ → List ℕ → List Styled
title_part style most title =
    shown (columns_from 0 (most - 1)) [] (words style title)
    ++ in_style style (replicate (most - min (column_within (chars title)) (most - 1)) 32)

abbrev pub title_row : ℕ → Around → Row
title_row cols a = record {
  chars =
      title_part reversed (before_mark cols (string_bytes a.mark)) (string_bytes a.title)
      ++ words reversed (string_bytes a.mark);
  rest = reversed;
}

-- ---- the rows below the program

abbrev pub rule_row : ℕ → Row
rule_row cols = plain_row (in_style plain (replicate cols 45))

abbrev pub words_row : ℕ → List ℕ → Row
words_row cols text = plain_row (shown (columns_from 0 cols) [] (words plain text))

abbrev pub of_pieces : List Piece → List Styled
of_pieces [] = []
of_pieces (piece ∷ pieces) =
    words (style_of piece.reversed) (string_bytes piece.text) ++ of_pieces pieces

abbrev pub offers_row : ℕ → List Piece → Row
offers_row cols pieces = plain_row (shown (columns_from 0 cols) [] (of_pieces pieces))

-- A line of text that is longer than the screen is shown from the column at which its cursor is the last.
abbrev pub skipped : ℕ → Typed → ℕ
skipped cols line = column_within line.before - (cols - 1)

abbrev pub typed_row : ℕ → Typed → Row
typed_row cols line =
    plain_row (shown (columns_from (skipped cols line) cols) [] (in_style plain (line.before ++ line.after)))

-- the line of text, or what is said where none is open
abbrev pub last_row : ℕ → Around → Option Typed → Row
last_row cols a None = words_row cols (string_bytes a.said)
last_row cols a (Some line) = typed_row cols line

abbrev pub rows_below : ℕ → Around → Option Typed → List Row
rows_below cols a line =
    rule_row cols ∷ words_row cols (string_bytes a.place)
    ∷ offers_row cols a.offers.items ∷ last_row cols a line ∷ []

-- ---- the cursor is shown in a line of text alone

abbrev pub cursor_at : ℕ → ℕ → Option Typed → Option (ℕ × ℕ)
cursor_at rows cols line = option_map (λ line. (rows - 1, min (column_within line.before) (cols - 1))) line

abbrev pub cursor_place : ℕ → ℕ → Option Typed → Option ℕ
cursor_place rows cols line =
    option_map (λ line. (rows - 1) * cols + min (column_within line.before) (cols - 1)) line

-- ---- the picture

abbrev pub is_small : View → Bool
is_small view = nat_lt view.rows 6 || nat_lt view.cols 20

-- too small a window has one line that says so
abbrev pub small_picture : View → Picture
small_picture view =
    rows_picture view.rows view.cols (page_rows view.cols (codes "the window is too small" ∷ []) 0 view.rows) None

-- the title, the rows between, and those below them
abbrev pub whole_picture : View → Around → List Row → Option Typed → Picture
whole_picture view a between line =
    rows_picture view.rows view.cols (title_row view.cols a ∷ (between ++ rows_below view.cols a line))
    (cursor_place view.rows view.cols line)

abbrev pub picture_of : View → Around → List Row → Option Typed → Picture
picture_of view a between line = cond (is_small view) (small_picture view) (whole_picture view a between line)

-- a sketch that is ended with the rows below the program
abbrev pub ended : View → Around → Option Typed → Sketched → Picture
ended view a line s = finished (with_rows (rows_below view.cols a line) s) (cursor_at view.rows view.cols line)
