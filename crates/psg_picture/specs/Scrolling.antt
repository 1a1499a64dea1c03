-- Where the window of a program is, so that the chosen place is shown.
use Rattle.std.specs.Prelude.{ℕ, ◌+◌, ◌-◌, ◌/◌, ◌^◌, ◌≤◌, ◌<◌, ◌≡◌, ◌⊎◌, ◌==◌, ◌&&◌, Bool, cond, not, List, [], ◌∷◌}
use Rattle.std.specs.Prelude.{chars, drop, encode_utf8, length, max, min, nat_le, nat_lt, take}
use Rattle.std.specs.List.{count_by, prefix_len, suffix_len}
use Rattle.psg_screen.specs.Window.{width_of}
use Rattle.psg_screen.specs.declared.View.{View}

abbrev pub is_feed : ℕ → Bool
is_feed byte = byte == 10

abbrev pub is_other : ℕ → Bool
is_other byte = not (is_feed byte)

-- the line of a byte, from 0; lines from 2^32 - 1 on are alike
abbrev pub line_of : List ℕ → ℕ → ℕ
line_of text byte = min (count_by is_feed (take byte text)) (2 ^ 32 - 1)

-- how many bytes there are up to the last line feed
abbrev pub after_feed : List ℕ → ℕ
after_feed bytes = length bytes - suffix_len is_other bytes

-- the first byte of the line of a byte
abbrev pub line_start : List ℕ → ℕ → ℕ
line_start text byte = after_feed (take byte text)

-- the byte after the bytes from `start` on that are before `end` and in the line of `start`
abbrev pub line_stop : List ℕ → ℕ → ℕ → ℕ
line_stop text start end = min (start + prefix_len is_other (drop start (take end text))) (2 ^ 64 - 1)

-- the columns of the characters that begin at the bytes from `from` up to `to`, where the first one begins at `byte`
abbrev pub columns_between : ℕ → ℕ → ℕ → List ℕ → ℕ
columns_between from to byte [] = 0
columns_between from to byte (c ∷ cs) =
    cond (nat_le from byte && nat_lt byte to) (width_of c) 0
    + columns_between from to (byte + length (encode_utf8 c)) cs

-- columns from 2^32 - 1 on are alike
abbrev pub column_of : List ℕ → ℕ → ℕ → ℕ
column_of text from to = min (columns_between from to 0 (chars text)) (2 ^ 32 - 1)

-- the columns of the first line of the chosen bytes: the first one, and the one after the last
abbrev pub first_column : List ℕ → ℕ × ℕ → ℕ
first_column text chosen = column_of text (line_start text chosen.0) chosen.0

abbrev pub end_column : List ℕ → ℕ × ℕ → ℕ
end_column text chosen = column_of text (line_start text chosen.0) (line_stop text chosen.0 chosen.1)

-- the margin above and below the chosen place
abbrev pub margin : ℕ → ℕ
margin rows = rows / 6

-- The first line that is shown: the chosen place begins in the middle two thirds of the rows.
abbrev pub top_after : ℕ → ℕ → ℕ → ℕ
top_after rows top line =
    cond (nat_lt line (top + margin rows)) (line - margin rows)
    (cond (nat_le (top + rows) (line + margin rows)) (line - (rows - margin rows - 1)) top)

-- The first column that is shown: as much of the first line of the chosen place is shown as fits.
abbrev pub left_after : ℕ → ℕ → ℕ → ℕ → ℕ
left_after cols left start end =
    cond (nat_le end cols) 0
    (cond (nat_lt start left) start (cond (nat_lt (left + cols) end) (min start (end - cols)) left))

-- the rows of the program
abbrev pub text_rows : View → ℕ
text_rows view = max (view.rows - 5) 1

abbrev pub scrolled_of : View → List ℕ → ℕ × ℕ → View
scrolled_of view text chosen = record {
  top = top_after (text_rows view) view.top (line_of text chosen.0);
  left = left_after view.cols view.left (first_column text chosen) (end_column text chosen);
  rows = view.rows;
  cols = view.cols;
}

-- The line is one of the rows, and the columns from `start` on are shown, all of them up to `end` or as many as there
-- are.
pub record IsSeen (rows : ℕ) (view : View) (line start end : ℕ) : Type 0 where
  pub above : view.top ≤ line
  pub below : line < view.top + rows
  pub left : view.left ≤ start
  pub right : (end ≤ view.left + view.cols) ⊎ ((view.left ≡ start) × (start + view.cols < end))
