-- What a window shows of a text. The line is a list of characters, each with the column at which it begins: the sum of
-- the widths of those before it. Lines and columns are counted from 0.
use Rattle.std.specs.Prelude.{ℕ, ◌+◌, ◌-◌, min, max, Bool, false, ◌&&◌, ◌==◌, nat_le, List, [], ◌∷◌, ◌++◌, map}
use Rattle.std.specs.Prelude.{replicate, sum_by, unwrap_or, slice_index_or, chars, encode_utf8_all, if◌then◌else◌}
use Rattle.std.specs.List.{slice_split, range_with_len}
use Rattle.unicode_width.specs.Width.{char_width}
use Rattle.psg_screen.specs.declared.View.{View}

-- the columns that a character takes by itself
abbrev pub width_of : ℕ → ℕ
width_of c = unwrap_or (char_width false c) 0

-- the column at which the character after these begins
abbrev pub column_after : List ℕ → ℕ
column_after before = sum_by width_of before

-- the window has all columns of a character
abbrev pub is_inside : View → ℕ → ℕ → Bool
is_inside view column width = nat_le view.left column && nat_le (column + width) (view.left + view.cols)

-- how many columns of a character the window has
unfoldable pub columns_inside : View → ℕ → ℕ → ℕ
columns_inside view column width = min (column + width) (view.left + view.cols) - max column view.left

-- a character is written where the window has all its columns; if it has none, where the one before it is
unfoldable pub is_written : View → ℕ → ℕ → Bool → Bool
is_written view column width follows = if width == 0 then follows else is_inside view column width

-- whether the nearest of the characters before a place is written. It is the first of the list; where there is none,
-- the line's beginning counts as written if the window has it
abbrev pub ends_written : View → List ℕ → Bool
ends_written view [] = view.left == 0
ends_written view (c ∷ before) = is_written view (column_after before) (width_of c) (ends_written view before)

-- what is shown for a character that begins at this column
unfoldable pub shown_for : View → ℕ → ℕ → Bool → List ℕ
shown_for view column c follows =
    if is_written view column (width_of c) follows then c ∷ [] else replicate
    (columns_inside view column (width_of c)) 32

-- what is shown for the characters of a line after some of it, of which the nearest is the first of the list
abbrev pub shown_behind : View → List ℕ → List ℕ → List ℕ
shown_behind view before [] = []
shown_behind view before (c ∷ line) =
    shown_for view (column_after before) c (ends_written view before) ++ shown_behind view (c ∷ before) line

-- the bytes that are shown for the bytes of a line
unfoldable pub shown_line : View → List ℕ → List ℕ
shown_line view line = encode_utf8_all (shown_behind view [] (chars line))

-- a line of a text, which is empty past the text's last line
abbrev pub line_at : List ℕ → ℕ → List ℕ
line_at text place = slice_index_or (slice_split (λ b. b == 10) text) place []

-- the lines of the window, which are those from the top on
abbrev pub window_of : List ℕ → View → List (List ℕ)
window_of text view = map (λ place. shown_line view (line_at text place)) (range_with_len view.top view.rows)
