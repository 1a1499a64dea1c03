-- The row of a terminal that a prompt draws: the part of the line around its cursor.
use Rattle.std.specs.Prelude.{ℕ, ◌+◌, ◌-◌, ◌*◌, ◌/◌, ◌==◌, ◌&&◌, ◌||◌, max, nat_lt, nat_le, Bool, false, List, [], ◌∷◌, ◌++◌}
use Rattle.std.specs.Prelude.{length, take, drop, map, reverse, unwrap_or, decimal, codes, encode_utf8_all, if◌then◌else◌}
use Rattle.unicode_width.specs.Width.{char_width}
use Rattle.psg_keys.specs.Lines.{Typed}

-- A control character could turn the state of a terminal, and some characters turn the direction of writing, or
-- change how wide the ones beside them are. Another one is drawn in place of these.
abbrev pub is_control : ℕ → Bool
is_control c = nat_lt c 32 || (nat_le 127 c && nat_le c 159)

abbrev pub is_left_out : ℕ → Bool
is_left_out c =
    (c == 0x61C) || (nat_le 0x200D c && nat_le c 0x200F)
    || (nat_le 0x2028 c && nat_le c 0x202E) || (nat_le 0x2066 c && nat_le c 0x2069)
    || (nat_le 0xFE00 c && nat_le c 0xFE0F)

abbrev pub drawn : ℕ → ℕ
drawn c = if is_control c || is_left_out c then 0xFFFD else c

-- the columns of a character as it is drawn
unfoldable pub width_of : ℕ → ℕ
width_of c = unwrap_or (char_width false (drawn c)) 0

-- how many of the characters have room in that many columns, and how many columns are left then
abbrev pub fitting : ℕ → List ℕ → ℕ
fitting room [] = 0
fitting room (c ∷ text) = if nat_le (width_of c) room then 1 + fitting (room - width_of c) text else 0

abbrev pub left_over : ℕ → List ℕ → ℕ
left_over room [] = room
left_over room (c ∷ text) = if nat_le (width_of c) room then left_over (room - width_of c) text else room

-- The columns after the prompt, of which the last one stays free. A terminal counts as one of 8 columns at least.
abbrev pub room : ℕ → ℕ
room cols = max cols 8 - 6

-- the characters before the cursor have three quarters of them
abbrev pub front_room : ℕ → ℕ
front_room cols = room cols * 3 / 4

-- the columns of what is drawn before the cursor
abbrev pub front_columns : ℕ → List ℕ → ℕ
front_columns cols before = front_room cols - left_over (front_room cols) (reverse before)

-- the characters before the cursor that have room, which are the nearest ones
abbrev pub front : ℕ → List ℕ → List ℕ
front cols before = drop (length before - fitting (front_room cols) (reverse before)) before

-- those after it that have room then
abbrev pub back : ℕ → Typed → List ℕ
back cols line = take (fitting (room cols - front_columns cols line.before) line.after) line.after

abbrev pub encoded : List ℕ → List ℕ
encoded text = encode_utf8_all (map drawn text)

-- an erasure of what is behind the cursor, and the cursor at a column
abbrev pub end_of_row : ℕ → List ℕ
end_of_row column = 27 ∷ 91 ∷ 75 ∷ 13 ∷ 27 ∷ 91 ∷ (decimal column ++ 67 ∷ [])

-- To the left edge, the prompt, the part of the line, an erasure of what is behind it, and the cursor at its place.
abbrev pub row : ℕ → Typed → List ℕ
row cols line =
    (13 ∷ codes "psg> ") ++ encoded (front cols line.before) ++ encoded (back cols line)
    ++ end_of_row (5 + front_columns cols line.before)

-- the screen is empty, with the cursor in its first row
abbrev pub cleared : List ℕ
cleared = 27 ∷ 91 ∷ 72 ∷ 27 ∷ 91 ∷ 50 ∷ 74 ∷ []
