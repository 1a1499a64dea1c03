-- The header of a frame of the Language Server Protocol: lines, of which one says how many bytes follow, and an empty
-- one.
use Rattle.std.specs.Prelude.{ℕ, ◌+◌, ◌-◌, ◌*◌, ◌<◌, ◌≤◌, ◌==◌, ◌&&◌, ◌||◌, Bool, List, [], ◌∷◌, Option, Some, None}
use Rattle.std.specs.Prelude.{zero, suc}
use Rattle.std.specs.Prelude.{length, take, drop, position, slice_index, nat_lt, nat_le, codes, if◌then◌else◌}
use Rattle.std.specs.Prelude.{option_and_then}
use Rattle.std.specs.List.{prefix_len, suffix_len}
use Rattle.std.specs.Str.{str_eq_ignore_ascii_case}
use Rattle.psg_protocol.specs.declared.headers.Head.{Head}
use Rattle.psg_protocol.specs.declared.headers.Head.TheVariants as heads

-- a header has at most that many lines, and a line that many bytes with its line feed
abbrev pub most_lines : ℕ
most_lines = 64

abbrev pub most_bytes : ℕ
most_bytes = 4096

-- where the line feed of the first line is, if it is soon enough
abbrev pub feed_of : List ℕ → Option ℕ
feed_of bytes = position (λ b. b == 10) (take most_bytes bytes)

-- a line without a carriage return at its end
abbrev pub without_return : List ℕ → List ℕ
without_return line = if slice_index line (length line - 1) == 13 then take (length line - 1) line else line

abbrev pub is_blank : ℕ → Bool
is_blank b = (b == 32) || (b == 9)

-- without the spaces and tabs at the front
abbrev pub without_front_blanks : List ℕ → List ℕ
without_front_blanks text = drop (prefix_len is_blank text) text

-- without the spaces and tabs at the end
abbrev pub without_end_blanks : List ℕ → List ℕ
without_end_blanks text = take (length text - suffix_len is_blank text) text

-- without spaces and tabs at both ends
abbrev pub trimmed : List ℕ → List ℕ
trimmed text = without_end_blanks (without_front_blanks text)

-- the number with one more digit, if it has then at most 15 digits
abbrev pub with_digit : ℕ → ℕ → Option ℕ
with_digit n d = if nat_le 48 d && nat_le d 57 && nat_lt n 100_000_000_000_000 then Some (n * 10 + (d - 48)) else None

-- the number that digits are the decimal of, after those of n
abbrev pub number_after : ℕ → List ℕ → Option ℕ
number_after n [] = Some n
number_after n (d ∷ digits) = option_and_then (λ m. number_after m digits) (with_digit n d)

-- the number that some digits are the decimal of
abbrev pub number_of : List ℕ → Option ℕ
number_of [] = None
number_of (d ∷ digits) = number_after 0 (d ∷ digits)

-- a name in any case
abbrev pub is_length_name : List ℕ → Bool
is_length_name name = str_eq_ignore_ascii_case name (codes "Content-Length")

-- what a line says of the length, after the lines before it: the last line of that name counts
abbrev pub length_at : Option ℕ → List ℕ → Option ℕ → Option ℕ
length_at found line None = found
length_at found line (Some colon) =
    if is_length_name (take colon line) then number_of (trimmed (drop (colon + 1) line)) else found

abbrev pub length_after : Option ℕ → List ℕ → Option ℕ
length_after found line = length_at found line (position (λ b. b == 58) line)

-- a header ends at an empty line
abbrev pub ended : Option ℕ → ℕ → Head
ended None size = heads.Lost
ended (Some body) size = heads.Whole size body

-- the line before a line feed
abbrev pub line_at : List ℕ → ℕ → List ℕ
line_at bytes feed = without_return (take feed bytes)

-- a line of a header that goes on, or is too long
abbrev pub short_head : ℕ → Head
short_head size = if nat_lt size most_bytes then heads.Waits else heads.Lost

-- what is known by where the first line feed is; `next` says what is known after the line
abbrev pub head_by : List ℕ → Option ℕ → ℕ → Option ℕ → (ℕ → Head) → Head
head_by bytes found size None next = short_head (length bytes)
head_by bytes found size (Some feed) next =
    if length (line_at bytes feed) == 0 then ended found (size + feed + 1) else next feed

-- The header that the bytes begin with, after lines of `size` bytes that said `found`, and with that many lines still
-- to be read.
unfoldable pub head_after : ℕ → Option ℕ → ℕ → List ℕ → Head
head_after zero found size bytes = heads.Lost
head_after (suc lines) found size bytes = head_by bytes found size (feed_of bytes)
    (λ feed. head_after lines (length_after found (line_at bytes feed)) (size + feed + 1) (drop (feed + 1) bytes))

-- the header that the bytes begin with
abbrev pub head_of : List ℕ → Head
head_of bytes = head_after most_lines None 0 bytes

-- a header is within that many bytes, takes one at least, and the length that it says has at most 15 digits
abbrev pub IsWithin : ℕ → Head → Type 0
IsWithin size heads.Waits = Unit {0}
IsWithin size heads.Lost = Unit {0}
IsWithin size (heads.Whole head body) = (0 < head) × (head ≤ size) × (body < 1_000_000_000_000_000)
