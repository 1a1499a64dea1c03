-- Which key the bytes of a key are.
use Rattle.std.specs.Prelude.{ℕ, ◌+◌, ◌-◌, ◌*◌, ◌==◌, ◌&&◌, ◌||◌, Bool, true, false, List, [], ◌∷◌, Option, Some, None}
use Rattle.std.specs.Prelude.{length, take, drop, position, slice_index, slice_get}
use Rattle.std.specs.Prelude.{nat_lt, nat_le, chars, if◌then◌else◌}
use Rattle.std.specs.Str.{is_utf8}
use Rattle.psg_keys.specs.Sizes.{is_between}
use Rattle.psg_keys.specs.declared.key.Key.{Key}
use Rattle.psg_keys.specs.declared.key.Key.TheVariants as keys

-- the character that the bytes are in UTF-8
abbrev pub character_of : List ℕ → Option ℕ
character_of bytes = if is_utf8 bytes then slice_get (chars bytes) 0 else None

-- a control character below 32, which is no escape: Ctrl with a letter, except for those with keys of their own
abbrev pub control_key : ℕ → Key
control_key c =
    if c == 13 then keys.Enter
    else if c == 9 then keys.Tab
    else if c == 8 then keys.Backspace
    else if is_between 1 26 c then keys.Control (c + 96) else keys.Unknown

abbrev pub typed_key : ℕ → Key
typed_key c =
    if nat_lt c 32 then control_key c
    else if c == 127 then keys.Backspace
    else if is_between 128 159 c then keys.Unknown else keys.Char c

abbrev pub character_key : Bool → Option ℕ → Key
character_key pasting None = keys.Unknown
character_key pasting (Some c) = if pasting then keys.Pasted c else typed_key c

-- `ESC [ A` and `ESC O A`
abbrev pub letter_key : ℕ → Key
letter_key b =
    if b == 65 then keys.Up
    else if b == 66 then keys.Down
    else if b == 67 then keys.Right
    else if b == 68 then keys.Left
    else if b == 70 then keys.End
    else if b == 72 then keys.Home
    else if b == 90 then keys.BackTab else keys.Unknown

-- `ESC [ 3 ~`
abbrev pub number_key : ℕ → Key
number_key n =
    if (n == 1) || (n == 7) then keys.Home
    else if n == 2 then keys.Insert
    else if n == 3 then keys.Delete
    else if (n == 4) || (n == 8) then keys.End
    else if n == 5 then keys.PageUp
    else if n == 6 then keys.PageDown
    else if n == 200 then keys.PasteBegins else keys.Unknown

abbrev pub numbered_key : Option ℕ → Key
numbered_key None = keys.Unknown
numbered_key (Some n) = number_key n

-- the number with one more digit, below 100,000
abbrev pub with_digit : ℕ → ℕ → Option ℕ
with_digit n d = if is_between 48 57 d && nat_lt n 10_000 then Some (n * 10 + (d - 48)) else None

-- the number that digits are the decimal of, after those of n; below 100,000
abbrev pub number_after : ℕ → List ℕ → Option ℕ
number_after n [] = Some n
number_after n (d ∷ digits) =
    if is_between 48 57 d && nat_lt n 10_000 then number_after (n * 10 + (d - 48)) digits else None

abbrev pub number_of : List ℕ → Option ℕ
number_of [] = None
number_of (d ∷ digits) = number_after 0 (d ∷ digits)

-- `ESC [ 24 ; 80 R` is the size of the screen, which has columns. With 1 for the rows it is another key.
abbrev pub size_by : Option ℕ → Option ℕ → Key
size_by (Some rows) (Some cols) = if nat_le 2 rows && nat_le 1 cols then keys.Size rows cols else keys.Unknown
size_by (Some rows) None = keys.Unknown
size_by None cols = keys.Unknown

abbrev pub size_at : List ℕ → Option ℕ → Key
size_at inside None = keys.Unknown
size_at inside (Some place) = size_by (number_of (take place inside)) (number_of (drop (place + 1) inside))

abbrev pub size_key : List ℕ → Key
size_key inside = size_at inside (position (λ b. b == 59) inside)

-- a sequence by its second byte, the bytes inside, and the last one
abbrev pub sequence_key : ℕ → List ℕ → ℕ → Key
sequence_key kind inside last =
    if length inside == 0 then letter_key last
    else if (kind == 91) && (last == 126) then numbered_key (number_of inside)
    else if (kind == 91) && (last == 82) then size_key inside else keys.Unknown

-- what follows the escape of a key
abbrev pub escape_key : List ℕ → Key
escape_key [] = keys.Escape
escape_key (kind ∷ []) = keys.Unknown
escape_key (kind ∷ b ∷ body) =
    sequence_key kind (take (length body) (b ∷ body)) (slice_index (b ∷ body) (length body))

abbrev pub pasted_escape_key : List ℕ → Key
pasted_escape_key [] = keys.Pasted 27
pasted_escape_key (b ∷ rest) = keys.PasteEnds

-- the key that these bytes are, in a paste or not
abbrev pub key_of : Bool → List ℕ → Key
key_of pasting [] = keys.Unknown
key_of pasting (b ∷ rest) =
    if b == 27 then (if pasting then pasted_escape_key rest else escape_key rest)
    else character_key pasting (character_of (b ∷ rest))

-- whether a paste goes on after a key
abbrev pub goes_on : Bool → Key → Bool
goes_on pasting keys.PasteBegins = true
goes_on pasting keys.PasteEnds = false
goes_on pasting _ = pasting
