-- Positions of the Language Server Protocol, a line and a column from 0, and the bytes of a text where they are.
use Rattle.std.specs.Prelude.{ℕ, ◌+◌, ◌-◌, ◌≡◌, ◌≢◌, ◌<◌, ◌≤◌, ◌==◌, ◌&&◌, nat_lt, nat_le, Bool, List, length, take}
use Rattle.std.specs.Prelude.{slice_index, count_by, if◌then◌else◌}
use Rattle.std.specs.List.{sum_by}
use Rattle.std.specs.Char.{len_utf8}
use Rattle.std.specs.Str.{IsCharBoundary}
use Rattle.psg_documents.specs.declared.encoding.Encoding.{Encoding}
use Rattle.psg_documents.specs.declared.encoding.Encoding.TheVariants as encodings

-- how many units of a column a character has
abbrev pub units_of : Encoding → ℕ → ℕ
units_of encodings.Utf8 c = len_utf8 c
units_of encodings.Utf16 c = if nat_lt c 0x10000 then 1 else 2
units_of encodings.Utf32 c = 1

-- the byte goes on with a character
abbrev pub goes_on : ℕ → Bool
goes_on b = nat_le 128 b && nat_lt b 192

-- The units of a character, told by its bytes: the first one has those that the others have not. That a text has as
-- many units as its characters is a law.
abbrev pub unit : Encoding → ℕ → ℕ
unit encodings.Utf8 b = 1
unit encodings.Utf16 b = if goes_on b then 0 else if nat_lt b 240 then 1 else 2
unit encodings.Utf32 b = if goes_on b then 0 else 1

abbrev pub units : Encoding → List ℕ → ℕ
units encoding text = sum_by (unit encoding) text

abbrev pub is_feed : ℕ → Bool
is_feed b = b == 10

-- how many line feeds the text has
abbrev pub feeds : List ℕ → ℕ
feeds text = count_by is_feed text

-- a line begins at the beginning of the text, and after each line feed
abbrev pub IsLineStart : List ℕ → ℕ → Type 0
IsLineStart text start = (start ≤ length text) × (0 < start → slice_index text (start - 1) ≡ 10)

-- A place where a person may be: the beginning of a character or the end of the text, and not within the end of a line,
-- which is a carriage return and a line feed.
pub record IsStop (text : List ℕ) (byte : ℕ) : Type 0 where
  pub begins : IsCharBoundary text byte
  pub whole : 0 < byte → slice_index text byte ≡ 10 → slice_index text (byte - 1) ≢ 13

-- The line of a byte is the number of line feeds before it, and its column the units from the beginning of its line.
pub record IsPosition (encoding : Encoding) (text : List ℕ) (byte line column : ℕ) : Type 0 where
  pub lines : feeds (take byte text) ≡ line
  pub start : ℕ
  pub begins : IsLineStart text start
  pub same : feeds (take start text) ≡ line
  pub before : start ≤ byte
  pub columns : units encoding (take start text) + column ≡ units encoding (take byte text)

-- a position is not after another one
abbrev pub IsUpTo : (line column other_line other_column : ℕ) → Type 0
IsUpTo line column other_line other_column = (line ≤ other_line) × (other_line ≤ line → column ≤ other_column)

-- The byte of a position: the last place that is not after it. So past the end of a line it is the line's end, past the
-- last line the end of the text, and within a character the character's beginning.
pub record IsByteOf (encoding : Encoding) (text : List ℕ) (line column byte : ℕ) : Type 0 where
  pub stop : IsStop text byte
  pub found_line : ℕ
  pub found_column : ℕ
  pub found : IsPosition encoding text byte found_line found_column
  pub up_to : IsUpTo found_line found_column line column
  pub last : (other other_line other_column : ℕ) → IsStop text other
      → IsPosition encoding text other other_line other_column → IsUpTo other_line other_column line column
      → other ≤ byte

-- the last place that is not after a byte
pub record IsLastStop (text : List ℕ) (byte place : ℕ) : Type 0 where
  pub stop : IsStop text place
  pub up_to : place ≤ byte
  pub last : (other : ℕ) → IsStop text other → other ≤ byte → other ≤ place

-- the position of a byte is that of the last place which is not after it
pub record IsPositionOf (encoding : Encoding) (text : List ℕ) (byte line column : ℕ) : Type 0 where
  pub place : ℕ
  pub is_last : IsLastStop text byte place
  pub is_at : IsPosition encoding text place line column

-- the beginnings of all lines, one after the other
pub record AreStarts (text : List ℕ) (starts : List ℕ) : Type 0 where
  pub count : length starts ≡ feeds text + 1
  pub begins : (k : ℕ) → k < length starts → IsLineStart text (slice_index starts k)
  pub lines : (k : ℕ) → k < length starts → feeds (take (slice_index starts k) text) ≡ k
