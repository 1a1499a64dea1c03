-- Ranges of a text, as values.
use Rattle.std.specs.Prelude.{ℕ, ◌≡◌, List, codes}
use Rattle.serde_json.specs.Data.{Data, unsigned, number, object, member, no_members}
use Rattle.psg_documents.specs.declared.encoding.Encoding.{Encoding}
use Rattle.psg_documents.specs.Positions.{IsPositionOf}

abbrev pub position_data : (line column : ℕ) → Data
position_data line column = object (member (codes "character") (number (unsigned column))
    (member (codes "line") (number (unsigned line)) no_members))

abbrev pub range_data : (start end : Data) → Data
range_data start end = object (member (codes "end") end (member (codes "start") start no_members))

-- the range from a byte of the text up to another one
pub record IsRange (encoding : Encoding) (text : List ℕ) (from to : ℕ) (d : Data) : Type 0 where
  pub line : ℕ
  pub column : ℕ
  pub end_line : ℕ
  pub end_column : ℕ
  pub start : IsPositionOf encoding text from line column
  pub end : IsPositionOf encoding text to end_line end_column
  pub is : d ≡ range_data (position_data line column) (position_data end_line end_column)
