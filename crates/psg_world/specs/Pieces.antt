-- What an input that is read by pieces has still to give, how many bytes it gave, and which reads of it failed.
use Rattle.std.specs.Prelude.{ℕ, ◌≡◌, ◌+◌, List, [], ◌∷◌, ◌++◌, length, min, max, slice_get}
use Rattle.std.specs.Prelude.{Option, Some, None, Result, Ok, Err, Vec}
use Rattle.std.specs.Io.KnownBytes.{Consumes, IsAtEnd}
use Rattle.std.specs.declared.alloc.Global.{Global}
use Rattle.psg_world.specs.declared.world.ReadStop.{ReadStop}
use Rattle.psg_world.specs.declared.world.ReadStop.TheVariants as read_stops
use Rattle.psg_world.specs.Sinks.{raised_by}

-- The piece is the next of the bytes that are known, and it is empty only at their end. Where the bytes are cut is not
-- said.
abbrev pub IsPieceOf : Option (List ℕ) → Option (List ℕ) → List ℕ → Type 0
IsPieceOf old new piece = Consumes old new piece × (piece ≡ [] → IsAtEnd new)

-- the bytes of a piece that is given are counted
abbrev pub given_after_piece : ℕ → Result (Vec ℕ Global) ReadStop → ℕ
given_after_piece given (Ok piece) = raised_by given (length piece.items)
given_after_piece given (Err stop) = given

-- A read that failed adds at the end how many bytes were given before it, and no other answer adds anything.
abbrev pub missed_after_piece : List ℕ → ℕ → Result (Vec ℕ Global) ReadStop → List ℕ
missed_after_piece missed given (Ok piece) = missed
missed_after_piece missed given (Err read_stops.Failed) = missed ++ given ∷ []
missed_after_piece missed given (Err read_stops.Memory) = missed

-- An input in memory that is read by pieces: the bytes still to be given, the sizes of the pieces, the numbers of the
-- reads that are to fail, how many reads there were, how many bytes were given, and after how many each read failed.
-- The first read has number 1.
pub record PiecesInMemory : Type 0 where
  pub left : List ℕ
  pub sizes : List ℕ
  pub failing : List ℕ
  pub calls : ℕ
  pub given : ℕ
  pub missed : List ℕ

-- a size, where there is one, as the most bytes that a read gives: at least one, and never more than are asked for
abbrev pub size_by : Option ℕ → ℕ → ℕ
size_by None most = most
size_by (Some size) most = min most (max size 1)

-- how many bytes a read gives at most, after that many reads
abbrev pub size_after : List ℕ → ℕ → ℕ → ℕ
size_after sizes calls most = size_by (slice_get sizes calls) most
