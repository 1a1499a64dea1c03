-- What an input has still to give, how many lines it gave, and which reads of it failed.
use Rattle.std.specs.Prelude.{ℕ, ◌≡◌, ◌==◌, ◌+◌, List, [], ◌∷◌, ◌++◌, cond, take, drop, map, Option, Some, None, Result}
use Rattle.std.specs.Prelude.{Ok, Err, Vec}
use Rattle.std.specs.Io.KnownBytes.{Consumes, IsAtEnd}
use Rattle.std.specs.Option.{option_map}
use Rattle.std.specs.declared.alloc.Global.{Global}
use Rattle.psg_world.specs.declared.world.ReadStop.{ReadStop}
use Rattle.psg_world.specs.declared.world.ReadStop.TheVariants as read_stops
use Rattle.psg_world.specs.Files.{front_of}
use Rattle.psg_world.specs.Sinks.{raised}

-- The lines that are known are those still to be given: the next one is given, or none where none is left. A line of
-- more than `limit` bytes is given as its first `limit + 1`.
abbrev pub GivesNext : ℕ → Option (List (List ℕ)) → Option (List (List ℕ)) → Option (Vec ℕ Global) → Type 0
GivesNext limit None new line = Unit {0}
GivesNext limit (Some []) new None = new ≡ Some []
GivesNext limit (Some []) new (Some line) = ⊥
GivesNext limit (Some (first ∷ rest)) new None = ⊥
GivesNext limit (Some (first ∷ rest)) new (Some line) = (line.items ≡ front_of limit first) × (new ≡ Some rest)

-- a line that is given is counted
abbrev pub given_after : ℕ → Result (Option (Vec ℕ Global)) ReadStop → ℕ
given_after given (Ok (Some line)) = raised given
given_after given (Ok None) = given
given_after given (Err stop) = given

-- A read that failed adds at the end how many lines were given before it, and no other answer adds anything.
abbrev pub missed_after : List ℕ → ℕ → Result (Option (Vec ℕ Global)) ReadStop → List ℕ
missed_after missed given (Ok line) = missed
missed_after missed given (Err read_stops.Failed) = missed ++ given ∷ []
missed_after missed given (Err read_stops.Memory) = missed

-- An input in memory: the lines still to be given, the numbers of the lines that can't be read, how many were given,
-- and after how many each read failed. The first line has number 1, and the end the number after that of the last line.
pub record InputInMemory : Type 0 where
  pub lines : List (List ℕ)
  pub failing : List ℕ
  pub given : ℕ
  pub missed : List ℕ

-- the bytes of the lines from a place on
abbrev pub lines_from : ℕ → List (Vec ℕ Global) → List (List ℕ)
lines_from place lines = map (λ line. line.items) (drop place lines)

-- the byte in front of the first line
abbrev pub under : ℕ → List (List ℕ) → List (List ℕ)
under byte [] = (byte ∷ []) ∷ []
under byte (line ∷ lines) = (byte ∷ line) ∷ lines

-- The lines of a text: each line feed ends one, and bytes after the last line feed are one more.
abbrev pub lines_of : List ℕ → List (List ℕ)
lines_of [] = []
lines_of (byte ∷ bytes) = cond (byte == 10) ([] ∷ lines_of bytes) (under byte (lines_of bytes))

-- the lines of a text, where it is known
abbrev pub told_lines : Option (List ℕ) → Option (List (List ℕ))
told_lines known = option_map lines_of known

-- what a read of one byte does to the bytes that are known
abbrev pub GivesByte : Option (List ℕ) → Option (List ℕ) → Option ℕ → Type 0
GivesByte old new None = Consumes old new [] × IsAtEnd new
GivesByte old new (Some byte) = Consumes old new (byte ∷ [])
