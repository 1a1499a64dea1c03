-- What named files hold, and which reads and writes of them failed.
use Rattle.std.specs.Prelude.{ℕ, ◌≡◌, ◌≢◌, ◌+◌, List, [], ◌∷◌, ◌++◌, take, Option, Some, None, Result, Ok, Err, Vec}
use Rattle.std.specs.Prelude.{Bool, true, false, refl, unwrap_or}
use Rattle.std.specs.Coded.{Coded, code_by, coded×, coded_bool, coded_list, coded_ℕ}
use Rattle.std.specs.declared.alloc.Global.{Global}
use Rattle.std.specs.Cmp.Lexicographic.{slice_cmp}
use Rattle.std.specs.Ordering.{nat_cmp}
use Rattle.std.specs.FinMap as map
use Rattle.psg_world.specs.declared.world.ReadStop.{ReadStop}
use Rattle.psg_world.specs.declared.world.ReadStop.TheVariants as read_stops
use Rattle.psg_world.specs.declared.world.WriteStop.{WriteStop}
use Rattle.psg_world.specs.declared.world.WriteStop.TheVariants as write_stops

-- The bytes of each file, by the bytes of its name.
abbrev pub Held : Type 0
Held = map.FinMap (slice_cmp nat_cmp) (List ℕ)

-- the code of files: that of a map from names to bytes
abbrev pub held_code : Coded Held
held_code = map.code (coded_list coded_ℕ) (coded_list coded_ℕ)

-- A call that failed: a read or a write, and the name that it was given.
pub data Entry : Type 0 where
  reading : (name : List ℕ) → Entry
  writing : (name : List ℕ) → Entry

-- an entry is stored as whether it is a write, and its name
abbrev pub entry_parts : Entry → Bool × List ℕ
entry_parts (reading name) = (false, name)
entry_parts (writing name) = (true, name)

-- the entry whose parts these are
abbrev pub entry_of_parts : Bool × List ℕ → Entry
entry_of_parts (true, name) = writing name
entry_of_parts (false, name) = reading name

pub same_entry : (entry : Entry) → entry_of_parts (entry_parts entry) ≡ entry
same_entry (reading name) = refl
same_entry (writing name) = refl

-- the code of an entry: that of its parts
abbrev pub entry_code : Coded Entry
entry_code = code_by (Bool × List ℕ) (coded× coded_bool (coded_list coded_ℕ)) entry_parts entry_of_parts same_entry

-- The bytes of a name; a name that isn't there counts as an empty file.
abbrev pub bytes_of : Held → List ℕ → List ℕ
bytes_of held name = unwrap_or (map.get held name) []

-- All bytes where they are at most `limit`, otherwise the first `limit + 1`. The first `limit` would not do: a file of
-- `limit` bytes and a longer one would read alike.
abbrev pub front_of : ℕ → List ℕ → List ℕ
front_of limit bytes = take (limit + 1) bytes

-- A read that failed adds its own entry at the end, and no other answer adds one.
abbrev pub entries_after_read : List Entry → List ℕ → Result (Vec ℕ Global) ReadStop → List Entry
entries_after_read entries name (Ok bytes) = entries
entries_after_read entries name (Err read_stops.Failed) = entries ++ reading name ∷ []
entries_after_read entries name (Err read_stops.Memory) = entries

-- A write that failed adds its own entry at the end, and no other answer adds one.
abbrev pub entries_after_write : List Entry → List ℕ → Result (Unit {0}) WriteStop → List Entry
entries_after_write entries name (Ok done) = entries
entries_after_write entries name (Err write_stops.Failed) = entries ++ writing name ∷ []
entries_after_write entries name (Err write_stops.Memory) = entries

-- Every other name has what it had. Of the name itself this says nothing.
abbrev pub AgreesOutside : List ℕ → Held → Held → Type 0
AgreesOutside name old new = (other : List ℕ) → other ≢ name → map.get new other ≡ map.get old other

-- What was known is known, with every name but this one as it was; what was not known isn't known now.
abbrev pub OthersStand : List ℕ → Option Held → Option Held → Type 0
OthersStand name None new = new ≡ None
OthersStand name (Some old) None = ⊥
OthersStand name (Some old) (Some new) = AgreesOutside name old new
