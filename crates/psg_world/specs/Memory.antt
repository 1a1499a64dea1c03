-- Files and a sink in memory, as contracts see them.
use Rattle.std.specs.Prelude.{ℕ, ◌==◌, ◌||◌, Bool, List, map as map_list, is_none, Vec, refl}
use Rattle.std.specs.Coded.{Coded, code_by, coded×, coded_list, coded_ℕ}
use Rattle.std.specs.declared.alloc.Global.{Global}
use Rattle.std.specs.declared.string.String.{String}
use Rattle.std.specs.String.{string_bytes}
use Rattle.std.specs.List.{list_any}
use Rattle.std.specs.FinMap as map
use Rattle.psg_world.specs.Files.{Held, Entry, held_code, entry_code}
use Rattle.psg_world.specs.Sinks.{raised}

-- Files in memory: what they hold, the numbers of the calls that are to fail, how many calls were made, and the calls
-- that failed.
pub record FilesInMemory : Type 0 where
  pub held : Held
  pub failing : List ℕ
  pub calls : ℕ
  pub faults : List Entry

-- such files are stored as the list of their fields
abbrev pub files_code : Coded FilesInMemory
files_code =
    code_by (Held × (List ℕ × (ℕ × List Entry)))
    (coded× held_code (coded× (coded_list coded_ℕ) (coded× coded_ℕ (coded_list entry_code))))
    (λ files. (files.held, (files.failing, (files.calls, files.faults))))
    (λ parts. record { held = parts.0; failing = parts.1.0; calls = parts.1.1.0; faults = parts.1.1.1 })
    (λ _. refl)

-- A sink in memory: the bytes taken, the numbers of the calls that are to fail, how many calls were made, and how many
-- failed.
pub record SinkInMemory : Type 0 where
  pub written : List ℕ
  pub failing : List ℕ
  pub calls : ℕ
  pub faults : ℕ

-- The next call is one that is to fail. The first call has number 1.
abbrev pub is_due : List ℕ → ℕ → Bool
is_due failing calls = list_any (λ number. number == raised calls) failing

-- A read of this name is to fail: its number says so, or the name isn't there.
abbrev pub fails_read : FilesInMemory → List ℕ → Bool
fails_read files name = is_due files.failing files.calls || is_none (map.get files.held name)

-- The name and the bytes of each file.
abbrev pub entries_of : List (String Global × Vec ℕ Global) → List (List ℕ × List ℕ)
entries_of files = map_list (λ file. (string_bytes file.0, file.1.items)) files

-- The files of a list. Of two files of one name the first one counts.
abbrev pub held_of : List (String Global × Vec ℕ Global) → Held
held_of files = map.from_entries (entries_of files)
