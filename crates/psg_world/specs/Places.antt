-- The place of the file of a name in a list of files.
use Rattle.std.specs.Prelude.{ℕ, ◌≡◌, ◌<◌, List, length, take, slice_index_or, None, Vec}
use Rattle.std.specs.declared.alloc.Global.{Global}
use Rattle.std.specs.declared.string.String.{String}
use Rattle.std.specs.String.{string_bytes}
use Rattle.std.specs.Cmp.Lexicographic.{slice_cmp}
use Rattle.std.specs.Ordering.{nat_cmp}
use Rattle.std.specs.FinMap as map
use Rattle.psg_world.specs.Memory.{entries_of}

-- No file of the list has this name.
abbrev pub IsAbsent : List ℕ → List (String Global × Vec ℕ Global) → Type 0
IsAbsent name files = map.find (slice_cmp nat_cmp) name (entries_of files) ≡ None

-- The first file of this name is at this index.
pub record IsPlaceOf (name : List ℕ) (files : List (String Global × Vec ℕ Global)) (index : ℕ) : Type 0 where
  pub within : index < length files
  pub same : (other : String Global × Vec ℕ Global) → string_bytes (slice_index_or files index other).0 ≡ name
  pub first : IsAbsent name (take index files)
