-- The places of a program in its repaired program, where the blamed places are opened.
use Rattle.std.specs.Prelude.{ℕ, ◌≡◌, ◌-◌, ◌<◌, ◌≤◌, ◌⊎◌, ◌==◌, ◌||◌, Bool, true, false, cond, List, [], ◌∷◌, ◌++◌}
use Rattle.std.specs.Prelude.{length, nat_lt, Option, Some, None, option_map}
use Rattle.psg_grammar.specs.declared.types.Definition.{Definition}
use Rattle.psg_grammar.specs.Fragments.{Fragment}
use Rattle.psg_grammar.specs.Legal.{IsCompletable}
use Rattle.psg_grammar.specs.Paths.{Path}
use Rattle.psg_places.specs.declared.blaming.Blamed.{Blamed}
use Rattle.psg_places.specs.declared.place.Place.{Place}
use Rattle.psg_places.specs.declared.place.Place.TheVariants as places
use Rattle.psg_cache.specs.Annotated.{Annotated}
use Rattle.psg_cache.specs.Notes.{IsNoteFault, IsNoteOf}
use Rattle.psg_cache.specs.declared.note.NoteFault.{NoteFault}
use Rattle.psg_cache.specs.declared.note.NoteFault.TheVariants as notes
use Rattle.psg_places.specs.declared.fault.BlameFault.{BlameFault}
use Rattle.psg_places.specs.declared.fault.BlameFault.TheVariants as blames
use Rattle.psg_places.specs.Answers.{IsBlame, IsFound, IsLimit, IsOfTree}
use Rattle.psg_places.specs.Blame.{most_blamed}
use Rattle.psg_places.specs.Listings.{blamed_among}
use Rattle.psg_places.specs.Places.{places_of}
use Rattle.psg_places.specs.Ways.{earlier}
use Rattle.psg_keymap.specs.declared.repair.Repair.{Repair as Kept}

-- the blamed places of a program, and the program in which they are opened
pub record Repair : Type 0 where
  pub places : List Place
  pub tree : Fragment

-- Fewer than a hundred places are blamed, so that all blamed ones are known.
pub record IsRepair (def : Definition) (f : Fragment) (r : Repair) : Type 0 where
  pub found : Blamed
  pub blamed : IsFound (IsCompletable def) def f found
  pub places : r.places ≡ blamed_among found.kept 0 (places_of def f)
  pub few : length r.places < most_blamed
  pub tree : r.tree ≡ found.repaired

-- ---- what is found of a program

-- The blamed places are not known: no program is left with every place opened, or a tree that is tried passes a limit.
pub data IsUnknown (def : Definition) (f : Fragment) : Type 0 where
  none_left : IsBlame (IsCompletable def) def f None → IsUnknown def f
  limited : (kept : List Bool) (fault : NoteFault) → IsLimit def f kept fault → IsUnknown def f

-- memory ran out
abbrev pub is_memory : BlameFault → Bool
is_memory (blames.Limit kept fault) = false
is_memory blames.Memory = true

abbrev pub is_out : NoteFault → Bool
is_out notes.Deep = false
is_out notes.Big = false
is_out (notes.Wide path step) = false
is_out notes.Heavy = false
is_out notes.Memory = true

-- which places are kept, where that is known
abbrev pub IsBlamed : Definition → Fragment → Option Blamed → Type 0
IsBlamed def f None = IsUnknown def f
IsBlamed def f (Some found) = IsFound (IsCompletable def) def f found

-- The note of the repaired program with that many blamed places. There is none where these are a hundred, or where it
-- passes a limit.
abbrev pub IsNoteIn : Definition → ℕ → Fragment → Option Annotated → Type 0
IsNoteIn def blamed f None =
    (most_blamed ≤ blamed) ⊎ ((fault : NoteFault) × (IsNoteFault def f fault × IsOfTree fault))
IsNoteIn def blamed f (Some note) = (blamed < most_blamed) × IsNoteOf def f note

-- the blamed places in the order of the text, and the note of the program in which they are opened
pub record IsRepaired (def : Definition) (f : Fragment) (found : Blamed) (r : Kept) : Type 0 where
  pub places : r.places.items ≡ blamed_among found.kept 0 (places_of def f)
  pub note : IsNoteIn def (length r.places.items) found.repaired r.note

pub record IsRepairOf (def : Definition) (f : Fragment) (r : Kept) : Type 0 where
  pub found : Blamed
  pub blamed : IsFound (IsCompletable def) def f found
  pub repaired : IsRepaired def f found r

abbrev pub IsAnswer : Definition → Fragment → Option Kept → Type 0
IsAnswer def f None = IsUnknown def f
IsAnswer def f (Some r) = IsRepairOf def f r

-- ---- places in the repaired program

abbrev pub place_path : Place → Path
place_path (places.Node path) = path
place_path (places.Element path) = path
place_path (places.End path) = path
place_path (places.Name path n) = path

-- The place of the list at the path before which is put there what is put before this place in the program. The
-- elements before it that are blamed are left out. Where the list itself is, `there_of` of the blamed places says.
abbrev pub place_in : List Place → Path → ℕ → ℕ
place_in blamed list place = place - earlier blamed list place
