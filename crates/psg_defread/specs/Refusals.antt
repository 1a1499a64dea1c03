-- The first fault of a file.
use Rattle.std.specs.Prelude.{ℕ, List, [], IsUtf8}
use Rattle.std.specs.List.{AllByRecursion}
use Rattle.std.specs.Str.Lines.{lines}
use Rattle.psg_deflines.specs.Entries.{Entry, written, AreEntries, HasHead, behind_head, IsPlain}
use Rattle.psg_deflines.specs.Refusals.{FormRefusal}
use Rattle.psg_defcheck.specs.Faults.{IsMeaningFault}
use Rattle.psg_deflines.specs.declared.fault.DefFault.{DefFault}
use Rattle.psg_deflines.specs.declared.fault.ReadFault.{ReadFault}
use Rattle.psg_deflines.specs.declared.fault.ReadFault.TheVariants.{Def, Memory}

-- A fault of a line's meaning, where no text has a fault of form.
pub record HasMeaningFault (version : ℕ) (texts : List (List ℕ)) (fault : DefFault) : Type 0 where
  pub entries : List Entry
  pub each : AreEntries [] texts entries
  pub plain : AllByRecursion (IsPlain version) (written entries)
  pub meaning : IsMeaningFault entries fault

-- The first fault: of the file, of its head and of the form of its lines, and then of their meaning.
pub data Refusal (bytes : List ℕ) (fault : DefFault) : Type 0 where
  no_form : FormRefusal bytes fault → Refusal bytes fault
  no_meaning : (version : ℕ) → IsUtf8 bytes → HasHead version (lines bytes)
      → HasMeaningFault version (behind_head (lines bytes)) fault → Refusal bytes fault

-- a fault is the first one of the bytes; memory may run out at any time
abbrev pub IsReadFault : List ℕ → ReadFault → Type 0
IsReadFault bytes (Def fault) = Refusal bytes fault
IsReadFault bytes Memory = Unit {0}
