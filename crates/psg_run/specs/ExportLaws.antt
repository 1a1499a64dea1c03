-- `self` writes no file but its own, after the commands of its script; and its runs over the same files are alike.
use Rattle.std.specs.Prelude.{ℕ, ◌≡◌, ◌++◌, ◌⊎◌, List, Some, option_map}
use Rattle.std.specs.FinMap as map
use Rattle.std.specs.Io.KnownBytes.{append_known}
use Rattle.psg_langs.specs.declared.named.TheConstants.{SELF}
use Rattle.psg_terms.specs.Names.{Name}
use Rattle.psg_grammar.specs.declared.types.Definition.{Definition}
use Rattle.psg_world.specs.Files.{Held}
use Rattle.psg_session.specs.Exchanges.{Outside}
use Rattle.psg_run.specs.declared.status.Status.{Status}
use Rattle.psg_run.specs.declared.status.Status.TheVariants as ends_with
use Rattle.psg_run.specs.Chain.{Point, Runs, first_point}
use Rattle.psg_run.specs.Editing.{Editor, IsSilent, new_editor}
use Rattle.psg_run.specs.Promise.{IsRunOf, itself}
use Rattle.psg_run.specs.Reading.{IsAccepted}
use Rattle.psg_run.specs.Scripts.{script_lines}
use Rattle.psg_run.specs.Worlds.{AreBytes, World}

-- the files hold what they held, but this one may hold other bytes
abbrev pub HoldsOthers : Name → Outside → Outside → Type 0
HoldsOthers file before after =
    (after.held ≡ before.held)
    ⊎ ((bytes : List ℕ) × (after.held ≡ option_map (λ (held : Held). map.insert held file bytes) before.held))

-- The first lines of the script were played in silence, on the language of definitions. What the files hold at the end
-- of the run is what they held after these lines, except this one file.
pub record HoldsOthersSince (script file : Name) (old new : World) : Type 0 where
  pub def : Definition
  pub accepted : IsAccepted SELF.now def
  pub bytes : List ℕ
  pub are : AreBytes old script bytes
  pub played : List (List ℕ)
  pub left : List (List ℕ)
  pub split : script_lines bytes ≡ played ++ left
  pub texts : List ℕ
  pub last : Point Editor
  pub runs : Runs Editor (IsSilent def) (first_point Editor new_editor old) played texts last
  pub others : HoldsOthers file last.files new.files

-- A run of `self` leaves the files as they were, or it plays lines of its script and then writes no file but its own.
-- So each other file that it changes was written by a command of the script.
abbrev pub WritesNoOther : Type 0
WritesNoOther = (script file : Name) (old new : World) (status : Status) → IsRunOf (itself script file) old new status
    → (new.files.held ≡ old.files.held) ⊎ HoldsOthersSince script file old new

-- The definition is that of the language of definitions. Two runs of `self` with one script and one file that ended
-- well, over files that held the same and none of whose calls failed, wrote the same and left the same in the files.
abbrev pub HasOneExport : Definition → Type 0
HasOneExport def = IsAccepted SELF.now def → (script file : Name) (held : Held) (old new old' new' : World)
    → IsRunOf (itself script file) old new ends_with.Done → IsRunOf (itself script file) old' new' ends_with.Done
    → old.files.held ≡ Some held → old'.files.held ≡ Some held
    → new.files.entries ≡ old.files.entries → new'.files.entries ≡ old'.files.entries
    → (output : List ℕ) × (new.written ≡ append_known old.written output)
    × (new'.written ≡ append_known old'.written output) × (new'.files.held ≡ new.files.held)
