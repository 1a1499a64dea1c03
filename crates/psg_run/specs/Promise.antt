-- The promise of a run of the program. Reading says what a run reads, Chain how lines are played, Editing and Live what
-- the plain editor does with them, Framed how replies are written, Windowed what it does for several windows, Generated
-- what `gen` says, Arranging what `layout` says, Exporting what `self` does, Formatting what `format` says, Explaining
-- what `explain` says, and Worlds what is outside and what is put. (Playing, Turns and Endings are about the calls of
-- this crate, and Outputs and WindowLaws about its laws.)
use Rattle.std.specs.Prelude.{ℕ, ◌≡◌, ◌≤◌, true, false, List, [], ◌∷◌, codes, decimal}
use Rattle.psg_langs.specs.declared.named.TheConstants.{MINI, SELF}
use Rattle.psg_terms.specs.Names.{Name}
use Rattle.psg_session.specs.Replies.{feed}
use Rattle.psg_run.specs.declared.status.Status.{Status}
use Rattle.psg_run.specs.declared.status.Status.TheVariants as ends_with
use Rattle.psg_run.specs.Arranging.{ArrangesBy, most_columns}
use Rattle.psg_run.specs.Editing.{Edits}
use Rattle.psg_run.specs.Explaining.{Explains}
use Rattle.psg_run.specs.Exporting.{Exports, GoesOnAsSelf}
use Rattle.psg_run.specs.Formatting.{Formats}
use Rattle.psg_run.specs.Linting.{Lints}
use Rattle.psg_run.specs.Generated.{Generates}
use Rattle.psg_run.specs.Framed.{framed_text}
use Rattle.psg_run.specs.Live.{Talks, TalksBy}
use Rattle.psg_run.specs.Reading.{Defines, OnCommented, OnDefinition, Reads, most_script_bytes}
use Rattle.psg_run.specs.Scripts.{script_lines}
use Rattle.psg_run.specs.Windowed.{PlaysWindows}
use Rattle.psg_run.specs.Worlds.{Act, Puts, World}

-- What the words ask for. `rules` is the file of a layout, `file` the one that is written, and `program` that of a
-- program.
pub data Form : Type 0 where
  check : (definition : Name) → Form
  edit : (definition script : Name) → Form
  live : (definition : Name) → Form
  framed : (definition : Name) → Form
  windows : (definition script : Name) → Form
  gen : (number : ℕ) → Form
  layout : (definition script rules : Name) (columns : ℕ) → Form
  itself : (script file : Name) → Form
  format : (definition kind program : Name) → Form
  check_format : (definition kind program : Name) → Form
  lint : (definition kind program : Name) → Form
  explain : (definition script : Name) → Form

-- the words after the program's name have this form
abbrev pub IsForm : List Name → Form → Type 0
IsForm words (check definition) = words ≡ codes "check" ∷ definition ∷ []
IsForm words (edit definition script) = words ≡ codes "edit" ∷ definition ∷ script ∷ []
IsForm words (live definition) = words ≡ codes "live" ∷ definition ∷ []
IsForm words (framed definition) = words ≡ codes "live" ∷ codes "--framed" ∷ definition ∷ []
IsForm words (windows definition script) = words ≡ codes "windows" ∷ definition ∷ script ∷ []
IsForm words (gen number) = (words ≡ codes "gen" ∷ decimal number ∷ []) × (1 ≤ number) × (number ≤ 1000)
IsForm words (layout definition script rules columns) =
    (words ≡ codes "layout" ∷ definition ∷ script ∷ rules ∷ decimal columns ∷ [])
    × (1 ≤ columns) × (columns ≤ most_columns)
IsForm words (itself script file) = words ≡ codes "self" ∷ script ∷ file ∷ []
IsForm words (format definition kind program) = words ≡ codes "format" ∷ definition ∷ kind ∷ program ∷ []
IsForm words (check_format definition kind program) =
    words ≡ codes "format" ∷ definition ∷ kind ∷ program ∷ codes "--check" ∷ []
IsForm words (lint definition kind program) = words ≡ codes "lint" ∷ definition ∷ kind ∷ program ∷ []
IsForm words (explain definition script) = words ≡ codes "explain" ∷ definition ∷ script ∷ []

-- the words have none of the forms
abbrev pub HasNoForm : List Name → Type 0
HasNoForm words = (form : Form) → IsForm words form → ⊥

-- What a form asks for: what is read, in this order, and what is done with it.
abbrev pub IsRunOf : Form → Act
IsRunOf (check definition) = OnDefinition definition (λ def. Puts (feed (codes "accepted")) ends_with.Done)
IsRunOf (edit definition script) =
    OnDefinition definition (λ def. Reads script most_script_bytes (λ bytes. Edits def (script_lines bytes)))
IsRunOf (live definition) = OnDefinition definition Talks
IsRunOf (framed definition) = OnDefinition definition (TalksBy framed_text)
IsRunOf (windows definition script) =
    OnDefinition definition (λ def. Reads script most_script_bytes (λ bytes. PlaysWindows def (script_lines bytes)))
IsRunOf (gen number) = Defines MINI.now (λ def. Generates def number)
IsRunOf (layout definition script rules columns) =
    OnDefinition definition
    (λ def. Reads script most_script_bytes (λ bytes. ArrangesBy def rules columns (script_lines bytes)))
IsRunOf (itself script file) =
    Defines SELF.now
    (λ def. GoesOnAsSelf def (Reads script most_script_bytes (λ bytes. Exports def file (script_lines bytes))))
IsRunOf (format definition kind program) =
    OnCommented definition (λ comment def. Formats false def comment kind program)
IsRunOf (check_format definition kind program) =
    OnCommented definition (λ comment def. Formats true def comment kind program)
IsRunOf (lint definition kind program) = OnCommented definition (λ comment def. Lints def comment kind program)
IsRunOf (explain definition script) =
    OnDefinition definition (λ def. Reads script most_script_bytes (λ bytes. Explains def (script_lines bytes)))

-- A run does what the words ask for. Words of no form have their status, and nothing else happens.
pub record IsRun (words : List Name) (old new : World) (status : Status) : Type 0 where
  pub of_form : (form : Form) → IsForm words form → IsRunOf form old new status
  pub no_form : HasNoForm words → (status ≡ ends_with.Words) × (new ≡ old)
