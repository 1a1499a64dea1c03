-- What `self` does: a script is played on the language of definitions, and the definition that it builds is written to
-- a file.
use Rattle.std.specs.Prelude.{ℕ, ◌≡◌, List, [], ◌++◌, Option, Some, None, codes}
use Rattle.psg_terms.specs.Names.{Name}
use Rattle.psg_grammar.specs.declared.types.Definition.{Definition}
use Rattle.psg_grammar.specs.declared.types.Kind.TheVariants as kinds
use Rattle.psg_grammar.specs.Paths.{Path}
use Rattle.psg_grammar.specs.WellFormed.{IsComplete}
use Rattle.psg_defread.specs.Reading.{IsReadAs, Spells}
use Rattle.psg_self.specs.Export.{IsFirstOpen, exported}
use Rattle.psg_self.specs.SelfLanguage.{IsSelf}
use Rattle.psg_session.specs.Exchanges.{IsAnswered, Outside, keeping}
use Rattle.psg_session.specs.Marked.{path_text}
use Rattle.psg_session.specs.PlainState.{Opened, lost, stored}
use Rattle.psg_session.specs.Replies.{feed}
use Rattle.psg_run.specs.declared.status.Status.{Status}
use Rattle.psg_run.specs.declared.status.Status.TheVariants as ends_with
use Rattle.psg_run.specs.Chain.{IsPlayed, Point}
use Rattle.psg_run.specs.Editing.{BreaksOff, Editor, IsSilent, new_editor}
use Rattle.psg_run.specs.Reading.{IsPlainlyAccepted, IsRefusalLine}
use Rattle.psg_run.specs.Worlds.{Act, Puts, World}

-- the bytes are read as the definition, and they spell no other one
abbrev pub IsReadOnlyAs : List ℕ → Definition → Type 0
IsReadOnlyAs bytes def = IsReadAs bytes def × ((other : Definition) → Spells bytes other → other ≡ def)

-- the line that `check` writes for a file of these bytes, where it names no token of comments
pub data IsCheckLine (bytes line : List ℕ) : Type 0 where
  is_good : (def : Definition) → IsPlainlyAccepted bytes def → line ≡ codes "accepted" → IsCheckLine bytes line
  is_faulty : IsRefusalLine bytes line → IsCheckLine bytes line

module _ (def : Definition) (file : Name) where
  -- What is said of the opened fragment. Where it is a whole definition, its text is asked to be written to the file,
  -- and the files answer once. Nothing else is asked.
  pub data IsExport (opened : Option Opened) (before after : Outside) : List ℕ → Type 0 where
    nothing_opened : opened ≡ None → after ≡ before → IsExport opened before after (feed (codes "none"))
    no_lines : (old : Opened) → opened ≡ Some old → (old.kind ≡ kinds.List 0 → ⊥) → after ≡ before
        → IsExport opened before after (feed (codes "refused 5"))
    is_unfinished : (old : Opened) (path : Path) → opened ≡ Some old → old.kind ≡ kinds.List 0
        → IsFirstOpen def old.tree path → after ≡ before
        → IsExport opened before after (feed (codes "unfinished " ++ path_text path))
    is_lost : (old : Opened) → opened ≡ Some old → old.kind ≡ kinds.List 0 → IsComplete old.tree
        → IsAnswered before after (Some (keeping file (exported old.tree))) lost
        → IsExport opened before after (feed (codes "refused 18"))
    is_exported : (old : Opened) (line : List ℕ) → opened ≡ Some old → old.kind ≡ kinds.List 0 → IsComplete old.tree
        → IsAnswered before after (Some (keeping file (exported old.tree))) stored
        → IsCheckLine (exported old.tree) line
        → IsExport opened before after (feed (codes "exported") ++ feed line)

  -- That is put. Or there is no memory for it; nothing was asked of the files then.
  pub data TellsExport (s : Point Editor) : List ℕ → Status → Point Editor → Type 0 where
    tells_export : (text : List ℕ) (after : Outside) → IsExport s.state.state.opened s.files after text
        → TellsExport s text ends_with.Done
        (record { state = s.state; files = after; input = s.input; ticks = s.ticks })
    no_room_to_export : TellsExport s [] ends_with.Memory s

  -- the lines are played in silence, and what is opened then is written to the file
  abbrev pub Exports : List (List ℕ) → Act
  Exports lines = IsPlayed Editor (IsSilent def) (BreaksOff def) TellsExport new_editor lines

module _ (def : Definition) (Next : Act) where
  -- The definition is that of the language of definitions, and the run goes on. Or it is not, and the line that says so
  -- is put.
  pub data GoesOnAsSelf (old new : World) : Status → Type 0 where
    is_itself : {status : Status} → IsSelf def → Next old new status → GoesOnAsSelf old new status
    is_other : {status : Status} → (IsSelf def → ⊥)
        → Puts (feed (codes "refused Self")) ends_with.DefinitionRefused old new status → GoesOnAsSelf old new status
