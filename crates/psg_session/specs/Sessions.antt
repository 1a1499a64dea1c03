-- The plain state that an editor is in.
use Rattle.std.specs.Prelude.{◌≡◌, List, [], map, Option, Some, None}
use Rattle.std.specs.List.{AllByRecursion}
use Rattle.psg_grammar.specs.declared.types.Kind.{Kind}
use Rattle.psg_grammar.specs.declared.types.Definition.{Definition}
use Rattle.psg_grammar.specs.WellFormed.{WellFormed}
use Rattle.psg_cache.specs.Notes.{IsNoteOf}
use Rattle.psg_cache.specs.Annotated.{Annotated, tree_in}
use Rattle.psg_session.specs.declared.editor.Editor.{Editor}
use Rattle.psg_session.specs.declared.editor.OpenedTree.{OpenedTree}
use Rattle.psg_session.specs.declared.session.Parts.{Parts}
use Rattle.psg_session.specs.PlainState.{State, Opened}
use Rattle.psg_session.specs.Formed.{IsFormedSaved, IsFormedState}

-- the opened fragment as the plain editor sees it
abbrev pub plain : OpenedTree → Opened
plain held = record { kind = held.kind; tree = tree_in held.note }

-- the opened fragment without what is known of it
abbrev pub opened_of : Option OpenedTree → Option Opened
opened_of None = None
opened_of (Some held) = Some (plain held)

-- The plain state that the editor is in.
abbrev pub state_of : Editor → State
state_of e = record {
  opened = opened_of e.opened;
  cursor = e.cursor;
  earlier = map tree_in e.history.earlier;
  later = map tree_in e.history.later;
  saved = e.saved;
}

module _ (def : Definition) where
  -- a note of a tree of the kind
  pub record IsVersion (kind : Kind) (n : Annotated) : Type 0 where
    pub formed : WellFormed def (tree_in n) kind
    pub noted : IsNoteOf def (tree_in n) n

  -- the notes are versions of the opened fragment; if nothing is opened, there are none
  abbrev pub AreVersions : Option OpenedTree → List Annotated → Type 0
  AreVersions None versions = versions ≡ []
  AreVersions (Some held) versions = IsVersion held.kind held.note × AllByRecursion (IsVersion held.kind) versions

  -- The earlier and the later trees are versions of the opened one. The saved ones are trees of their kinds.
  pub record IsEditor (e : Editor) : Type 0 where
    pub earlier : AreVersions e.opened e.history.earlier
    pub later : AreVersions e.opened e.history.later
    pub saved : AllByRecursion (IsFormedSaved def) e.saved

-- a language, and an editor of its fragments, all of which are well-formed trees
pub record IsSession (p : Parts) : Type 0 where
  pub editor : IsEditor p.language p.editor
  pub formed : IsFormedState p.language (state_of p.editor)
