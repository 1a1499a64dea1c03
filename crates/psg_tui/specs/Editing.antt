-- What an editor on the screen keeps, and what holds of it.
use Rattle.std.specs.Prelude.{ℕ, ◌≡◌, ◌==◌, Bool, true, not, List, Option, Some, length}
use Rattle.psg_cache.specs.Notes.{mark_by}
use Rattle.psg_grammar.specs.declared.types.Definition.{Definition}
use Rattle.psg_grammar.specs.Fragments.{Fragment}
use Rattle.psg_grammar.specs.Legal.{IsCompletable}
use Rattle.psg_grammar.specs.Marks.{IsMarkBy}
use Rattle.psg_grammar.specs.Paths.{Path}
use Rattle.psg_unparse.specs.Spans.{printed_of}
use Rattle.psg_keymap.specs.Repairs.{IsAnswer}
use Rattle.psg_session.specs.PlainState.{State, Opened}
use Rattle.psg_session.specs.Sessions.{state_of}
use Rattle.psg_tui.specs.declared.editing.Aim.TheVariants as aims
use Rattle.psg_tui.specs.declared.editing.Editing.{Editing}
use Rattle.psg_tui.specs.declared.shown.Shown.{Shown}
use Rattle.psg_tui.specs.Pressing.{IsOpened}
use Rattle.psg_tui.specs.Views.{face_of, shown_face}

-- a program with culprits is wrong
abbrev pub is_wrong : List Path → Bool
is_wrong culprits = not (length culprits == 0)

-- what is known of a program: its text, its culprits, and its blamed places, where they were looked for
pub record IsShown (def : Definition) (tree : Fragment) (s : Shown) : Type 0 where
  pub printed : s.printed ≡ printed_of def tree
  pub marked : IsMarkBy (IsCompletable def) tree (mark_by s.culprits.items)
  pub found : s.tried ≡ true → is_wrong s.culprits.items ≡ true → IsAnswer def tree s.repair

-- the blamed places of a wrong program were looked for
abbrev pub IsTried : Shown → Type 0
IsTried s = is_wrong s.culprits.items ≡ true → s.tried ≡ true

-- this program is opened, and what is known is of it, where it was not changed since
pub record IsAt (e : Editing) (tree : Fragment) : Type 0 where
  pub opened : IsOpened (state_of e.session.editor) e.kind tree
  pub shown : e.aim ≡ aims.Settled → IsShown e.session.language tree e.shown

-- a program is opened
abbrev pub IsEditing : Editing → Type 0
IsEditing e = (tree : Fragment) × IsAt e tree

-- what no key changes
pub record IsOfSame (old new : Editing) : Type 0 where
  pub language : new.session.language ≡ old.session.language
  pub kind : new.kind ≡ old.kind
  pub title : new.title ≡ old.title
  pub writes : new.writes ≡ old.writes

-- What a key that is no command leaves: the program, and how many versions there are. What is known of the program
-- stays true.
pub record IsOfProgram (old new : Editing) : Type 0 where
  pub session : new.session ≡ old.session
  pub kind : new.kind ≡ old.kind
  pub title : new.title ≡ old.title
  pub writes : new.writes ≡ old.writes
  pub versions : new.versions ≡ old.versions
  pub at : (tree : Fragment) → IsAt old tree → IsAt new tree

-- all is as before, except what is known of the program, and what is shown of the face
pub record IsAsBefore (old new : Editing) : Type 0 where
  pub program : IsOfProgram old new
  pub file : new.file ≡ old.file
  pub written : new.written ≡ old.written
  pub face : (tree : Fragment) → IsAt old tree → shown_face tree new.aim new.face ≡ shown_face tree old.aim old.face

-- only what is known of the program is another
pub record IsKnownMore (old new : Editing) : Type 0 where
  pub left : new ≡ record old { shown = new.shown }
  pub at : (tree : Fragment) → IsAt old tree → IsAt new tree

-- the face is as before, and the file
pub record IsUntouched (old new : Editing) : Type 0 where
  pub face : face_of new.face ≡ face_of old.face
  pub file : new.file ≡ old.file
  pub written : new.written ≡ old.written

-- a command was done or refused: the session's and what is known of the program are as before
pub record IsHeard (old new : Editing) : Type 0 where
  pub session : new.session ≡ old.session
  pub kind : new.kind ≡ old.kind
  pub title : new.title ≡ old.title
  pub writes : new.writes ≡ old.writes
  pub shown : new.shown ≡ old.shown
