-- The editor's values as the definitions of keys see them.
use Rattle.std.specs.Prelude.{ℕ, Bool, List, [], Option}
use Rattle.psg_terms.specs.Names.{Name}
use Rattle.psg_grammar.specs.declared.types.Definition.{Definition}
use Rattle.psg_grammar.specs.Fragments.{Fragment}
use Rattle.psg_keymap.specs.declared.face.Face.{Face as Kept}
use Rattle.psg_keys.specs.Lines.{kept_after}
use Rattle.psg_face.specs.Moves.{as_far}
use Rattle.psg_face.specs.Opens.{open_below}
use Rattle.psg_keymap.specs.declared.face.Message.TheVariants as messages
use Rattle.psg_keymap.specs.Faces.{Face, at_first}
use Rattle.psg_unparse.specs.Layout.{text_of}
use Rattle.psg_session.specs.Exchanges.{Outside}
use Rattle.psg_world.specs.Files.{Entry, Held}
use Rattle.psg_tui.specs.declared.editing.Aim.{Aim}
use Rattle.psg_tui.specs.declared.editing.Aim.TheVariants as aims
use Rattle.psg_tui.specs.declared.editing.Editing.{Editing}
use Rattle.psg_tui.specs.Pressing.{Desk}
pub use Rattle.psg_keymap.specs.Views.{face_of}

-- the face with the place that is chosen after a change of the program
abbrev pub settled : Fragment → Aim → Face → Face
settled tree aims.Settled f = f
settled tree aims.Far f = record f { chosen = as_far tree f.chosen }
settled tree aims.Below f = record f { chosen = open_below tree (as_far tree f.chosen) }
settled tree aims.Typed f = record f { chosen = open_below tree (as_far tree f.chosen); lines = kept_after f.lines }

-- the face of an editor whose program is this tree
abbrev pub shown_face : Fragment → Aim → Kept → Face
shown_face tree aim f = settled tree aim (face_of f)

-- what an editor has beside its program, which is this tree
abbrev pub desk_of : Fragment → Editing → Desk
desk_of tree e = record {
  face = shown_face tree e.aim e.face;
  file = e.file;
  saved = e.written;
  versions = e.versions;
  writes = e.writes;
}

-- what is known of files
abbrev pub outside : Option Held → List Entry → Outside
outside held entries = record { held = held; entries = entries }

-- the same where the program is printed, and the chosen path is as it is shown
abbrev pub desk : Editing → Desk
desk e = record { face = face_of e.face; file = e.file; saved = e.written; versions = e.versions; writes = e.writes }

-- what there is beside the program at first: its first open place is chosen
abbrev pub begun : Definition → Fragment → Option Name → Bool → ℕ → ℕ → Desk
begun def tree file writes rows cols = record {
  face = record (at_first rows cols) { chosen = open_below tree [] };
  file = file;
  saved = text_of def tree;
  versions = 0;
  writes = writes;
}

-- it is said that there was no memory
abbrev pub said_no_memory : Editing → Editing
said_no_memory e = record e { face = record e.face { message = messages.NoMemory } }
