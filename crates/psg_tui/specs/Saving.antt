-- What is known of a file before it is written, and what is kept after it.
use Rattle.std.specs.Prelude.{ℕ, ◌≡◌, ◌++◌, ◌==◌, ◌||◌, Bool, true, false, List, [], ◌∷◌, Option, Some, IfSome}
use Rattle.psg_terms.specs.Names.{Name}
use Rattle.psg_keys.specs.declared.key.Key.{Key}
use Rattle.psg_keys.specs.declared.key.Key.TheVariants as keys
use Rattle.psg_keymap.specs.declared.face.Mode.TheVariants as modes
use Rattle.psg_keymap.specs.Faces.{in_mode, written}
use Rattle.psg_modes.specs.Turning.{saying}
use Rattle.psg_session.specs.Exchanges.{Outside}
use Rattle.psg_world.specs.Files.{bytes_of}
use Rattle.psg_tui.specs.declared.editing.Editing.{Editing}
use Rattle.psg_tui.specs.Pressing.{Desk, IsNotThere}
use Rattle.psg_tui.specs.Views.{face_of}

-- the file has bytes, or not, as far as its read told
abbrev pub IsThere : Outside → Outside → Name → Bool → Type 0
IsThere before after name true =
    (after ≡ before) × IfSome before.held (λ held. bytes_of held name ≡ [] → ⊥)
IsThere before after name false = IsNotThere before after name

-- what there is beside the program after it was written
abbrev pub taken : Editing → Name → List ℕ → Desk
taken e name text = record {
  face = saying written (in_mode modes.Browsing (face_of e.face));
  file = Some name;
  saved = text;
  versions = e.versions;
  writes = e.writes;
}

-- the key is this character
abbrev pub is_char : ℕ → Key → Bool
is_char letter (keys.Char c) = c == letter
is_char letter _ = false

-- the key is Ctrl with this letter
abbrev pub is_control : ℕ → Key → Bool
is_control letter (keys.Control c) = c == letter
is_control letter _ = false

-- `q` and Ctrl-C
abbrev pub ends_at : Key → Bool
ends_at key = is_char 113 key || is_control 99 key
