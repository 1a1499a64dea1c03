-- The commands that keys are: those that change the program, undo, redo and save, each with its path written out.
use Rattle.std.specs.Prelude.{ℕ, ◌≡◌, ◌==◌, ◌&&◌, Bool, true, false, Option, Some, None, IfSome, bytes_eq, is_some}
use Rattle.psg_grammar.specs.declared.types.Definition.{Definition}
use Rattle.psg_grammar.specs.Fragments.{Fragment}
use Rattle.psg_keys.specs.declared.key.Key.{Key}
use Rattle.psg_script.specs.declared.command.Command.{Command}
use Rattle.psg_script.specs.declared.command.Command.TheVariants as commands
use Rattle.psg_script.specs.declared.command.Where.{Where}
use Rattle.psg_script.specs.declared.command.Where.TheVariants as wheres
use Rattle.psg_grammar.specs.Paths.{Path}
use Rattle.psg_keymap.specs.Faces.{Face, with_place}
use Rattle.psg_keymap.specs.Table.{Due, command_of, it}

-- the path is written out, and is not the editor's cursor
abbrev pub is_written : Where → Bool
is_written (wheres.At path) = true
is_written wheres.Cursor = false

-- A key opens nothing, moves no cursor, asks nothing, and touches no file. Where it is a range of bytes it takes none
-- away, and what it saves and pastes is `it`.
abbrev pub is_of_keys : Command → Bool
is_of_keys (commands.Refine at op args) = is_written at
is_of_keys (commands.Insert at place op args) = is_written at
is_of_keys (commands.Cut at) = is_written at
is_of_keys (commands.Remove at place) = is_written at
is_of_keys (commands.Close at) = is_written at
is_of_keys (commands.Reopen at) = is_written at
is_of_keys (commands.Over at text) = is_written at
is_of_keys (commands.Range start end text) = start == end
is_of_keys commands.Undo = true
is_of_keys commands.Redo = true
is_of_keys (commands.Save name at) = bytes_eq name it && is_written at
is_of_keys (commands.Paste at place name) = bytes_eq name it && is_written at
is_of_keys _ = false

-- What a key puts has the path that is written in its command, with its place in a list. A text that is put into a list
-- without bytes is put over that list. A range of bytes names no path.
abbrev pub IsGrownBy : Command → Option Path → Type 0
IsGrownBy (commands.Refine (wheres.At path) op args) grown = grown ≡ Some path
IsGrownBy (commands.Insert (wheres.At path) place op args) grown = grown ≡ Some (with_place path (Some place))
IsGrownBy (commands.Paste (wheres.At path) place name) grown = grown ≡ Some (with_place path place)
IsGrownBy (commands.Over (wheres.At path) text) grown = (place : Option ℕ) × (grown ≡ Some (with_place path place))
IsGrownBy (commands.Range start end text) grown = is_some grown ≡ true
IsGrownBy _ grown = grown ≡ None

pub record IsOfKeys (due : Due) : Type 0 where
  pub command : is_of_keys due.command ≡ true
  pub grown : IsGrownBy due.command due.grown

-- each key of the table is one of them, in each mode and at each place
abbrev pub AreOfKeys : Definition → Fragment → Face → Key → Type 0
AreOfKeys def tree f key = IfSome (command_of def tree f key) IsOfKeys
