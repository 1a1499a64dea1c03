-- What is taken of the reply to a command.
use Rattle.std.specs.Prelude.{ℕ, List, Option, Some, None}
use Rattle.psg_terms.specs.Names.{Name}
use Rattle.psg_grammar.specs.Fragments.{Fragment}
use Rattle.psg_grammar.specs.Paths.{Path}
use Rattle.psg_keymap.specs.declared.face.Mode.{Mode}
use Rattle.psg_keymap.specs.declared.face.Mode.TheVariants as modes
use Rattle.psg_keymap.specs.Faces.{refused}
use Rattle.psg_keymap.specs.declared.table.Due.{Due}
use Rattle.psg_modes.specs.Turning.{saying}
use Rattle.psg_script.specs.declared.command.Command.{Command}
use Rattle.psg_script.specs.declared.command.Command.TheVariants as commands
use Rattle.psg_session.specs.Replies.{Reply}
use Rattle.psg_session.specs.Replies as replies
use Rattle.psg_session.specs.Refusals.{number_of}
use Rattle.psg_tui.specs.declared.editing.Aim.{Aim}
use Rattle.psg_tui.specs.declared.editing.Aim.TheVariants as aims
use Rattle.psg_tui.specs.Pressing.{Desk, after_line, chosen_after, said_after, versions_done, with_face}

-- the number of a refusal
abbrev pub number_in : Reply → Option ℕ
number_in (replies.refused refusal) = Some (number_of refusal)
number_in (replies.answered lines) = None

-- the operator that a command puts, and its names and literals
abbrev pub parts_of : Command → Option (Name × List ℕ)
parts_of (commands.Refine at op args) = Some (op, args)
parts_of (commands.Insert at place op args) = Some (op, args)
parts_of _ = None

-- what is chosen after a command that was done
abbrev pub aim_in : Mode → Aim
aim_in modes.Typing = aims.Typed
aim_in _ = aims.Below

-- what there is beside the program after a command that was done, and after one that was refused with a number
abbrev pub done : Fragment → Due → Desk → Desk
done tree due d = record (with_face d (record (after_line d.face due.grown) {
  chosen = chosen_after tree d.face.chosen due.grown;
  mode = modes.Browsing;
  message = said_after due.command;
})) { versions = versions_done due.command d.versions }

abbrev pub heard : Fragment → Option ℕ → Due → Desk → Desk
heard tree None due d = done tree due d
heard tree (Some number) due d = with_face d (saying (refused number) d.face)
