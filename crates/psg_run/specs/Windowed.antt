-- The plain editor for several windows, as it goes from line to line.
use Rattle.std.specs.Prelude.{ℕ, ◌≡◌, ◌<◌, ◌+◌, List, [], ◌∷◌, ◌++◌, map, Option, Some, None}
use Rattle.psg_grammar.specs.declared.types.Definition.{Definition}
use Rattle.psg_grammar.specs.Paths.{Path}
use Rattle.psg_script.specs.declared.command.Command.{Command}
use Rattle.psg_script.specs.Forms.{Spells}
use Rattle.psg_session.specs.declared.refusal.Refusal.TheVariants.{NoCommand}
use Rattle.psg_session.specs.Applied.{HasApplied, HasStopped}
use Rattle.psg_session.specs.PlainState.{State, start}
use Rattle.psg_session.specs.Replies.{Reply, refused, answered, reply_lines, reply_text, feed_all}
use Rattle.psg_windows.specs.Resolving.{resolved}
use Rattle.psg_windows.specs.Moving.{moved, cursor_of, start_cursors, windows as window_count}
use Rattle.psg_run.specs.Chain.{IsPlayed, Point}
use Rattle.psg_run.specs.Editing.{JustEnds}
use Rattle.psg_run.specs.Worlds.{Act}

-- the plain editor, and the cursors of the windows
pub record Windowed : Type 0 where
  pub state : State
  pub cursors : List Path

-- this state, with these cursors
abbrev pub windowed : State → List Path → Windowed
windowed state cursors = record { state = state; cursors = cursors }

-- nothing is opened, and all cursors are at the top
abbrev pub new_windows : Windowed
new_windows = windowed start start_cursors

-- the digit of a window and a space
abbrev pub label_of : ℕ → List ℕ
label_of w = (48 + w) ∷ 32 ∷ []

-- the line is for the window, and spells the command after the digit and the space
pub record SpellsFor (line : List ℕ) (w : ℕ) (command : Command) : Type 0 where
  pub is_window : w < window_count
  pub rest : List ℕ
  pub is_line : line ≡ label_of w ++ rest
  pub spells : Spells rest command

-- the line spells no command for any window
abbrev pub SpellsForNone : List ℕ → Type 0
SpellsForNone line = (w : ℕ) (command : Command) → SpellsFor line w command → ⊥

-- The line spells a command for the window, and this command is that one with the window's cursor in place of `.`.
pub record IsCommandFor (cursors : List Path) (line : List ℕ) (w : ℕ) (command : Command) : Type 0 where
  pub spelled : Command
  pub spells : SpellsFor line w spelled
  pub resolves : command ≡ resolved (cursor_of cursors w) spelled

-- the lines, each with the label before it and a line feed after it
abbrev pub labelled : List ℕ → List (List ℕ) → List ℕ
labelled label lines = feed_all (map (λ line. label ++ line) lines)

-- what is put for a reply: to a window, or to a line that is for none
abbrev pub text_for : Option ℕ → Reply → List ℕ
text_for None reply = reply_text reply
text_for (Some w) reply = labelled (label_of w) (reply_lines reply)

-- The cursors after the resolved command of the window, if the editor's is `own` then. A refused command moves none.
abbrev pub cursors_after : ℕ → Command → Path → Reply → List Path → List Path
cursors_after w command own (refused r) cursors = cursors
cursors_after w command own (answered lines) cursors = moved w command own cursors

module _ (def : Definition) where
  -- The line spells a command for a window: the plain editor does it, with the window's cursor in place of `.`, the
  -- cursors are moved, and the reply is to this window. Or it spells none: it is refused, the reply is to no window,
  -- and nothing changes.
  pub data AnswersFor (s : Point Windowed) (line : List ℕ) (t : Point Windowed) : Option ℕ → Reply → Type 0 where
    to_none : SpellsForNone line → t ≡ s → AnswersFor s line t None (refused NoCommand)
    to_window : (w : ℕ) (command : Command) (reply : Reply) → IsCommandFor s.state.cursors line w command
        → HasApplied def s.state.state t.state.state command s.files t.files s.ticks t.ticks reply
        → t.state.cursors ≡ cursors_after w command t.state.state.cursor reply s.state.cursors
        → t.input ≡ s.input → AnswersFor s line t (Some w) reply

  -- the reply to the line is put
  pub record IsPlayedFor (s : Point Windowed) (line text : List ℕ) (t : Point Windowed) : Type 0 where
    pub window : Option ℕ
    pub reply : Reply
    pub answers : AnswersFor s line t window reply
    pub put : text ≡ text_for window reply

  -- Memory ran out before the line was read, or at the command of a window.
  pub data BreaksFor (s : Point Windowed) (line : List ℕ) (t : Point Windowed) : Type 0 where
    at_the_line : t ≡ s → BreaksFor s line t
    at_the_command : (w : ℕ) (command : Command) → IsCommandFor s.state.cursors line w command
        → HasStopped def s.state.state command s.files t.files s.ticks t.ticks
        → t.input ≡ s.input → BreaksFor s line t

-- The plain editor of the definition replies to the lines of the windows. If there is no memory for the moved cursors
-- or for the reply's text, nothing of the reply is put, though the command was done (`not_put`).
abbrev pub PlaysWindows : Definition → List (List ℕ) → Act
PlaysWindows def lines = IsPlayed Windowed (IsPlayedFor def) (BreaksFor def) JustEnds new_windows lines
