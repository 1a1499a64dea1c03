-- Lines of windows are commands of the plain editor, they have one output and lack none, a refused one moves nothing,
-- and the cursors stay at nodes.
use Rattle.std.specs.Prelude.{ℕ, ◌≡◌, Bool, List, [], ◌∷◌, ◌++◌, Option, Some, None}
use Rattle.std.specs.List.{AllByRecursion}
use Rattle.psg_grammar.specs.declared.types.Definition.{Definition}
use Rattle.psg_grammar.specs.Paths.{Path}
use Rattle.psg_script.specs.declared.command.Command.{Command}
use Rattle.psg_session.specs.declared.refusal.Refusal.TheVariants.{NoCommand}
use Rattle.psg_session.specs.Applied.{HasApplied, IsRefusal}
use Rattle.psg_session.specs.Exchanges.{Outside}
use Rattle.psg_session.specs.Formed.{IsFormedState}
use Rattle.psg_session.specs.PlainState.{Answer, State, Opened, not_asked}
use Rattle.psg_session.specs.Replies.{Reply, refused}
use Rattle.psg_session.specs.SomeStep.{CannotLack}
use Rattle.psg_windows.specs.Standing.{Leads}
use Rattle.psg_run.specs.Chain.{Point, Runs, rests, goes}
use Rattle.psg_run.specs.Outputs.{FailBy}
use Rattle.psg_run.specs.Windowed.{AnswersFor, IsCommandFor, IsPlayedFor, SpellsForNone, Windowed, cursors_after}
use Rattle.psg_run.specs.Windowed.{text_for, to_none, to_window}

-- a command that the plain editor did, its reply, and where the editor's cursor was then
pub record DoneCommand : Type 0 where
  pub command : Command
  pub reply : Reply
  pub cursor : Path

-- AreApplied def s before from all t after to: the plain editor does all these commands in order, from s to t. It
-- knows no window.
pub data AreApplied (def : Definition) : State → Outside → ℕ → List DoneCommand → State → Outside → ℕ → Type 0 where
  none_applied : {s : State} {files : Outside} {ticks : ℕ} → AreApplied def s files ticks [] s files ticks
  one_applied : {s t : State} {before after : Outside} {from to : ℕ} {more : List DoneCommand} (mid : State)
      (during : Outside) (between : ℕ) (command : Command) (reply : Reply)
      → HasApplied def s mid command before during from between reply
      → AreApplied def mid during between more t after to
      → AreApplied def s before from (record { command = command; reply = reply; cursor = mid.cursor } ∷ more) t after
      to

-- AreOfLines cursors lines all texts last: each line that spells a command for a window has its turn in what was done,
-- the reply is put for the window, and the cursors are moved. Any other line is refused without a window. The cursors
-- are the last ones then.
pub data AreOfLines : List Path → List (List ℕ) → List DoneCommand → List ℕ → List Path → Type 0 where
  no_line : {cursors : List Path} → AreOfLines cursors [] [] [] cursors
  refused_line : {cursors last : List Path} {line : List ℕ} {lines : List (List ℕ)} {all : List DoneCommand}
      (texts : List ℕ)
      → SpellsForNone line → AreOfLines cursors lines all texts last
      → AreOfLines cursors (line ∷ lines) all (text_for None (refused NoCommand) ++ texts) last
  window_line : {cursors last : List Path} {line : List ℕ} {lines : List (List ℕ)} {all : List DoneCommand} (w : ℕ)
      (one : DoneCommand) (texts : List ℕ) → IsCommandFor cursors line w one.command
      → AreOfLines (cursors_after w one.command one.cursor one.reply cursors) lines all texts last
      → AreOfLines cursors (line ∷ lines) (one ∷ all) (text_for (Some w) one.reply ++ texts) last

-- Lines of windows are commands that the plain editor does in order: what is put is its replies, each for its window,
-- and the state, the files and the count are those that it has then.
abbrev pub WindowsArePlain : Definition → Type 0
WindowsArePlain def =
    (s t : Point Windowed) (lines : List (List ℕ)) (texts : List ℕ) → Runs Windowed (IsPlayedFor def) s lines texts t
    → (all : List DoneCommand) × AreApplied def s.state.state s.files s.ticks all t.state.state t.files t.ticks
    × AreOfLines s.state.cursors lines all texts t.state.cursors × (t.input ≡ s.input)

-- A line that is refused leaves the plain editor and all cursors.
abbrev pub RefusalsMoveNothing : Definition → Type 0
RefusalsMoveNothing def =
    (s t : Point Windowed) (line : List ℕ) (window : Option ℕ) (reply : Reply) → AnswersFor def s line t window reply
    → IsRefusal reply → t.state ≡ s.state

-- the cursor leads to a node of the opened fragment; if nothing is opened, it is at the top
abbrev pub IsAtNode : Option Opened → Path → Type 0
IsAtNode None c = c ≡ []
IsAtNode (Some old) c = Leads old.tree c

abbrev pub StandAtNodes : Windowed → Type 0
StandAtNodes s = AllByRecursion (IsAtNode s.state.opened) s.cursors

-- From a state whose trees are printable and of their kinds, lines of windows lead to such a state, and their cursors
-- stay at nodes.
abbrev pub WindowsStandAtNodes : Definition → Type 0
WindowsStandAtNodes def =
    (s t : Point Windowed) (lines : List (List ℕ)) (texts : List ℕ) → Runs Windowed (IsPlayedFor def) s lines texts t
    → IsFormedState def s.state.state → StandAtNodes s.state → IsFormedState def t.state.state × StandAtNodes t.state

-- ---- one output, and some output

module _ (def : Definition) where
  -- what the files answered at a line; nothing, if it asked nothing
  abbrev pub answer_for : {s t : Point Windowed} {line : List ℕ} {window : Option ℕ} {reply : Reply}
      → AnswersFor def s line t window reply → Answer
  answer_for (to_none none same) = not_asked
  answer_for (to_window w command reply is does moves input) = does.answer

  -- what the files answered, line by line
  abbrev pub answers_for : {s t : Point Windowed} {lines : List (List ℕ)} {texts : List ℕ}
      → Runs Windowed (IsPlayedFor def) s lines texts t → List Answer
  answers_for rests = []
  answers_for (goes mid text texts line more) = answer_for line.answers ∷ answers_for more

  -- Lines of windows that lead from one state, with the same answers of the files, get the same replies and lead to
  -- one state, with the same cursors.
  abbrev pub HasOneWindowOutput : Type 0
  HasOneWindowOutput = (s s' t t' : Point Windowed) (lines : List (List ℕ)) (texts texts' : List ℕ)
      (a : Runs Windowed (IsPlayedFor def) s lines texts t) (b : Runs Windowed (IsPlayedFor def) s' lines texts' t')
      → s'.state ≡ s.state → answers_for b ≡ answers_for a → (texts' ≡ texts) × (t'.state ≡ t.state)

  -- the lines of windows have replies from here on, while these calls of the files fail
  pub record HasWindowReplies (s : Point Windowed) (lines : List (List ℕ)) (fails : List Bool) : Type 0 where
    pub texts : List ℕ
    pub end : Point Windowed
    pub runs : Runs Windowed (IsPlayedFor def) s lines texts end
    pub fail : FailBy def fails (answers_for runs)

  -- From a state whose trees are printable and of their kinds no lines of windows lack replies, whatever the files
  -- hold, and whichever of their calls fail.
  abbrev pub HasSomeWindowOutput : Type 0
  HasSomeWindowOutput = (s : Point Windowed) (lines : List (List ℕ)) (fails : List Bool)
      → IsFormedState def s.state.state → CannotLack (HasWindowReplies s lines fails)
