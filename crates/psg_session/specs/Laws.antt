-- A command has one step, which keeps printable trees of their kinds, and marks are those of completions.
use Rattle.std.specs.Prelude.{◌≡◌, ◌↔◌, Some}
use Rattle.psg_grammar.specs.declared.types.Definition.{Definition}
use Rattle.psg_grammar.specs.Fragments.{Fragment}
use Rattle.psg_grammar.specs.Legal.{IsCompletable}
use Rattle.psg_grammar.specs.Open.{IsOpen}
use Rattle.psg_script.specs.declared.command.Command.{Command}
use Rattle.psg_unparse.specs.Back.{ReadsBack}
use Rattle.psg_session.specs.PlainState.{State, Answer, Opened}
use Rattle.psg_session.specs.Formed.{HasText, IsFormedState}
use Rattle.psg_session.specs.PlainStep.{Steps}
use Rattle.psg_session.specs.Replies.{Reply}

-- from a state, at a command with an answer of the files, there is at most one next state and one reply
abbrev pub HasOneStep : Definition → (Fragment → Type 0) → Type 0
HasOneStep def IsGood = (s t u : State) (answer : Answer) (command : Command) (reply other : Reply)
    → Steps def IsGood s answer command t reply → Steps def IsGood s answer command u other
    → (t ≡ u) × (reply ≡ other)

-- From a state whose trees are of their kinds and printable a command leads to such a state.
abbrev pub KeepsForm : Definition → (Fragment → Type 0) → Type 0
KeepsForm def IsGood = (s t : State) (answer : Answer) (command : Command) (reply : Reply) → HasText command
    → IsFormedState def s → Steps def IsGood s answer command t reply → IsFormedState def t

-- From such a state the steps by the open judgement are those by legal completions.
abbrev pub StepsByCompletions : Definition → Type 0
StepsByCompletions def = (s t : State) (answer : Answer) (command : Command) (reply : Reply) → HasText command
    → IsFormedState def s
    → Steps def (IsOpen def) s answer command t reply ↔ Steps def (IsCompletable def) s answer command t reply

-- The printed text of the opened fragment of such a state reads back as its tree.
abbrev pub ShownReadsBack : Definition → Type 0
ShownReadsBack def =
    (s : State) (old : Opened) → IsFormedState def s → s.opened ≡ Some old → ReadsBack def old.tree old.kind
