-- What a command does to an editor, as the plain editor does it.
use Rattle.std.specs.Prelude.{ℕ, ◌≡◌, Option, Some, None, IfSome}
use Rattle.psg_grammar.specs.declared.types.Definition.{Definition}
use Rattle.psg_grammar.specs.Legal.{IsCompletable}
use Rattle.psg_script.specs.declared.command.Command.{Command}
use Rattle.psg_session.specs.PlainState.{State, Answer}
use Rattle.psg_session.specs.PlainStep.{Steps}
use Rattle.psg_session.specs.Replies.{Reply, refused, answered}
use Rattle.psg_session.specs.Exchanges.{Asked, Outside, IsAnswered, MayGet}
use Rattle.psg_session.specs.Kept.{Asks}
use Rattle.psg_session.specs.Ticks.{HasTickedWith}

-- this is asked, or nothing is
abbrev pub IsAskedBy : Definition → State → Command → Option Asked → Type 0
IsAskedBy def s command (Some asked) = Asks def s command asked
IsAskedBy def s command None = (asked : Asked) → Asks def s command asked → ⊥

-- the reply is a refusal
abbrev pub IsRefusal : Reply → Type 0
IsRefusal (refused refusal) = Unit {0}
IsRefusal (answered lines) = ⊥

-- The plain editor goes from s to t at the command with the reply, by what the files answered. The counter goes from
-- `from` to `to`, within the bound of the command.
pub record HasApplied (def : Definition) (s t : State) (command : Command) (before after : Outside) (from to : ℕ)
    (reply : Reply) : Type 0 where
  pub asked : Option Asked
  pub asks : IsAskedBy def s command asked
  pub answer : Answer
  pub answers : IsAnswered before after asked answer
  pub steps : Steps def (IsCompletable def) s answer command t reply
  pub ticked : HasTickedWith def s answer command from to

-- Memory ran out, perhaps after the command had asked. The files are as before.
pub record HasStopped (def : Definition) (s : State) (command : Command) (before after : Outside) (from to : ℕ)
    : Type 0 where
  pub asked : Option Asked
  pub asks : IfSome asked (Asks def s command)
  pub files : after ≡ before
  pub answer : Answer
  pub got : MayGet before asked answer
  pub ticked : HasTickedWith def s answer command from to
