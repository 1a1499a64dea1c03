-- A command has a step: no state is without a next one.
use Rattle.std.specs.Prelude.{Option}
use Rattle.psg_grammar.specs.declared.types.Definition.{Definition}
use Rattle.psg_grammar.specs.Fragments.{Fragment}
use Rattle.psg_script.specs.declared.command.Command.{Command}
use Rattle.psg_session.specs.Applied.{IsAskedBy}
use Rattle.psg_session.specs.Exchanges.{Asked, Outside, IsAnswered}
use Rattle.psg_session.specs.Formed.{HasText, IsFormedState}
use Rattle.psg_session.specs.PlainState.{State, Answer}
use Rattle.psg_session.specs.PlainStep.{Steps}
use Rattle.psg_session.specs.Replies.{Reply}

-- That there is none is refuted. The logic here is constructive, and says so in place of "there is one": no step is
-- computed, and no text is parsed to tell whether it has a tree. By excluded middle both are the same.
abbrev pub CannotLack : Type 0 → Type 0
CannotLack P = (P → ⊥) → ⊥

module _ (def : Definition) (IsGood : Fragment → Type 0) where
  -- a next state and a reply of the command
  pub record HasStep (s : State) (answer : Answer) (command : Command) : Type 0 where
    pub next : State
    pub reply : Reply
    pub steps : Steps def IsGood s answer command next reply

  -- From a state whose trees are of their kinds and printable there is a step at each command, with each answer that
  -- the files may give to what it asks.
  abbrev pub HasSomeStep : Type 0
  HasSomeStep = (s : State) (command : Command) (before after : Outside) (asked : Option Asked) (answer : Answer)
      → HasText command → IsFormedState def s → IsAskedBy def s command asked → IsAnswered before after asked answer
      → CannotLack (HasStep s answer command)
