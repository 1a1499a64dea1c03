-- What a line does to an editor.
use Rattle.std.specs.Prelude.{ℕ, ◌≡◌, List}
use Rattle.psg_grammar.specs.declared.types.Definition.{Definition}
use Rattle.psg_script.specs.declared.command.Command.{Command}
use Rattle.psg_script.specs.Forms.{Spells}
use Rattle.psg_session.specs.declared.refusal.Refusal.TheVariants.{NoCommand}
use Rattle.psg_session.specs.Applied.{HasApplied, HasStopped}
use Rattle.psg_session.specs.Exchanges.{Outside}
use Rattle.psg_session.specs.PlainState.{State}
use Rattle.psg_session.specs.Replies.{Reply, refused}

-- The line spells a command, which was applied; or it spells none and was refused.
pub data HasAnswered (def : Definition) (s t : State) (line : List ℕ) (before after : Outside) (from to : ℕ)
    (reply : Reply) : Type 0 where
  to_nothing : ((command : Command) → Spells line command → ⊥) → t ≡ s → after ≡ before → to ≡ from
      → reply ≡ refused NoCommand → HasAnswered def s t line before after from to reply
  to_command : (command : Command) → Spells line command → HasApplied def s t command before after from to reply
      → HasAnswered def s t line before after from to reply

-- Memory ran out, before the line was read or at its command.
pub data HasBroken (def : Definition) (s : State) (line : List ℕ) (before after : Outside) (from to : ℕ)
    : Type 0 where
  at_line : after ≡ before → to ≡ from → HasBroken def s line before after from to
  at_command : (command : Command) → Spells line command → HasStopped def s command before after from to
      → HasBroken def s line before after from to
