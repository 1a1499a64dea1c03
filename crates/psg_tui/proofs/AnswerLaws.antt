-- A command of a key asks nothing of the files.
use Rattle.std.proofs.Common.{◌≡◌, ℕ, true, Option, Some, None, refl}
use Rattle.std.proofs.lemmas.Bool.{false≢true}
use Rattle.psg_asking.proofs.QuestionLaws.{by_nobody}
use Rattle.psg_grammar.specs.declared.types.Definition.{Definition}
use Rattle.psg_keymap.specs.OfKeys.{is_of_keys}
use Rattle.psg_script.specs.declared.command.Command.{Command}
use Rattle.psg_script.specs.declared.command.Command.TheVariants as commands
use Rattle.psg_session.specs.Applied.{HasApplied, IsAskedBy}
use Rattle.psg_session.specs.Exchanges.{Asked, Outside}
use Rattle.psg_session.specs.Kept.{Asks}
use Rattle.psg_session.specs.PlainState.{State}
use Rattle.psg_session.specs.Replies.{Reply}

some_ask : (def : Definition) (s : State) (command : Command) (a : Asked) → is_of_keys command ≡ true
    → Asks def s command a → ⊥
some_ask def s (commands.Keep name file) a k h = false≢true k
some_ask def s (commands.Fetch file) a k h = false≢true k
some_ask def s _ a k h = h

keys_ask : (def : Definition) (s : State) (command : Command) (asked : Option Asked) → is_of_keys command ≡ true
    → IsAskedBy def s command asked → asked ≡ None
keys_ask def s command None k h = refl
keys_ask def s command (Some a) k h = absurd (some_ask def s command a k h)

pub keys_files : (def : Definition) (s t : State) (command : Command) (before after : Outside) (from to : ℕ) (reply : Reply)
    → is_of_keys command ≡ true → HasApplied def s t command before after from to reply → after ≡ before
keys_files def s t command before after from to reply keys is =
    (by_nobody before after is.asked is.answer (keys_ask def s command is.asked keys is.asks) is.answers).0
