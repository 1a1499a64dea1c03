-- What a command finds, with what it asked of the files.
use Rattle.std.specs.Prelude.{ℕ, ◌≡◌, ◌<◌, ◌≤◌, ◌⊎◌, List, length, Option, Result, Ok, Err}
use Rattle.psg_grammar.specs.declared.types.Definition.{Definition}
use Rattle.psg_grammar.specs.Sizes.{IsBig}
use Rattle.psg_grammar.specs.WellFormed.{WellFormed}
use Rattle.psg_library.specs.declared.fragment.SavedFragment.{SavedFragment as Saved}
use Rattle.psg_library.specs.Keeping.{IsKept}
use Rattle.psg_script.specs.declared.command.Command.{Command}
use Rattle.psg_script.specs.declared.command.Command.TheVariants.{Keep, Fetch}
use Rattle.psg_session.specs.declared.editor.Editor.{Editor}
use Rattle.psg_session.specs.declared.editor.Outcome.{Outcome}
use Rattle.psg_session.specs.declared.refusal.Refusal.TheVariants.{KeptUnreadable, TooBig}
use Rattle.psg_session.specs.declared.stop.Stop.{Stop}
use Rattle.psg_session.specs.declared.stop.Stop.TheVariants.{Refused, Memory}
use Rattle.psg_session.specs.Applied.{IsAskedBy}
use Rattle.psg_session.specs.Exchanges.{Asked, IsAnswered, most_kept_bytes, Outside}
use Rattle.psg_session.specs.Outcomes.{IsOutcome}
use Rattle.psg_session.specs.PlainState.{Answer}
use Rattle.psg_session.specs.Sessions.{state_of}
use Rattle.psg_session.specs.Ticks.{HasTickedWith}

-- the commands that may ask the files
abbrev pub IsReaching : Command → Type 0
IsReaching (Keep name file) = Unit {0}
IsReaching (Fetch file) = Unit {0}
IsReaching _ = ⊥

-- The command asked the files this, or nothing, and they gave this answer. By this answer the plain editor takes the
-- step of the outcome. The counter goes from `from` to `to`, within the bound of the command.
pub record HasReached (def : Definition) (e : Editor) (command : Command) (before after : Outside) (from to : ℕ)
    (outcome : Outcome) : Type 0 where
  pub asked : Option Asked
  pub asks : IsAskedBy def (state_of e) command asked
  pub answer : Answer
  pub answers : IsAnswered before after asked answer
  pub is_outcome : IsOutcome def e answer command outcome
  pub ticked : HasTickedWith def (state_of e) answer command from to

-- The fragment that the bytes keep, which is of its kind and not too large; or why none is taken from them.
abbrev pub IsFragmentAnswer : Definition → List ℕ → Result Saved Stop → Type 0
IsFragmentAnswer def bytes (Ok x) =
    (length bytes ≤ most_kept_bytes) × IsKept def bytes x × (IsBig x.tree → ⊥) × WellFormed def x.tree x.kind
IsFragmentAnswer def bytes (Err Memory) = Unit {0}
IsFragmentAnswer def bytes (Err (Refused r)) =
    ((r ≡ KeptUnreadable) × ((most_kept_bytes < length bytes) ⊎ ((x : Saved) → IsKept def bytes x → ⊥)))
    ⊎ ((r ≡ TooBig) × (length bytes ≤ most_kept_bytes) × (x : Saved) × IsKept def bytes x × IsBig x.tree)
