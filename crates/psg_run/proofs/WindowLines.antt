-- One line of a window.
use Rattle.std.proofs.Common.{◌≡◌, ℕ, ◌+◌, List, ◌∷◌, ◌++◌, Some, None, refl, sym, ◌∙◌, ap₂, subst}
use Rattle.std.specs.Io.KnownBytes.{append_known}
use Rattle.psg_grammar.specs.declared.types.Definition.{Definition}
use Rattle.psg_grammar.specs.Paths.{Path}
use Rattle.psg_script.specs.declared.command.Command.{Command}
use Rattle.psg_script.specs.Forms.{Spells}
use Rattle.psg_session.specs.Applied.{HasApplied, HasStopped, IsRefusal}
use Rattle.psg_session.specs.PlainState.{State}
use Rattle.psg_session.specs.Replies.{Reply, answered, refused}
use Rattle.psg_session.specs.declared.refusal.Refusal.TheVariants.{NoCommand}
use Rattle.psg_windows.specs.Moving.{cursor_of, moved}
use Rattle.psg_windows.specs.Resolving.{IsResolved}
use Rattle.psg_windows.proofs.Places.{none_left}
use Rattle.psg_run.specs.declared.status.Status.{Status}
use Rattle.psg_run.specs.declared.status.Status.TheVariants as ends_with
use Rattle.psg_run.specs.Chain.{first_point}
use Rattle.psg_run.specs.Turns.{EndsAt, PutsLine}
use Rattle.psg_run.specs.Windowed.{BreaksFor, IsCommandFor, IsPlayedFor, SpellsForNone, Windowed, at_the_line}
use Rattle.psg_run.specs.Windowed.{at_the_command, cursors_after, label_of, text_for, to_none, to_window, windowed}
use Rattle.psg_run.specs.Worlds.{PutsFront, World}
use Rattle.psg_run.proofs.Turning.{before_put, breaks_here, puts_front_here}

-- ---- what a line spells

same_rest : (a b : ℕ) (xs ys : List ℕ) → a ∷ 32 ∷ xs ≡ b ∷ 32 ∷ ys → xs ≡ ys
same_rest a b xs ys e = cc

-- what follows the digit and the space spells no command
pub none_spelled : (line : List ℕ) (w : ℕ) (rest : List ℕ) → line ≡ label_of w ++ rest
    → ((command : Command) → Spells rest command → ⊥) → SpellsForNone line
none_spelled line w rest is none v command s =
    none command (subst (λ l. Spells l command) (same_rest (48 + v) (48 + w) s.rest rest (sym s.is_line ∙ is)) s.spells)

-- an command has no cursor left
pub is_resolved : (cursors : List Path) (line : List ℕ) (w : ℕ) (command : Command)
    → IsCommandFor cursors line w command → IsResolved command
is_resolved cursors line w command is =
    subst IsResolved (sym is.resolves) (none_left (cursor_of cursors w) is.spelled)

-- ---- the cursors

pub same_windowed : {s t : State} {cursors others : List Path} → s ≡ t → cursors ≡ others
    → windowed s cursors ≡ windowed t others
same_windowed one other = ap₂ windowed one other

pub refusal_stays : (w : ℕ) (command : Command) (own : Path) (reply : Reply) (cursors : List Path) → IsRefusal reply
    → cursors ≡ cursors_after w command own reply cursors
refusal_stays w command own (refused r) cursors h = refl
refusal_stays w command own (answered lines) cursors h = absurd h

pub answer_moves : (w : ℕ) (command : Command) (own : Path) (reply : Reply) (cursors : List Path)
    → (IsRefusal reply → ⊥) → moved w command own cursors ≡ cursors_after w command own reply cursors
answer_moves w command own (refused r) cursors h = absurd (h tt)
answer_moves w command own (answered lines) cursors h = refl

-- ---- what is put for a line

module _ (def : Definition) (s t : State) (cursors : List Path) (line : List ℕ) (old new : World) (same : new.input ≡ old.input) where
  module _ (w : ℕ) (command : Command) (is : IsCommandFor cursors line w command) where
    pub command_breaks : (rest : List (List ℕ)) → HasStopped def s command old.files new.files old.ticks new.ticks
        → new.written ≡ old.written
        → EndsAt Windowed (IsPlayedFor def) (BreaksFor def) (windowed s cursors) (line ∷ rest) old new ends_with.Memory
    command_breaks rest stopped put =
        breaks_here Windowed (IsPlayedFor def) (BreaksFor def) (windowed s cursors) line old new (windowed s cursors)
        rest (at_the_command w command is stopped same) put

    module _ (reply : Reply) (does : HasApplied def s t command old.files new.files old.ticks new.ticks reply) where
      played : (next : List Path) → next ≡ cursors_after w command t.cursor reply cursors
          → IsPlayedFor def (first_point Windowed (windowed s cursors) old) line (text_for (Some w) reply)
          (first_point Windowed (windowed t next) new)
      played next moves = record {
        window = Some w;
        reply = reply;
        answers = to_window w command reply is does moves same;
        put = refl;
      }

      pub command_put : (next : List Path) → next ≡ cursors_after w command t.cursor reply cursors
          → new.written ≡ append_known old.written (text_for (Some w) reply)
          → PutsLine Windowed (IsPlayedFor def) line (windowed s cursors) (windowed t next) old new
      command_put next moves put = record { text = text_for (Some w) reply; plays = played next moves; put = put }

      pub command_front : (rest : List (List ℕ)) (status : Status)
          → PutsFront (text_for (Some w) reply) (before_put old new old.written) new status
          → EndsAt Windowed (IsPlayedFor def) (BreaksFor def) (windowed s cursors) (line ∷ rest) old new status
      command_front rest status front =
          puts_front_here Windowed (IsPlayedFor def) (BreaksFor def) (windowed s cursors) line old new
          (windowed t (cursors_after w command t.cursor reply cursors)) rest (text_for (Some w) reply) status
          (played (cursors_after w command t.cursor reply cursors) refl) front

-- a line for no window: the worlds differ in what was put alone
module _ (def : Definition) (a : Windowed) (line : List ℕ) (old new : World) (same : first_point Windowed a new ≡ first_point Windowed a old) where
  pub line_breaks : (rest : List (List ℕ)) → new.written ≡ old.written
      → EndsAt Windowed (IsPlayedFor def) (BreaksFor def) a (line ∷ rest) old new ends_with.Memory
  line_breaks rest put =
      breaks_here Windowed (IsPlayedFor def) (BreaksFor def) a line old new a rest (at_the_line same) put

  module _ (none : SpellsForNone line) where
    refused_here : IsPlayedFor def (first_point Windowed a old) line (text_for None (refused NoCommand))
        (first_point Windowed a new)
    refused_here = record { window = None; reply = refused NoCommand; answers = to_none none same; put = refl }

    pub none_put : new.written ≡ append_known old.written (text_for None (refused NoCommand))
        → PutsLine Windowed (IsPlayedFor def) line a a old new
    none_put put = record { text = text_for None (refused NoCommand); plays = refused_here; put = put }

    pub none_front : (rest : List (List ℕ)) (status : Status)
        → PutsFront (text_for None (refused NoCommand)) (before_put old new old.written) new status
        → EndsAt Windowed (IsPlayedFor def) (BreaksFor def) a (line ∷ rest) old new status
    none_front rest status front =
        puts_front_here Windowed (IsPlayedFor def) (BreaksFor def) a line old new a rest
        (text_for None (refused NoCommand)) status refused_here front
