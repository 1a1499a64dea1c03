-- A refused line of a window moves nothing.
use Rattle.std.proofs.Common.{◌≡◌, ℕ, List, Option, refl, ◌∙◌, ap, ap₂}
use Rattle.psg_grammar.specs.declared.types.Definition.{Definition}
use Rattle.psg_grammar.specs.Fragments.{Fragment}
use Rattle.psg_grammar.specs.Paths.{Path}
use Rattle.psg_script.specs.declared.command.Command.{Command}
use Rattle.psg_session.specs.Applied.{IsRefusal}
use Rattle.psg_session.specs.PlainState.{Answer, State}
use Rattle.psg_session.specs.PlainStep.{Steps, refuses, opens, changes, undoes, redoes, saves, keeps, fetches, shows}
use Rattle.psg_session.specs.PlainStep.{goes}
use Rattle.psg_session.specs.PlainStep.{screens, owns, relates, frees, offers, suggests}
use Rattle.psg_session.specs.Replies.{Reply, answered, refused}
use Rattle.psg_run.specs.Chain.{Point}
use Rattle.psg_run.specs.Windowed.{AnswersFor, Windowed, cursors_after, to_none, to_window, windowed}
use Rattle.psg_run.specs.WindowLaws.{RefusalsMoveNothing}

module _ (def : Definition) (IsGood : Fragment → Type 0) where
  -- the plain editor stays as it is at a command that it refuses
  refused_stays : {s t : State} {answer : Answer} {command : Command} {reply : Reply} → IsRefusal reply
      → Steps def IsGood s answer command t reply → t ≡ s
  refused_stays h (refuses held) = refl
  refused_stays h (opens kind mark taken named is_mark) = absurd h
  refused_stays h (changes old mark taken opened makes is_mark) = absurd h
  refused_stays h (undoes old tree rest mark taken opened earlier is_mark) = absurd h
  refused_stays h (redoes old tree rest mark taken opened later is_mark) = absurd h
  refused_stays h (saves old node kind taken opened at of) = absurd h
  refused_stays h (keeps taken stored) = absurd h
  refused_stays h (fetches bytes x taken got kept) = absurd h
  refused_stays h (shows old mark taken opened is_mark) = absurd h
  refused_stays h (goes old p kind name taken opened at of named) = absurd h
  refused_stays h (screens old taken opened) = absurd h
  refused_stays h (owns old node rows taken opened at relation) = absurd h
  refused_stays h (relates old rows taken opened relation) = absurd h
  refused_stays h (frees old taken opened) = absurd h
  refused_stays h (offers old node p ops names taken opened at want menu named) = absurd h
  refused_stays h (suggests old o names taken opened named menu) = absurd h

-- a refusal leaves the cursors
cursors_stay : (w : ℕ) (command : Command) (own : Path) (reply : Reply) (cursors : List Path) → IsRefusal reply
    → cursors_after w command own reply cursors ≡ cursors
cursors_stay w command own (refused r) cursors h = refl
cursors_stay w command own (answered lines) cursors h = absurd h

module _ (def : Definition) where
  all_stay : (s t : Point Windowed) (line : List ℕ) {window : Option ℕ} {reply : Reply}
      → AnswersFor def s line t window reply → IsRefusal reply → t.state ≡ s.state
  all_stay s t line (to_none none same) h = ap (λ (p : Point Windowed). p.state) same
  all_stay s t line (to_window w command reply is does moves input) h =
      ap₂ windowed (refused_stays def _ h does.steps)
      (moves ∙ cursors_stay w command t.state.state.cursor reply s.state.cursors h)

  pub nothing_moved : RefusalsMoveNothing def
  nothing_moved s t line window reply answers h = all_stay s t line answers h
