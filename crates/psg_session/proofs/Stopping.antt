-- What `?` hands on, and what is found by a command that asks nothing of the files.
use Rattle.std.proofs.Common.{◌≡◌, ℕ, Option, None, Result, Ok, Err, sym, ◌∙◌, ap, subst}
use Rattle.std.specs.Result.{IsErrAnd}
use Rattle.std.proofs.lemmas.Result.{err_from_is_err_and}
use Rattle.psg_grammar.specs.declared.types.Definition.{Definition}
use Rattle.psg_script.specs.declared.command.Command.{Command}
use Rattle.psg_unparse.specs.declared.spans.Printed.{Printed}
use Rattle.psg_session.specs.declared.editor.Editor.{Editor}
use Rattle.psg_session.specs.declared.editor.Outcome.{Outcome}
use Rattle.psg_session.specs.declared.editor.Outcome.TheVariants.{Stays}
use Rattle.psg_session.specs.declared.refusal.Refusal.{Refusal}
use Rattle.psg_session.specs.declared.replies.Reply.TheVariants.{Refused}
use Rattle.psg_session.specs.declared.stop.Stop.{Stop}
use Rattle.psg_session.specs.declared.stop.Stop.TheVariants as stops
use Rattle.psg_session.specs.Applied.{HasStopped}
use Rattle.psg_session.specs.Exchanges.{Outside}
use Rattle.psg_session.specs.Outcomes.{IfFound, IsOutcome}
use Rattle.psg_session.specs.PlainState.{State, not_asked}
use Rattle.psg_session.specs.Printouts.{IsNextText}
use Rattle.psg_session.specs.Reached.{HasReached, IsReaching}
use Rattle.psg_session.specs.Sessions.{state_of}
use Rattle.psg_session.specs.Stops.{IfMemory}
use Rattle.psg_session.specs.Ticks.{HasTicked}
use Rattle.psg_session.proofs.KeptLaws.{reached_alone, stopped_alone}
use Rattle.psg_session.proofs.Printouts.{no_text}

-- what holds of the error that is handed on holds of what is returned
pub passed : {X : Type 0} (P : Result X Stop → Type 0) (r : Result X Stop) (stop : Stop) → IsErrAnd r (λ e. e ≡ stop)
    → P (Err stop) → P r
passed P r stop h p = let q = err_from_is_err_and r h in subst P (sym (q.1 ∙ ap Err q.2)) p

pub found_map : (P Q : Outcome → Type 0) (r : Result Outcome Stop) → ((outcome : Outcome) → P outcome → Q outcome)
    → IfFound r P → IfFound r Q
found_map P Q (Ok outcome) more p = more outcome p
found_map P Q (Err (stops.Refused r)) more p = more (Stays (Refused r)) p
found_map P Q (Err stops.Memory) more p = p

pub in_memory : {X P : Type 0} (r : Result X Stop) → P → IfMemory r P
in_memory (Ok x) p = tt
in_memory (Err (stops.Refused r)) p = tt
in_memory (Err stops.Memory) p = p

-- a command that asks nothing took its step
pub reached_by : (def : Definition) (e : Editor) (command : Command) (before after : Outside) (from to : ℕ)
    (r : Result Outcome Stop) → (IsReaching command → ⊥) → after ≡ before → IfFound r (IsOutcome def e not_asked command)
    → HasTicked def (state_of e) command from to → IfFound r (HasReached def e command before after from to)
reached_by def e command before after from to r alone same is ticks =
    found_map (IsOutcome def e not_asked command) (HasReached def e command before after from to) r
    (λ outcome it. reached_alone def e command before after from to outcome alone same it ticks) is

pub stopped_by : (def : Definition) (s : State) (command : Command) (before after : Outside) (from to : ℕ)
    (r : Result Outcome Stop) → after ≡ before → HasTicked def s command from to
    → IfMemory r (HasStopped def s command before after from to)
stopped_by def s command before after from to r same ticks =
    in_memory r (stopped_alone def s command before after from to same ticks)

-- nothing is known of the next text
pub no_next : (def : Definition) (e : Editor) (r : Result Outcome Stop) (q : Option Printed) → q ≡ None
    → IfFound r (λ outcome. IsNextText def e outcome q)
no_next def e (Ok outcome) q none = no_text def e outcome q none
no_next def e (Err (stops.Refused r)) q none = no_text def e (Stays (Refused r)) q none
no_next def e (Err stops.Memory) q none = tt

-- the refusal of a test below refuses the command
pub refused_by : (P : Outcome → Type 0) (r : Result Outcome Stop) (refusal : Refusal)
    → IsErrAnd r (λ e. e ≡ stops.Refused refusal) → P (Stays (Refused refusal)) → IfFound r P
refused_by P r refusal h p = passed (λ x. IfFound x P) r (stops.Refused refusal) h p

-- what is found is handed on
pub found_by : (P : Outcome → Type 0) (r : Result Outcome Stop) (stop : Stop) → IsErrAnd r (λ e. e ≡ stop)
    → IfFound (Err stop) P → IfFound r P
found_by P r stop h p = passed (λ x. IfFound x P) r stop h p
