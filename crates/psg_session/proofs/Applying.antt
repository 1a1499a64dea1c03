-- What an outcome says of a session.
use Rattle.std.proofs.Common.{◌≡◌, ℕ, List, Some, Result, Ok, Err, IfErr, sym, ap, subst}
use Rattle.std.specs.declared.alloc.AllocError.{AllocError}
use Rattle.psg_cache.specs.Notes.{IsNoteOf}
use Rattle.psg_script.specs.Forms.{Spells}
use Rattle.psg_session.specs.declared.editor.OpenedTree.{OpenedTree}
use Rattle.psg_session.specs.declared.session.Parts.{Parts}
use Rattle.psg_session.specs.Lines.{at_command, HasAnswered, HasBroken, to_command}
use Rattle.psg_session.specs.Replies.{Reply as PlainReply}
use Rattle.psg_session.proofs.EditLaws.{opened_version}
use Rattle.psg_grammar.specs.declared.types.Definition.{Definition}
use Rattle.psg_script.specs.declared.command.Command.{Command}
use Rattle.psg_session.specs.declared.editor.Editor.{Editor}
use Rattle.psg_session.specs.declared.editor.Outcome.{Outcome}
use Rattle.psg_session.specs.declared.editor.Outcome.TheVariants.{Stays, Opens as OpensTree, Changes, Undoes, Redoes, Saves, Goes}
use Rattle.psg_session.specs.declared.replies.Reply.{Reply}
use Rattle.psg_session.specs.Applied.{HasApplied, HasStopped, IsRefusal}
use Rattle.psg_session.specs.Exchanges.{Outside}
use Rattle.psg_grammar.specs.Sound.{IsSound}
use Rattle.psg_specimen.specs.Refusal.{IsAccepted}
use Rattle.psg_session.specs.Formed.{HasText, IsFormedState}
use Rattle.psg_session.specs.Good.{IsGoodIn}
use Rattle.psg_session.proofs.ByCompletions.{accepted_forms, accepted_steps}
use Rattle.std.proofs.lemmas.Option.{none-some}
use Rattle.psg_session.specs.Outcomes.{after, IsStay, reply_in}
use Rattle.psg_session.specs.Reached.{HasReached}
use Rattle.psg_session.specs.PlainState.{Opened, State, start}
use Rattle.psg_session.specs.PlainStep.{Steps}
use Rattle.psg_session.specs.Sessions.{IsEditor, IsSession, opened_of, plain, state_of}
use Rattle.psg_session.specs.Views.{reply_of}

module _ (def : Definition) (old : Editor) (command : Command) (before after_it : Outside) (from to : ℕ)
    (outcome : Outcome) (is : HasReached def old command before after_it from to outcome) (sound : IsSound def)
    (accepted : IsAccepted def) (formed : IsFormedState def (state_of old)) (text : HasText command) where
  -- the step that the editor took, by the open judgement
  taken : (new : Editor) → state_of new ≡ after old outcome → (reply : Reply) → reply ≡ reply_in outcome
      → Steps def (IsGoodIn def) (state_of old) is.answer command (state_of new) (reply_of reply)
  taken new state reply told =
      subst (λ (t : State). Steps def (IsGoodIn def) (state_of old) is.answer command t (reply_of reply)) (sym state)
      (subst (λ (r : Reply). Steps def (IsGoodIn def) (state_of old) is.answer command (after old outcome) (reply_of r))
      (sym told) is.is_outcome.steps)

  -- the trees are of their kinds again
  pub stays_formed : (new : Editor) → state_of new ≡ after old outcome → (reply : Reply) → reply ≡ reply_in outcome
      → IsFormedState def (state_of new)
  stays_formed new state reply told =
      accepted_forms def sound accepted (state_of old) (state_of new) is.answer command (reply_of reply) text formed
      (taken new state reply told)

  -- the outcome is settled
  pub applied : (new : Editor) → state_of new ≡ after old outcome → (reply : Reply) → reply ≡ reply_in outcome
      → HasApplied def (state_of old) (state_of new) command before after_it from to (reply_of reply)
  applied new state reply told = record {
    asked = is.asked;
    asks = is.asks;
    answer = is.answer;
    answers = is.answers;
    steps = (accepted_steps def sound accepted (state_of old) (state_of new) is.answer command (reply_of reply) text formed).0
        (taken new state reply told);
    ticked = is.ticked;
  }

-- an outcome that refuses leaves the editor as it is
pub refusal_stays : (outcome : Outcome) (reply : Reply) → reply ≡ reply_in outcome → IsRefusal (reply_of reply)
    → IsStay outcome
refusal_stays outcome reply told h = go outcome (subst (λ (r : Reply). IsRefusal (reply_of r)) told h) where
  go : (o : Outcome) → IsRefusal (reply_of (reply_in o)) → IsStay o
  go (Stays r) h = tt
  go (Goes cursor lines) h = h
  go (OpensTree held cursor mark) h = h
  go (Changes note cursor mark) h = h
  go (Undoes cursor mark) h = h
  go (Redoes cursor mark) h = h
  go (Saves saved lines) h = h

-- the note of what is opened is a note of its tree
pub note_here : (p : Parts) → IsSession p → (held : OpenedTree) → p.editor.opened ≡ Some held
    → (old : Opened) × ((state_of p.editor).opened ≡ Some old) × IsNoteOf p.language old.tree held.note
note_here p session held opened = (
  plain held,
  ap opened_of opened,
  (opened_version p.language p.editor held session.editor opened).noted,
)

pub note_in : (p q : Parts) → p ≡ q → IsSession p → (held : OpenedTree) → p.editor.opened ≡ Some held
    → (old : Opened) × ((state_of q.editor).opened ≡ Some old) × IsNoteOf q.language old.tree held.note
note_in p q same session held opened =
    subst (λ (x : Parts). (old : Opened) × ((state_of x.editor).opened ≡ Some old)
    × IsNoteOf x.language old.tree held.note) same (note_here p session held opened)

-- the trees of the parts that the session keeps are of their kinds and printable
pub formed_in : (p q : Parts) → p ≡ q → IsSession p → IsFormedState q.language (state_of q.editor)
formed_in p q same session = subst (λ (x : Parts). IsFormedState x.language (state_of x.editor)) same session.formed

-- what was applied to the parts that the session keeps
pub applied_in : (p q : Parts) → p ≡ q → IsSession p → IsSound p.language → IsAccepted p.language → (command : Command) → HasText command
    → (before after_it : Outside) (from to : ℕ)
    → (outcome : Outcome) → HasReached p.language p.editor command before after_it from to outcome
    → (new : Editor) → state_of new ≡ after p.editor outcome → (reply : Reply) → reply ≡ reply_in outcome
    → HasApplied q.language (state_of q.editor) (state_of new) command before after_it from to (reply_of reply)
applied_in p q same session sound accepted command text before after_it from to outcome is new state reply told =
    subst (λ (x : Parts). HasApplied x.language (state_of x.editor) (state_of new) command before after_it
    from to (reply_of reply)) same
    (applied p.language p.editor command before after_it from to outcome is sound
    accepted session.formed text new state reply told)

-- The session after an outcome was settled.
pub session_after : (p : Parts) → IsSession p → IsSound p.language → IsAccepted p.language → (command : Command) → HasText command
    → (before after_it : Outside) (from to : ℕ)
    → (outcome : Outcome) → HasReached p.language p.editor command before after_it from to outcome
    → (new : Editor) → IsEditor p.language new → state_of new ≡ after p.editor outcome → (reply : Reply)
    → reply ≡ reply_in outcome → IsSession (record { language = p.language; editor = new })
session_after p session sound accepted command text before after_it from to outcome is new editor state reply told = record {
  editor = editor;
  formed = stays_formed p.language p.editor command before after_it from to outcome is sound
      accepted session.formed text new state reply told;
}

-- a session in which nothing is opened
pub begun : (language : Definition) → (e : Editor) → IsEditor language e
    → state_of e ≡ start → IsSession (record { language = language; editor = e })
begun language e editor state = record {
  editor = editor;
  formed = subst (IsFormedState language) (sym state) nothing;
} where
  nothing : IsFormedState language start
  nothing = record {
    opened = λ old e. absurd (none-some old e);
    cursor = λ old e. absurd (none-some old e);
    earlier = λ old e. tt;
    later = λ old e. tt;
    saved = tt;
    printable = record { opened = λ old e. absurd (none-some old e); earlier = tt; later = tt; saved = tt };
  }

pub stopped_in : {X : Type 0} (p q : Parts) → p ≡ q → (command : Command) (before after_it : Outside) (from to : ℕ)
    → HasStopped p.language (state_of p.editor) command before after_it from to
    → (r : Result X AllocError)
    → IfErr r (λ _. HasStopped q.language (state_of q.editor) command before after_it from to)
stopped_in p q same command before after_it from to is (Ok x) = tt
stopped_in p q same command before after_it from to is (Err e) =
    subst (λ (x : Parts). HasStopped x.language (state_of x.editor) command before after_it from to) same is

-- ---- lines

pub line_applied : (def : Definition) (s t : State) (line : List ℕ) (before after_it : Outside) (from to : ℕ) (reply : PlainReply)
    (command : Command) → Spells line command → HasApplied def s t command before after_it from to reply
    → HasAnswered def s t line before after_it from to reply
line_applied def s t line before after_it from to reply command spells h = to_command command spells h

pub line_broken : {X : Type 0} (def : Definition) (s : State) (line : List ℕ) (before after_it : Outside) (from to : ℕ)
    (command : Command) → Spells line command → HasStopped def s command before after_it from to
    → (r : Result X AllocError) → IfErr r (λ _. HasBroken def s line before after_it from to)
line_broken def s line before after_it from to command spells h (Ok x) = tt
line_broken def s line before after_it from to command spells h (Err e) = at_command command spells h
