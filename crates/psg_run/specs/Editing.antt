-- The plain editor as it goes from line to line.
use Rattle.std.specs.Prelude.{ℕ, ◌≡◌, List, []}
use Rattle.psg_grammar.specs.declared.types.Definition.{Definition}
use Rattle.psg_session.specs.Lines.{HasAnswered, HasBroken}
use Rattle.psg_session.specs.PlainState.{State, start}
use Rattle.psg_session.specs.Replies.{Reply, answered, reply_text}
use Rattle.psg_run.specs.declared.status.Status.{Status}
use Rattle.psg_run.specs.declared.status.Status.TheVariants as ends_with
use Rattle.psg_run.specs.Chain.{IsPlayed, Point}
use Rattle.psg_run.specs.Worlds.{Act}

-- the plain editor, and its reply to the last line
pub record Editor : Type 0 where
  pub state : State
  pub reply : Reply

-- nothing is opened, and there was no line
abbrev pub new_editor : Editor
new_editor = record { state = start; reply = answered [] }

module _ (def : Definition) where
  -- The plain editor goes from s to t by the line: by its command, with what the files answered to that, and with no
  -- more evaluations than the command may take; or it refuses a line that spells none.
  pub record IsNext (s : Point Editor) (line : List ℕ) (t : Point Editor) : Type 0 where
    pub answers : HasAnswered def s.state.state t.state.state line s.files t.files s.ticks t.ticks t.state.reply
    pub input : t.input ≡ s.input

  -- memory ran out before the line had a reply
  pub record BreaksOff (s : Point Editor) (line : List ℕ) (t : Point Editor) : Type 0 where
    pub breaks : HasBroken def s.state.state line s.files t.files s.ticks t.ticks
    pub input : t.input ≡ s.input

  -- the reply to the line is put, as it is written by this
  abbrev pub IsRepliedBy : (Reply → List ℕ) → Point Editor → List ℕ → List ℕ → Point Editor → Type 0
  IsRepliedBy write s line text t = IsNext s line t × (text ≡ write t.state.reply)

  -- the reply to the line is put
  abbrev pub IsReplied : Point Editor → List ℕ → List ℕ → Point Editor → Type 0
  IsReplied = IsRepliedBy reply_text

  -- nothing is put for the line
  abbrev pub IsSilent : Point Editor → List ℕ → List ℕ → Point Editor → Type 0
  IsSilent s line text t = IsNext s line t × (text ≡ [])

-- after the last line nothing is put, and all is well
abbrev pub JustEnds : {S : Type 0} → Point S → List ℕ → Status → Point S → Type 0
JustEnds s text done t = (text ≡ []) × (done ≡ ends_with.Done) × (t ≡ s)

-- the plain editor of the definition replies to the lines
abbrev pub Edits : Definition → List (List ℕ) → Act
Edits def lines = IsPlayed Editor (IsReplied def) (BreaksOff def) JustEnds new_editor lines
