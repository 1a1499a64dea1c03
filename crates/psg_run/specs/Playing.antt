-- What the calls that play lines do, each by itself.
use Rattle.std.specs.Prelude.{ℕ, ◌≡◌, List, [], ◌∷◌, ◌++◌, Option, Some, None}
use Rattle.std.specs.Borrow.{Bor}
use Rattle.std.specs.Io.KnownBytes.{append_known}
use Rattle.psg_grammar.specs.declared.types.Definition.{Definition}
use Rattle.psg_session.specs.declared.replies.Reply.{Reply as Given}
use Rattle.psg_session.specs.Lines.{HasBroken}
use Rattle.psg_session.specs.PlainState.{State}
use Rattle.psg_session.specs.Replies.{Reply, answered}
use Rattle.psg_session.specs.Views.{reply_of}
use Rattle.psg_run.specs.declared.status.Status.{Status}
use Rattle.psg_run.specs.Chain.{Finishes, Point, Runs, first_point}
use Rattle.psg_run.specs.Editing.{BreaksOff, Editor, IsRepliedBy, IsSilent, JustEnds, new_editor}
use Rattle.psg_run.specs.Worlds.{World}

-- a session in this state, with this reply to the last line, in this world
abbrev pub point : State → Reply → World → Point Editor
point state reply world = first_point Editor (record { state = state; reply = reply }) world

-- the reply to the last line; an empty one where there is no line
abbrev pub last_of : Option Given → Reply
last_of (Some reply) = reply_of reply
last_of None = answered []

-- The line was played, and its reply put, as it is written by `write`. The session was in the state s with the reply
-- `before`, and is in the state t.
pub record PutsReply (write : Reply → List ℕ) (def : Definition) (line : List ℕ) (s t : State) (before : Reply)
    (old new : World) : Type 0 where
  pub reply : Reply
  pub text : List ℕ
  pub replies : IsRepliedBy def write (point s before old) line text (point t reply new)
  pub put : new.written ≡ append_known old.written text

-- the run ends where these lines are left
abbrev pub FinishesAt : (Reply → List ℕ) → Definition → State → Reply → List (List ℕ) → World → World → Status → Type 0
FinishesAt write def s before left old new status =
    Finishes Editor (IsRepliedBy def write) (BreaksOff def) JustEnds old [] (point s before old) left new status

-- a line or none, as a list
abbrev pub AreOf : List (List ℕ) → Option (Bor (List ℕ)) → Type 0
AreOf lines None = lines ≡ []
AreOf lines (Some line) = lines ≡ line.now ∷ []

-- The lines, one or none, were played, and the reply put.
pub record PutsLines (write : Reply → List ℕ) (def : Definition) (lines : List (List ℕ)) (s t : State) (before : Reply)
    (old new : World)
    : Type 0 where
  pub reply : Reply
  pub text : List ℕ
  pub runs : Runs Editor (IsRepliedBy def write) (point s before old) lines text (point t reply new)
  pub put : new.written ≡ append_known old.written text

-- the run ends at the one line that these are
pub record FinishesIn (write : Reply → List ℕ) (def : Definition) (lines : List (List ℕ)) (s : State) (before : Reply)
    (old new : World)
    (status : Status) : Type 0 where
  pub line : List ℕ
  pub is_one : lines ≡ line ∷ []
  pub finishes : (rest : List (List ℕ)) → FinishesAt write def s before (line ∷ rest) old new status

-- memory ran out within the one line that these are
pub record BreaksIn (def : Definition) (lines : List (List ℕ)) (s : State) (old new : World) : Type 0 where
  pub line : List ℕ
  pub is_one : lines ≡ line ∷ []
  pub breaks : HasBroken def s line old.files new.files old.ticks new.ticks

-- memory ran out within one of the lines, to which those before it lead from a new editor
pub record BreaksAmong (def : Definition) (lines : List (List ℕ)) (old new : World) : Type 0 where
  pub first : List (List ℕ)
  pub line : List ℕ
  pub rest : List (List ℕ)
  pub split : lines ≡ first ++ line ∷ rest
  pub last : Point Editor
  pub after : Editor
  pub runs : Runs Editor (IsSilent def) (first_point Editor new_editor old) first [] last
  pub breaks : BreaksOff def last line (first_point Editor after new)
