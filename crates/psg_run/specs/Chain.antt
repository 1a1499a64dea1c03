-- Lines that are played one after the other, and how a run ends among them. What a line does is a parameter.
use Rattle.std.specs.Prelude.{ℕ, ◌≡◌, List, [], ◌∷◌, ◌++◌}
use Rattle.std.specs.Io.KnownBytes.{append_known}
use Rattle.psg_session.specs.Exchanges.{Outside}
use Rattle.psg_run.specs.declared.status.Status.{Status}
use Rattle.psg_run.specs.declared.status.Status.TheVariants as ends_with
use Rattle.psg_run.specs.Worlds.{Incoming, Puts, PutsFront, World, Wrote}

-- A point of a run between two lines: the state that goes from line to line, the files, the input, and how many
-- evaluations were counted.
pub record Point (S : Type 0) : Type 0 where
  pub state : S
  pub files : Outside
  pub input : Incoming
  pub ticks : ℕ

module _ (S : Type 0) where
  -- the first point of a run that begins in this world
  abbrev pub first_point : S → World → Point S
  first_point state old = record { state = state; files = old.files; input = old.input; ticks = old.ticks }

  -- The world at this point of a run that began in the old one and wrote these bytes. The count is that of the
  -- beginning, so a fault of the sink counts if it happened since the run began.
  abbrev pub world_at : World → List ℕ → Point S → World
  world_at old texts t = record {
    files = t.files;
    input = t.input;
    ticks = t.ticks;
    written = append_known old.written texts;
    count = old.count;
  }

-- `Plays s line text t`: the line leads from s to t, and the text is put for it.
module _ (S : Type 0) (Plays : Point S → List ℕ → List ℕ → Point S → Type 0) where
  -- Runs s lines texts t: the lines lead from s to t, and these texts are put, one after the other.
  pub data Runs : Point S → List (List ℕ) → List ℕ → Point S → Type 0 where
    rests : {s : Point S} → Runs s [] [] s
    goes : {s t : Point S} {line : List ℕ} {rest : List (List ℕ)} (mid : Point S) (text texts : List ℕ)
        → Plays s line text mid → Runs mid rest texts t → Runs s (line ∷ rest) (text ++ texts) t

  -- `Breaks s line t`: memory runs out within the line, with nothing put for it; t has what is outside then.
  -- `Closes s text done t`: there is no line left, the text is put, and the status is `done` where it is put whole.
  module _ (Breaks : Point S → List ℕ → Point S → Type 0) (Closes : Point S → List ℕ → Status → Point S → Type 0) where
    -- Finishes old texts s left new status: a run that began in the world `old` and wrote these texts is at s, with
    -- these lines left, and ends. Where no line is left, it closes. Else it ends at the first of them: this was
    -- played, and its text was not put whole; or memory ran out within it.
    pub data Finishes (old : World) (texts : List ℕ) (s : Point S) : List (List ℕ) → World → Status → Type 0 where
      closes : {status : Status} {new : World} (t : Point S) (text : List ℕ) (done : Status)
          → Closes s text done t → Puts text done (world_at S old texts t) new status
          → Finishes old texts s [] new status
      puts_front : {line : List ℕ} {rest : List (List ℕ)} {new : World} {status : Status} (t : Point S) (text : List ℕ)
          → Plays s line text t → PutsFront text (world_at S old texts t) new status
          → Finishes old texts s (line ∷ rest) new status
      breaks : {line : List ℕ} {rest : List (List ℕ)} {new : World} (t : Point S)
          → Breaks s line t → Wrote [] (world_at S old texts t) new
          → Finishes old texts s (line ∷ rest) new ends_with.Memory

    -- The lines are played from this state on: the first ones to their end, and then the run ends. Or there is no
    -- memory to begin with.
    pub data IsPlayed (start : S) (lines : List (List ℕ)) (old new : World) : Status → Type 0 where
      is_played : {status : Status} (first left : List (List ℕ)) (texts : List ℕ) (last : Point S)
          → lines ≡ first ++ left → Runs (first_point S start old) first texts last
          → Finishes old texts last left new status → IsPlayed start lines old new status
      no_room_to_begin : new ≡ old → IsPlayed start lines old new ends_with.Memory
