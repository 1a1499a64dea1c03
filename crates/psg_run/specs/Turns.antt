-- What the calls that play lines of windows do, each by itself: for any state that goes from line to line, and any
-- relation of a line.
use Rattle.std.specs.Prelude.{ℕ, ◌≡◌, List, [], ◌∷◌}
use Rattle.std.specs.Io.KnownBytes.{append_known}
use Rattle.psg_run.specs.declared.status.Status.{Status}
use Rattle.psg_run.specs.Chain.{Finishes, Point, Runs, first_point}
use Rattle.psg_run.specs.Editing.{JustEnds}
use Rattle.psg_run.specs.Worlds.{World}

module _ (S : Type 0) (Plays : Point S → List ℕ → List ℕ → Point S → Type 0) where
  -- the line led from the state a to b, and its text was put
  pub record PutsLine (line : List ℕ) (a b : S) (old new : World) : Type 0 where
    pub text : List ℕ
    pub plays : Plays (first_point S a old) line text (first_point S b new)
    pub put : new.written ≡ append_known old.written text

  -- the lines, one or none, led from the state a to b, and their text was put
  pub record PutsSome (lines : List (List ℕ)) (a b : S) (old new : World) : Type 0 where
    pub text : List ℕ
    pub runs : Runs S Plays (first_point S a old) lines text (first_point S b new)
    pub put : new.written ≡ append_known old.written text

  module _ (Breaks : Point S → List ℕ → Point S → Type 0) where
    -- the run ends, and these lines are left
    abbrev pub EndsAt : S → List (List ℕ) → World → World → Status → Type 0
    EndsAt a left old new status = Finishes S Plays Breaks JustEnds old [] (first_point S a old) left new status

    -- the run ends at the one line that these are
    pub record EndsAmong (lines : List (List ℕ)) (a : S) (old new : World) (status : Status) : Type 0 where
      pub line : List ℕ
      pub is_one : lines ≡ line ∷ []
      pub ends : (rest : List (List ℕ)) → EndsAt a (line ∷ rest) old new status
