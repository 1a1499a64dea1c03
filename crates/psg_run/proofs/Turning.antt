-- Lines that are played one after the other, whatever a line does, as far as a script was cut.
use Rattle.std.proofs.Common.{◌≡◌, ℕ, ◌≤◌, List, [], ◌∷◌, ◌++◌, Option, refl, sym, ◌∙◌, ap, subst}
use Rattle.std.specs.Io.KnownBytes.{append_known}
use Rattle.std.specs.List.{slice_split}
use Rattle.psg_world.specs.Sinks.{HasRisen, TakesFront}
use Rattle.psg_world.specs.declared.world.WriteStop.{WriteStop}
use Rattle.psg_world.specs.declared.world.WriteStop.TheVariants as stops
use Rattle.psg_run.specs.declared.status.Status.{Status}
use Rattle.psg_run.specs.declared.status.Status.TheVariants as ends_with
use Rattle.psg_run.specs.Chain.{IsPlayed, Point, Runs, breaks, closes, first_point, is_played, puts_front, rests}
use Rattle.psg_run.specs.Chain.{world_at}
use Rattle.psg_run.specs.Editing.{JustEnds}
use Rattle.psg_run.specs.Endings.{write_status}
use Rattle.psg_run.specs.Scripts.{is_feed, kept_lines}
use Rattle.psg_run.specs.Turns.{EndsAmong, EndsAt, PutsLine, PutsSome}
use Rattle.psg_run.specs.Worlds.{PutsFront, World, Wrote, not_put, put_failed, put_in_part, put_whole}
use Rattle.psg_run.proofs.Chains.{append_known-append, append_known-nil, finishes_earlier, left_after, left_none}
use Rattle.psg_run.proofs.Chains.{left_with, runs_append, runs_one, took_front}

-- ---- a put that stopped

module _ (bytes : List ℕ) (old new : World) (files : new.files ≡ old.files) (input : new.input ≡ old.input) (ticks : new.ticks ≡ old.ticks) where
  -- nothing was put, since memory ran out before
  pub none_stopped : new.written ≡ old.written → PutsFront bytes old new ends_with.Memory
  none_stopped same =
      not_put (record { files = files; input = input; ticks = ticks; took = same ∙ sym (append_known-nil old.written) })

  pub front_stopped : TakesFront old.written bytes new.written → (stop : WriteStop)
      → (stop ≡ stops.Failed → HasRisen old.count new.count) → PutsFront bytes old new (write_status stop)
  front_stopped takes stops.Failed risen =
      let (front, proper, wrote) = took_front bytes old new files input ticks takes in
      put_failed front proper wrote (risen refl)
  front_stopped takes stops.Memory risen =
      let (front, proper, wrote) = took_front bytes old new files input ticks takes in
      put_in_part front proper wrote

-- The world at a put: this was written before, and nothing else changes then.
abbrev pub before_put : World → World → Option (List ℕ) → World
before_put old new written = record {
  files = new.files;
  input = new.input;
  ticks = new.ticks;
  written = written;
  count = old.count;
}

-- bytes that were put since the beginning of a run which is at this point
module _ (old new : World) (S : Type 0) (t : Point S) where
  wrote_at : (bytes : List ℕ) → new.files ≡ t.files → new.input ≡ t.input → new.ticks ≡ t.ticks
      → new.written ≡ append_known old.written bytes → Wrote bytes (world_at S old [] t) new
  wrote_at bytes files input ticks took = record {
    files = files;
    input = input;
    ticks = ticks;
    took = took ∙ ap (λ w. append_known w bytes) (sym (append_known-nil old.written));
  }

module _ (S : Type 0) (Plays : Point S → List ℕ → List ℕ → Point S → Type 0) where
  -- ---- one line, or none

  pub some_put : (lines : List (List ℕ)) (line : List ℕ) (a b : S) (old new : World) → lines ≡ line ∷ []
      → PutsLine S Plays line a b old new → PutsSome S Plays lines a b old new
  some_put lines line a b old new is p = record {
    text = p.text;
    runs = subst (λ l. Runs S Plays (first_point S a old) l p.text (first_point S b new)) (sym is)
        (runs_one S Plays p.plays);
    put = p.put;
  }

  pub none_played : (lines : List (List ℕ)) (a : S) (old : World) → lines ≡ [] → PutsSome S Plays lines a a old old
  none_played lines a old is = record {
    text = [];
    runs = subst (λ l. Runs S Plays (first_point S a old) l [] (first_point S a old)) (sym is) rests;
    put = sym (append_known-nil old.written);
  }

  -- ---- the lines so far

  -- what was played of all lines from the first state on, and what is left of the script
  pub record TurnsSoFar (all : List (List ℕ)) (rest : List ℕ) (first a : S) (old now : World) : Type 0 where
    pub done : List (List ℕ)
    pub texts : List ℕ
    pub runs : Runs S Plays (first_point S first old) done texts (first_point S a now)
    pub left : all ≡ done ++ kept_lines (slice_split is_feed rest)
    pub put : now.written ≡ append_known old.written texts

  pub turns_begin : (bytes : List ℕ) (first a : S) (old : World) → a ≡ first
      → TurnsSoFar (kept_lines (slice_split is_feed bytes)) bytes first a old old
  turns_begin bytes first a old is = record {
    done = [];
    texts = [];
    runs = subst (λ s. Runs S Plays (first_point S first old) [] [] (first_point S s old)) (sym is) rests;
    left = refl;
    put = sym (append_known-nil old.written);
  }

  module _ (all : List (List ℕ)) (rest after piece : List ℕ) (first a : S) (old mid : World)
      (cut : kept_lines (slice_split is_feed rest) ≡ kept_lines (piece ∷ slice_split is_feed after))
      (h : TurnsSoFar all rest first a old mid) where
    pub turn_played : (b : S) (new : World) → PutsSome S Plays (kept_lines (piece ∷ [])) a b mid new
        → TurnsSoFar all after first b old new
    turn_played b new p = record {
      done = h.done ++ kept_lines (piece ∷ []);
      texts = h.texts ++ p.text;
      runs = runs_append S Plays h.runs p.runs;
      left = left_after all h.done rest after piece cut h.left;
      put = p.put ∙ ap (λ w. append_known w p.text) h.put ∙ append_known-append old.written h.texts p.text;
    }

    pub turn_stopped : (Breaks : Point S → List ℕ → Point S → Type 0) (new : World) (status : Status)
        → old.count ≤ mid.count
        → EndsAmong S Plays Breaks (kept_lines (piece ∷ [])) a mid new status
        → IsPlayed S Plays Breaks JustEnds first all old new status
    turn_stopped Breaks new status less e =
        is_played h.done (e.line ∷ kept_lines (slice_split is_feed after)) h.texts (first_point S a mid)
        (left_with all h.done rest after piece e.line cut h.left e.is_one) h.runs
        (finishes_earlier S Plays Breaks JustEnds old mid new h.texts (first_point S a mid)
        (e.line ∷ kept_lines (slice_split is_feed after)) status h.put less
        (e.ends (kept_lines (slice_split is_feed after))))

  pub turns_finished : (all : List (List ℕ)) (rest : List ℕ) (first a : S) (old new : World)
      (Breaks : Point S → List ℕ → Point S → Type 0) → rest ≡ [] → TurnsSoFar all rest first a old new
      → IsPlayed S Plays Breaks JustEnds first all old new ends_with.Done
  turns_finished all rest first a old new Breaks none h =
      is_played h.done [] h.texts (first_point S a new) (left_none all h.done rest none h.left) h.runs
      (closes (first_point S a new) [] ends_with.Done (refl, refl, refl)
      (put_whole (record {
        files = refl;
        input = refl;
        ticks = refl;
        took = h.put ∙ sym (append_known-nil (append_known old.written h.texts));
      })))

  -- ---- runs that end at a line

  module _ (Breaks : Point S → List ℕ → Point S → Type 0) (a : S) (line : List ℕ) (old new : World) where
    -- memory ran out within the line
    pub breaks_here : (b : S) (rest : List (List ℕ)) → Breaks (first_point S a old) line (first_point S b new)
        → new.written ≡ old.written → EndsAt S Plays Breaks a (line ∷ rest) old new ends_with.Memory
    breaks_here b rest broken put =
        breaks (first_point S b new) broken
        (wrote_at old new S (first_point S b new) [] refl refl refl (put ∙ sym (append_known-nil old.written)))

    -- the line was played, and its text was not put whole
    pub puts_front_here : (b : S) (rest : List (List ℕ)) (text : List ℕ) (status : Status)
        → Plays (first_point S a old) line text (first_point S b new)
        → PutsFront text (before_put old new old.written) new status
        → EndsAt S Plays Breaks a (line ∷ rest) old new status
    puts_front_here b rest text status plays front =
        puts_front (first_point S b new) text plays
        (subst (λ w. PutsFront text (before_put old new w) new status) (sym (append_known-nil old.written)) front)
