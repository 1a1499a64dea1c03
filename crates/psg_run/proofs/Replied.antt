-- Lines that an editor replies to, one after the other.
use Rattle.std.proofs.Common.{◌≡◌, ℕ, ◌≤◌, List, [], ◌∷◌, ◌++◌, refl, sym, ◌∙◌, ap, subst, append-nil}
use Rattle.std.specs.Io.KnownBytes.{append_known}
use Rattle.std.specs.List.{slice_split}
use Rattle.psg_world.specs.Sinks.{HasRisen, TakesFront}
use Rattle.psg_world.specs.declared.world.WriteStop.{WriteStop}
use Rattle.psg_world.specs.declared.world.WriteStop.TheVariants as stops
use Rattle.psg_grammar.specs.declared.types.Definition.{Definition}
use Rattle.psg_session.specs.Lines.{HasAnswered, HasBroken}
use Rattle.psg_session.specs.PlainState.{State, start}
use Rattle.psg_session.specs.Replies.{Reply, answered, reply_text}
use Rattle.psg_run.specs.declared.status.Status.{Status}
use Rattle.psg_run.specs.declared.status.Status.TheVariants as ends_with
use Rattle.psg_run.specs.Chain.{Runs, breaks, closes, is_played, puts_front, rests}
use Rattle.psg_run.specs.Editing.{BreaksOff, Editor, Edits, IsReplied, IsRepliedBy, IsSilent, JustEnds}
use Rattle.psg_run.specs.Endings.{write_status}
use Rattle.psg_run.specs.Playing.{BreaksAmong, BreaksIn, FinishesAt, FinishesIn, PutsLines, PutsReply, point}
use Rattle.psg_run.specs.Scripts.{is_feed, kept_lines}
use Rattle.psg_run.specs.Worlds.{IsProperFrontOf, World, not_put, put_failed, put_in_part, put_whole}
use Rattle.psg_run.proofs.Chains.{append_known-append, append_known-nil, finishes_earlier, left_after, left_none, left_with, runs_append, runs_one, took_front}

-- ---- one line

module _ (write : Reply → List ℕ) (def : Definition) (s t : State) (before reply : Reply) (line : List ℕ) (old new : World) (same : new.input ≡ old.input) where
  nothing_put : new.written ≡ old.written → new.written ≡ append_known (append_known old.written []) []
  nothing_put put = put ∙ sym (append_known-nil old.written) ∙ sym (append_known-nil (append_known old.written []))

  pub line_breaks : (rest : List (List ℕ)) → HasBroken def s line old.files new.files old.ticks new.ticks → new.written ≡ old.written
      → FinishesAt write def s before (line ∷ rest) old new ends_with.Memory
  line_breaks rest broken put =
      breaks (point s before new) (record { breaks = broken; input = same })
      (record { files = refl; input = refl; ticks = refl; took = nothing_put put })

  module _ (answers : HasAnswered def s t line old.files new.files old.ticks new.ticks reply) where
    is_next : IsRepliedBy def write (point s before old) line (write reply) (point t reply new)
    is_next = (record { answers = answers; input = same }, refl)

    pub line_unput : (rest : List (List ℕ)) → new.written ≡ old.written → FinishesAt write def s before (line ∷ rest) old new ends_with.Memory
    line_unput rest put =
        puts_front (point t reply new) (write reply) is_next
        (not_put (record { files = refl; input = refl; ticks = refl; took = nothing_put put }))

    pub line_front : (rest : List (List ℕ)) (bytes : List ℕ) → bytes ≡ write reply → TakesFront old.written bytes new.written
        → (stop : WriteStop) → (stop ≡ stops.Failed → HasRisen old.count new.count)
        → FinishesAt write def s before (line ∷ rest) old new (write_status stop)
    line_front rest bytes is takes stops.Failed risen =
        let (front, proper, wrote) = took_front bytes (record { files = new.files; input = new.input; ticks = new.ticks; written = append_known old.written []; count = old.count }) new refl refl refl
        (subst (λ w. TakesFront w bytes new.written) (sym (append_known-nil old.written)) takes) in
        puts_front (point t reply new) (write reply) is_next (put_failed front (subst (λ b. IsProperFrontOf front b) is proper) wrote (risen refl))
    line_front rest bytes is takes stops.Memory risen =
        let (front, proper, wrote) = took_front bytes (record { files = new.files; input = new.input; ticks = new.ticks; written = append_known old.written []; count = old.count }) new refl refl refl
        (subst (λ w. TakesFront w bytes new.written) (sym (append_known-nil old.written)) takes) in
        puts_front (point t reply new) (write reply) is_next (put_in_part front (subst (λ b. IsProperFrontOf front b) is proper) wrote)

    pub line_put : (bytes : List ℕ) → bytes ≡ write reply → new.written ≡ append_known old.written bytes
        → PutsReply write def line s t before old new
    line_put bytes is put = record {
      reply = reply;
      text = write reply;
      replies = is_next;
      put = put ∙ ap (append_known old.written) is;
    }

-- ---- one line or none

module _ (write : Reply → List ℕ) (def : Definition) (lines : List (List ℕ)) (s : State) (before : Reply) (old : World) where
  pub some_put : (line : List ℕ) (t : State) (new : World) → lines ≡ line ∷ [] → PutsReply write def line s t before old new → PutsLines write def lines s t before old new
  some_put line t new is p = record {
    reply = p.reply;
    text = p.text;
    runs = subst (λ l. Runs Editor (IsRepliedBy def write) (point s before old) l p.text (point t p.reply new)) (sym is) (runs_one Editor (IsRepliedBy def write) p.replies);
    put = p.put;
  }

  pub none_played : lines ≡ [] → PutsLines write def lines s s before old old
  none_played is = record {
    reply = before;
    text = [];
    runs = subst (λ l. Runs Editor (IsRepliedBy def write) (point s before old) l [] (point s before old)) (sym is) rests;
    put = sym (append_known-nil old.written);
  }

-- ---- the lines so far

-- what was played of all lines, and what is left of the script
pub record SoFar (def : Definition) (all : List (List ℕ)) (rest : List ℕ) (state : State) (old now : World) : Type 0 where
  pub done : List (List ℕ)
  pub reply : Reply
  pub texts : List ℕ
  pub runs : Runs Editor (IsReplied def) (point start (answered []) old) done texts (point state reply now)
  pub left : all ≡ done ++ kept_lines (slice_split is_feed rest)
  pub put : now.written ≡ append_known old.written texts

module _ (def : Definition) where
  pub so_begins : (bytes : List ℕ) (state : State) (old : World) → state ≡ start
      → SoFar def (kept_lines (slice_split is_feed bytes)) bytes state old old
  so_begins bytes state old is = record {
    done = [];
    reply = answered [];
    texts = [];
    runs = subst (λ s. Runs Editor (IsReplied def) (point start (answered []) old) [] [] (point s (answered []) old)) (sym is) rests;
    left = refl;
    put = sym (append_known-nil old.written);
  }

  module _ (all : List (List ℕ)) (rest after piece : List ℕ) (s : State) (old mid : World)
      (cut : kept_lines (slice_split is_feed rest) ≡ kept_lines (piece ∷ slice_split is_feed after))
      (h : SoFar def all rest s old mid) where
    pub so_played : (t : State) (new : World) → PutsLines reply_text def (kept_lines (piece ∷ [])) s t h.reply mid new → SoFar def all after t old new
    so_played t new p = record {
      done = h.done ++ kept_lines (piece ∷ []);
      reply = p.reply;
      texts = h.texts ++ p.text;
      runs = runs_append Editor (IsReplied def) h.runs p.runs;
      left = left_after all h.done rest after piece cut h.left;
      put = p.put ∙ ap (λ w. append_known w p.text) h.put ∙ append_known-append old.written h.texts p.text;
    }

    pub so_stopped : (new : World) (status : Status) → old.count ≤ mid.count
        → FinishesIn reply_text def (kept_lines (piece ∷ [])) s h.reply mid new status → Edits def all old new status
    so_stopped new status less f =
        is_played h.done (f.line ∷ kept_lines (slice_split is_feed after)) h.texts (point s h.reply mid)
        (left_with all h.done rest after piece f.line cut h.left f.is_one) h.runs
        (finishes_earlier Editor (IsReplied def) (BreaksOff def) JustEnds old mid new h.texts (point s h.reply mid)
        (f.line ∷ kept_lines (slice_split is_feed after)) status h.put less
        (f.finishes (kept_lines (slice_split is_feed after))))

  pub so_finished : (all : List (List ℕ)) (rest : List ℕ) (s : State) (old new : World) → rest ≡ [] → SoFar def all rest s old new
      → Edits def all old new ends_with.Done
  so_finished all rest s old new none h =
      is_played h.done [] h.texts (point s h.reply new) (left_none all h.done rest none h.left) h.runs
      (closes (point s h.reply new) [] ends_with.Done (refl, refl, refl)
      (put_whole (record { files = refl; input = refl; ticks = refl; took = h.put ∙ sym (append_known-nil (append_known old.written h.texts)) })))

-- ---- in silence

-- what was played of all lines in silence, with this reply to the last one, and what is left of the script
pub record Silently (def : Definition) (all : List (List ℕ)) (rest : List ℕ) (state : State) (reply : Reply) (old now : World) : Type 0 where
  pub done : List (List ℕ)
  pub runs : Runs Editor (IsSilent def) (point start (answered []) old) done [] (point state reply now)
  pub left : all ≡ done ++ kept_lines (slice_split is_feed rest)

module _ (def : Definition) where
  -- one line or none
  pub silent_line : (lines : List (List ℕ)) (line : List ℕ) (s t : State) (before reply : Reply) (old new : World) → lines ≡ line ∷ [] → new.input ≡ old.input
      → HasAnswered def s t line old.files new.files old.ticks new.ticks reply
      → Runs Editor (IsSilent def) (point s before old) lines [] (point t reply new)
  silent_line lines line s t before reply old new is same answers =
      subst (λ l. Runs Editor (IsSilent def) (point s before old) l [] (point t reply new)) (sym is)
      (runs_one Editor (IsSilent def) {text = []} (record { answers = answers; input = same }, refl))

  pub silent_none : (lines : List (List ℕ)) (s : State) (before : Reply) (old : World) → lines ≡ []
      → Runs Editor (IsSilent def) (point s before old) lines [] (point s before old)
  silent_none lines s before old is = subst (λ l. Runs Editor (IsSilent def) (point s before old) l [] (point s before old)) (sym is) rests

  pub silently_begins : (bytes : List ℕ) (state : State) (old : World) → state ≡ start
      → Silently def (kept_lines (slice_split is_feed bytes)) bytes state (answered []) old old
  silently_begins bytes state old is = record {
    done = [];
    runs = subst (λ s. Runs Editor (IsSilent def) (point start (answered []) old) [] [] (point s (answered []) old)) (sym is) rests;
    left = refl;
  }

  module _ (all : List (List ℕ)) (rest after piece : List ℕ) (s : State) (reply : Reply) (old mid : World)
      (cut : kept_lines (slice_split is_feed rest) ≡ kept_lines (piece ∷ slice_split is_feed after))
      (h : Silently def all rest s reply old mid) (new : World) where
    pub silently_played : (t : State) (next : Reply) → Runs Editor (IsSilent def) (point s reply mid) (kept_lines (piece ∷ [])) [] (point t next new)
        → Silently def all after t next old new
    silently_played t next runs = record {
      done = h.done ++ kept_lines (piece ∷ []);
      runs = runs_append Editor (IsSilent def) h.runs runs;
      left = left_after all h.done rest after piece cut h.left;
    }

    pub silently_broken : new.input ≡ mid.input → BreaksIn def (kept_lines (piece ∷ [])) s mid new → BreaksAmong def all old new
    silently_broken same b = record {
      first = h.done;
      line = b.line;
      rest = kept_lines (slice_split is_feed after);
      split = left_with all h.done rest after piece b.line cut h.left b.is_one;
      last = point s reply mid;
      after = record { state = s; reply = reply };
      runs = h.runs;
      breaks = record { breaks = b.breaks; input = same };
    }

  pub silently_finished : (all : List (List ℕ)) (rest : List ℕ) (s : State) (reply : Reply) (old new : World) → rest ≡ []
      → Silently def all rest s reply old new → Runs Editor (IsSilent def) (point start (answered []) old) all [] (point s reply new)
  silently_finished all rest s reply old new none h =
      subst (λ l. Runs Editor (IsSilent def) (point start (answered []) old) l [] (point s reply new))
      (sym (left_none all h.done rest none h.left ∙ append-nil h.done)) h.runs
