-- The lines of an input played one by one.
use Rattle.std.proofs.Common.{◌≡◌, ◌⊎◌, inl, inr, ℕ, suc, ◌+◌, ◌<◌, ◌≤◌, min, leb, nat_lt, true, false, cond, List, [], ◌∷◌, ◌++◌, length, take, Option, Some, None, IfSome, Ok, Err, Vec, refl, sym, ◌∙◌, ap, subst, arith, append-nil}
use Rattle.std.specs.Io.KnownBytes.{append_known}
use Rattle.std.proofs.lemmas.Bool.Decides.{leb_tells}
use Rattle.std.proofs.lemmas.List.{length-take, take_all}
use Rattle.std.specs.declared.alloc.Global.{Global}
use Rattle.psg_world.specs.Files.{front_of}
use Rattle.psg_world.specs.Inputs.{GivesNext, given_after, missed_after}
use Rattle.psg_world.specs.declared.world.ReadStop.{ReadStop}
use Rattle.psg_world.specs.declared.world.ReadStop.TheVariants as read_stops
use Rattle.psg_grammar.specs.declared.types.Definition.{Definition}
use Rattle.psg_session.specs.PlainState.{State, start}
use Rattle.psg_session.specs.Replies.{Reply, answered}
use Rattle.psg_run.specs.declared.status.Status.{Status}
use Rattle.psg_run.specs.declared.status.Status.TheVariants as ends_with
use Rattle.psg_run.specs.Chain.{Finishes, Runs, breaks, closes, is_played, puts_front, rests}
use Rattle.psg_run.specs.Editing.{BreaksOff, Editor, IsRepliedBy, JustEnds}
use Rattle.psg_run.specs.Endings.{read_status}
use Rattle.psg_run.specs.Live.{BreaksLive, EndsInput, EndsLive, Gives, IsRepliedLiveBy, TalksBy, heard, is_at_end, is_unread_line, most_line_bytes, no_room_for_line}
use Rattle.psg_run.specs.Playing.{FinishesIn, PutsLines, point}
use Rattle.psg_run.specs.Scripts.{kept_lines}
use Rattle.psg_run.specs.Worlds.{Incoming, World, put_whole}
use Rattle.psg_run.proofs.Chains.{append_known-append, append_known-nil, front_earlier, runs_more, runs_one, wrote_earlier}

-- ---- what the editor is given

-- a line that is cut after one byte too many is as long as the whole one, as far as the limit tells
abbrev IsCutAt : ℕ → List ℕ → Type 0
IsCutAt limit line =
    ((nat_lt limit (length line) ≡ true) × (nat_lt limit (length (front_of limit line)) ≡ true))
    ⊎ ((nat_lt limit (length line) ≡ false) × (front_of limit line ≡ line))

cut_at : (limit : ℕ) (line : List ℕ) → IsCutAt limit line
cut_at limit line = by (leb_tells (suc limit) (length line)) (leb_tells (suc limit) (length (front_of limit line))) where
  cut : length (take (limit + 1) line) ≡ min (limit + 1) (length line)
  cut = length-take (limit + 1) line

  by : ((leb (suc limit) (length line) ≡ true) × (suc limit ≤ length line)) ⊎ ((leb (suc limit) (length line) ≡ false) × (length line < suc limit))
      → ((leb (suc limit) (length (front_of limit line)) ≡ true) × (suc limit ≤ length (front_of limit line)))
      ⊎ ((leb (suc limit) (length (front_of limit line)) ≡ false) × (length (front_of limit line) < suc limit)) → IsCutAt limit line
  by (inl (long, more)) (inl (still, enough)) = inl (long, still)
  by (inl (long, more)) (inr (short, less)) = absurd (omega (arith, cut, more, less))
  by (inr (short, less)) other = inr (short, take_all (limit + 1) line (omega (arith, less)))

pub heard_front : (line : List ℕ) → heard line ≡ heard (front_of most_line_bytes line)
heard_front line = by (cut_at most_line_bytes line) where
  by : IsCutAt most_line_bytes line → heard line ≡ heard (front_of most_line_bytes line)
  by (inl (long, still)) =
      ap (λ b. cond b ([] ∷ []) (kept_lines (line ∷ []))) long
      ∙ sym (ap (λ b. cond b ([] ∷ []) (kept_lines (front_of most_line_bytes line ∷ []))) still)
  by (inr (short, same)) = ap heard (sym same)

pub heard_long : (piece : List ℕ) → nat_lt most_line_bytes (length piece) ≡ true → heard piece ≡ [] ∷ []
heard_long piece long = ap (λ b. cond b ([] ∷ []) (kept_lines (piece ∷ []))) long

pub heard_short : (piece : List ℕ) → nat_lt most_line_bytes (length piece) ≡ false → heard piece ≡ kept_lines (piece ∷ [])
heard_short piece short = ap (λ b. cond b ([] ∷ []) (kept_lines (piece ∷ []))) short

-- ---- what the input gave

-- the whole line, of which the piece may be a front
pub gives_piece : (old new : Incoming) (piece : Vec ℕ Global) → GivesNext most_line_bytes old.lines new.lines (Some piece)
    → new.given ≡ given_after old.given (Ok (Some piece)) → new.missed ≡ missed_after old.missed old.given (Ok (Some piece))
    → (line : List ℕ) × Gives old new line × (heard line ≡ heard piece.items)
gives_piece old new piece gives counted missed = by old.lines refl gives where
  by : (known : Option (List (List ℕ))) → old.lines ≡ known → GivesNext most_line_bytes known new.lines (Some piece)
      → (line : List ℕ) × Gives old new line × (heard line ≡ heard piece.items)
  by None is h = (
    piece.items,
    record {
      next = subst (λ x. IfSome x (λ lines. (rest : List (List ℕ)) × (lines ≡ piece.items ∷ rest) × (new.lines ≡ Some rest))) (sym is) tt;
      counted = counted;
      missed = missed;
    },
    refl,
  )
  by (Some []) is h = absurd h
  by (Some (first ∷ rest)) is (front, left) = (
    first,
    record {
      next = subst (λ x. IfSome x (λ lines. (rest : List (List ℕ)) × (lines ≡ first ∷ rest) × (new.lines ≡ Some rest))) (sym is) (rest, refl, left);
      counted = counted;
      missed = missed;
    },
    heard_front first ∙ ap heard (sym front),
  )

pub input_ends : (old new : Incoming) → GivesNext most_line_bytes old.lines new.lines None → new.given ≡ given_after old.given (Ok None)
    → new.missed ≡ missed_after old.missed old.given (Ok None) → EndsInput old new ends_with.Done
input_ends old new gives counted missed = by old.lines refl gives where
  by : (known : Option (List (List ℕ))) → old.lines ≡ known → GivesNext most_line_bytes known new.lines None → EndsInput old new ends_with.Done
  by None is h = is_at_end (subst (λ x. IfSome x (λ lines. (lines ≡ []) × (new.lines ≡ Some []))) (sym is) tt) counted missed
  by (Some []) is h = is_at_end (subst (λ x. IfSome x (λ lines. (lines ≡ []) × (new.lines ≡ Some []))) (sym is) (refl, h)) counted missed
  by (Some (first ∷ rest)) is h = absurd h

pub input_stops : (old new : Incoming) (stop : ReadStop) → new.given ≡ given_after old.given (Err stop)
    → new.missed ≡ missed_after old.missed old.given (Err stop) → EndsInput old new (read_status stop)
input_stops old new read_stops.Failed counted missed = is_unread_line counted missed
input_stops old new read_stops.Memory counted missed = no_room_for_line counted missed

-- ---- the lines so far

pub record LiveSoFar (write : Reply → List ℕ) (def : Definition) (state : State) (old now : World) : Type 0 where
  pub pieces : List (List ℕ)
  pub reply : Reply
  pub texts : List ℕ
  pub runs : Runs Editor (IsRepliedLiveBy def write) (point start (answered []) old) pieces texts (point state reply now)
  pub put : now.written ≡ append_known old.written texts

-- the world with another input
abbrev pub given_input : World → Incoming → World
given_input w input = record { files = w.files; input = input; ticks = w.ticks; written = w.written; count = w.count }

module _ (write : Reply → List ℕ) (def : Definition) where
  pub listens : (state : State) (old : World) → state ≡ start → LiveSoFar write def state old old
  listens state old is = record {
    pieces = [];
    reply = answered [];
    texts = [];
    runs = subst (λ s. Runs Editor (IsRepliedLiveBy def write) (point start (answered []) old) [] [] (point s (answered []) old)) (sym is) rests;
    put = sym (append_known-nil old.written);
  }

  module _ (s : State) (old mid : World) (h : LiveSoFar write def s old mid) (input : Incoming) where
    module _ (line piece : List ℕ) (gives : Gives mid.input input line) (same : heard line ≡ heard piece) where
      pub turned : (t : State) (new : World) → PutsLines write def (heard piece) s t h.reply (given_input mid input) new → LiveSoFar write def t old new
      turned t new p = record {
        pieces = h.pieces ++ line ∷ [];
        reply = p.reply;
        texts = h.texts ++ p.text;
        runs = runs_more Editor (IsRepliedLiveBy def write) h.runs
            (input, gives, subst (λ l. Runs Editor (IsRepliedBy def write) (point s h.reply (given_input mid input)) l p.text (point t p.reply new)) (sym same) p.runs);
        put = p.put ∙ ap (λ w. append_known w p.text) h.put ∙ append_known-append old.written h.texts p.text;
      }

      -- the run ends at the line
      pub turn_ends : (new : World) (status : Status) → old.count ≤ mid.count
          → FinishesIn write def (heard piece) s h.reply (given_input mid input) new status → TalksBy write def old new status
      turn_ends new status less f =
          (h.pieces ++ line ∷ [], is_played h.pieces (line ∷ []) h.texts (point s h.reply mid) refl h.runs (ends status (f.finishes []))) where
            is_line : heard line ≡ f.line ∷ []
            is_line = same ∙ f.is_one

            ends : (status : Status) → Finishes Editor (IsRepliedBy def write) (BreaksOff def) JustEnds (given_input mid input) [] (point s h.reply (given_input mid input)) (f.line ∷ []) new status
                → Finishes Editor (IsRepliedLiveBy def write) (BreaksLive def) EndsLive old h.texts (point s h.reply mid) (line ∷ []) new status
            ends status (puts_front t text plays puts) =
                puts_front t text
                (input, gives, subst (λ l. Runs Editor (IsRepliedBy def write) (point s h.reply (given_input mid input)) l text t) (sym is_line) (runs_one Editor (IsRepliedBy def write) plays))
                (front_earlier old (given_input mid input) h.texts h.put less Editor t text new status puts)
            ends status (breaks t within wrote) =
                breaks t (input, f.line, gives, is_line, within)
                (wrote_earlier old (given_input mid input) h.texts h.put less Editor t [] new wrote)

    -- the run ends where the input gives no line
    pub input_closes : (status : Status) → EndsInput mid.input input status → TalksBy write def old (given_input mid input) status
    input_closes status ends = (
      h.pieces,
      is_played h.pieces [] h.texts (point s h.reply mid) (sym (append-nil h.pieces)) h.runs
          (closes (point s h.reply (given_input mid input)) [] status (refl, ends, refl)
          (put_whole (record { files = refl; input = refl; ticks = refl; took = h.put ∙ sym (append_known-nil (append_known old.written h.texts)) }))),
    )
