-- Chains of lines, and how runs end among them.
use Rattle.std.proofs.Common.{◌≡◌, ℕ, ◌<◌, ◌≤◌, cond, Bool, true, false, List, [], ◌∷◌, ◌++◌, length, take, drop, Option, Some, None, refl, sym, ◌∙◌, ap, subst, arith, append_assoc, append-nil}
use Rattle.std.specs.Io.KnownBytes.{append_known}
use Rattle.std.specs.List.{slice_split}
use Rattle.std.specs.Str.Lines.{strip_carriage_return}
use Rattle.std.proofs.lemmas.List.{length-take-le, take-append-drop}
use Rattle.psg_world.specs.Sinks.{TakesFront, HasRisen}
use Rattle.psg_run.specs.declared.status.Status.{Status}
use Rattle.psg_run.specs.Chain.{Finishes, Point, Runs, breaks, closes, goes, puts_front, rests, world_at}
use Rattle.psg_run.specs.Scripts.{is_empty, is_feed, kept_lines}
use Rattle.psg_run.specs.Worlds.{IsProperFrontOf, Puts, PutsFront, World, Wrote, not_put, put_failed, put_front, put_in_part, put_whole}

pub append_known-nil : (known : Option (List ℕ)) → append_known known [] ≡ known
append_known-nil None = refl
append_known-nil (Some xs) = ap Some (append-nil xs)

pub append_known-append : (known : Option (List ℕ)) (xs ys : List ℕ) → append_known (append_known known xs) ys ≡ append_known known (xs ++ ys)
append_known-append None xs ys = refl
append_known-append (Some zs) xs ys = ap Some (append_assoc zs xs ys)

-- a count that rose later rose
pub risen_from : (before middle after : ℕ) → before ≤ middle → HasRisen middle after → HasRisen before after
risen_from before middle after less risen = omega (arith, less, risen)

-- ---- what is put

-- a front that is shorter is a proper one
proper_front : (bytes : List ℕ) (count : ℕ) → count < length bytes → IsProperFrontOf (take count bytes) bytes
proper_front bytes count less = split (drop count bytes) refl where
  split : (rest : List ℕ) → drop count bytes ≡ rest → IsProperFrontOf (take count bytes) bytes
  split [] e =
      let whole : bytes ≡ take count bytes = sym (take-append-drop count bytes) ∙ ap (λ r. take count bytes ++ r) e ∙ append-nil (take count bytes) in
      let all = ap length whole in
      let short = length-take-le count bytes (omega (arith, less)) in
      absurd (omega (arith, less, all, short))
  split (next ∷ rest) e = (next, rest, sym (take-append-drop count bytes) ∙ ap (λ r. take count bytes ++ r) e)

-- a put of all the bytes that failed took a proper front
pub took_front : (bytes : List ℕ) (old new : World) → (new.files ≡ old.files) → (new.input ≡ old.input) → (new.ticks ≡ old.ticks)
    → TakesFront old.written bytes new.written → (front : List ℕ) × IsProperFrontOf front bytes × Wrote front old new
took_front bytes old new files input ticks (count, less, took) = (
  take count bytes,
  proper_front bytes count less,
  record { files = files; input = input; ticks = ticks; took = took },
)

-- ---- a run that began earlier

module _ (old mid : World) (texts : List ℕ) (put : mid.written ≡ append_known old.written texts) (less : old.count ≤ mid.count)
    (S : Type 0) (t : Point S) where
  pub wrote_earlier : (bytes : List ℕ) (new : World) → Wrote bytes (world_at S mid [] t) new → Wrote bytes (world_at S old texts t) new
  wrote_earlier bytes new h = record {
    files = h.files;
    input = h.input;
    ticks = h.ticks;
    took = h.took ∙ ap (λ w. append_known w bytes) (append_known-nil mid.written ∙ put);
  }

  pub front_earlier : (bytes : List ℕ) (new : World) (status : Status) → PutsFront bytes (world_at S mid [] t) new status
      → PutsFront bytes (world_at S old texts t) new status
  front_earlier bytes new status (put_failed front is h risen) =
      put_failed front is (wrote_earlier front new h) (risen_from old.count mid.count new.count less risen)
  front_earlier bytes new status (put_in_part front is h) = put_in_part front is (wrote_earlier front new h)
  front_earlier bytes new status (not_put h) = not_put (wrote_earlier [] new h)

  puts_earlier : (bytes : List ℕ) (whole status : Status) (new : World) → Puts bytes whole (world_at S mid [] t) new status
      → Puts bytes whole (world_at S old texts t) new status
  puts_earlier bytes whole status new (put_whole h) = put_whole (wrote_earlier bytes new h)
  puts_earlier bytes whole status new (put_front h) = put_front (front_earlier bytes new status h)

module _ (S : Type 0) (Plays : Point S → List ℕ → List ℕ → Point S → Type 0) where
  pub runs_append : {s mid t : Point S} {lines more : List (List ℕ)} {texts others : List ℕ}
      → Runs S Plays s lines texts mid → Runs S Plays mid more others t → Runs S Plays s (lines ++ more) (texts ++ others) t
  runs_append rests b = b
  runs_append {s = s} {t = t} {more = more} {others = others} (goes {line = line} {rest = rest} mid text texts plays a) b =
      subst (λ x. Runs S Plays s (line ∷ (rest ++ more)) x t) (sym (append_assoc text texts others)) (goes mid text (texts ++ others) plays (runs_append a b))

  pub runs_one : {s t : Point S} {line text : List ℕ} → Plays s line text t → Runs S Plays s (line ∷ []) text t
  runs_one {s = s} {t = t} {line = line} {text = text} plays =
      subst (λ x. Runs S Plays s (line ∷ []) x t) (append-nil text) (goes t text [] plays rests)

  -- one more line
  pub runs_more : {s mid t : Point S} {lines : List (List ℕ)} {line texts text : List ℕ}
      → Runs S Plays s lines texts mid → Plays mid line text t → Runs S Plays s (lines ++ line ∷ []) (texts ++ text) t
  runs_more a plays = runs_append a (runs_one plays)

  module _ (Breaks : Point S → List ℕ → Point S → Type 0) (Closes : Point S → List ℕ → Status → Point S → Type 0) where
    pub finishes_earlier : (old mid new : World) (texts : List ℕ) (s : Point S) (left : List (List ℕ)) (status : Status)
        → mid.written ≡ append_known old.written texts → old.count ≤ mid.count
        → Finishes S Plays Breaks Closes mid [] s left new status → Finishes S Plays Breaks Closes old texts s left new status
    finishes_earlier old mid new texts s left status put less (closes t text done says puts) =
        closes t text done says (puts_earlier old mid texts put less S t text done status new puts)
    finishes_earlier old mid new texts s left status put less (puts_front t text plays puts) =
        puts_front t text plays (front_earlier old mid texts put less S t text new status puts)
    finishes_earlier old mid new texts s left status put less (breaks t within h) =
        breaks t within (wrote_earlier old mid texts put less S t [] new h)

-- ---- the lines of a script, one after the other

not_empty : (l : List ℕ) → (l ≡ [] → ⊥) → is_empty l ≡ false
not_empty [] never = absurd (never refl)
not_empty (x ∷ xs) never = refl

-- a piece that is empty, and one that is not
pub kept_none : (piece : List ℕ) → strip_carriage_return piece ≡ [] → kept_lines (piece ∷ []) ≡ []
kept_none piece none = ap (λ l. cond (is_empty l) [] (l ∷ [])) none

pub kept_one : (piece line : List ℕ) → line ≡ strip_carriage_return piece → (strip_carriage_return piece ≡ [] → ⊥) → kept_lines (piece ∷ []) ≡ line ∷ []
kept_one piece line is some =
    ap (λ b. cond b [] (strip_carriage_return piece ∷ [])) (not_empty (strip_carriage_return piece) some) ∙ ap (λ l. l ∷ []) (sym is)

-- the line of the first piece, if it has one, and those of the others
pub kept_first : (piece : List ℕ) (pieces : List (List ℕ)) → kept_lines (piece ∷ pieces) ≡ kept_lines (piece ∷ []) ++ kept_lines pieces
kept_first piece pieces = by (is_empty (strip_carriage_return piece)) where
  by : (empty : Bool) → cond empty (kept_lines pieces) (strip_carriage_return piece ∷ kept_lines pieces)
      ≡ cond empty [] (strip_carriage_return piece ∷ []) ++ kept_lines pieces
  by true = refl
  by false = refl

-- what is left of all lines after those that were played
pub left_after : (all done : List (List ℕ)) (rest after line : List ℕ)
    → kept_lines (slice_split is_feed rest) ≡ kept_lines (line ∷ slice_split is_feed after)
    → all ≡ done ++ kept_lines (slice_split is_feed rest)
    → all ≡ (done ++ kept_lines (line ∷ [])) ++ kept_lines (slice_split is_feed after)
left_after all done rest after line cut left =
    left ∙ ap (λ l. done ++ l) (cut ∙ kept_first line (slice_split is_feed after))
    ∙ sym (append_assoc done (kept_lines (line ∷ [])) (kept_lines (slice_split is_feed after)))

-- what is left begins with this line
pub left_with : (all done : List (List ℕ)) (rest after piece line : List ℕ)
    → kept_lines (slice_split is_feed rest) ≡ kept_lines (piece ∷ slice_split is_feed after)
    → all ≡ done ++ kept_lines (slice_split is_feed rest) → kept_lines (piece ∷ []) ≡ line ∷ []
    → all ≡ done ++ line ∷ kept_lines (slice_split is_feed after)
left_with all done rest after piece line cut left is =
    left ∙ ap (λ l. done ++ l) (cut ∙ kept_first piece (slice_split is_feed after) ∙ ap (λ l. l ++ kept_lines (slice_split is_feed after)) is)

-- nothing is left
pub left_none : (all done : List (List ℕ)) (rest : List ℕ) → rest ≡ [] → all ≡ done ++ kept_lines (slice_split is_feed rest) → all ≡ done ++ []
left_none all done rest none left = left ∙ ap (λ r. done ++ kept_lines (slice_split is_feed r)) none
