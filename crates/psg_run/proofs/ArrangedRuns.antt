-- The text that is put at the end of a run with a layout reads back.
use Rattle.std.proofs.Common.{◌≡◌, ℕ, List, [], ◌++◌, Option, Some, None, refl, sym, ◌∙◌, ap, subst, append-nil}
use Rattle.std.proofs.lemmas.Option.{none-some}
use Rattle.std.specs.Io.KnownBytes.{append_known}
use Rattle.std.specs.List.{AllByRecursion}
use Rattle.psg_grammar.specs.declared.types.Definition.{Definition}
use Rattle.psg_grammar.specs.Sound.{IsSound}
use Rattle.psg_grammar.specs.WellFormed.{fixed_words}
use Rattle.psg_lexis.specs.Tokens.{IsFixedWord}
use Rattle.psg_layout.specs.declared.layout.Layout.{Layout}
use Rattle.psg_layout.specs.Arranged.{arranged_puts}
use Rattle.psg_layout.proofs.GrowLaws.{arranged_is_spaced}
use Rattle.psg_unparse.proofs.SpacedBack.{spaced_reads_back}
use Rattle.psg_specimen.specs.Refusal.{IsAccepted}
use Rattle.psg_session.specs.Formed.{IsFormedState}
use Rattle.psg_session.specs.PlainState.{Opened, State, start}
use Rattle.psg_session.specs.Replies.{feed, reply_text}
use Rattle.psg_run.specs.declared.status.Status.TheVariants as ends_with
use Rattle.psg_run.specs.Arranging.{Arranges, TellsArranged, arranged_text, no_room_to_arrange, tells_arranged}
use Rattle.psg_run.specs.Chain.{Finishes, Point, Runs, closes, first_point, goes, is_played, puts_front, rests}
use Rattle.psg_run.specs.Editing.{BreaksOff, Editor, IsReplied, IsSilent, new_editor}
use Rattle.psg_run.specs.Outputs.{ArrangedReadsBack, ReadsBackAs, of_nothing, of_opened}
use Rattle.psg_run.specs.Worlds.{World, put_front}
use Rattle.psg_run.proofs.Chains.{append_known-nil}
use Rattle.psg_run.proofs.FormedRuns.{has_kept_forms}
use Rattle.psg_run.proofs.OneRun.{no_front, whole_put}

-- lines that lead on in silence lead on with their replies
pub with_replies : {def : Definition} {s t : Point Editor} {lines : List (List ℕ)} {texts : List ℕ}
    → Runs Editor (IsSilent def) s lines texts t → (replies : List ℕ) × Runs Editor (IsReplied def) s lines replies t
with_replies rests = ([], rests)
with_replies (goes mid text texts played more) =
    let (replies, runs) = with_replies more in (
      reply_text mid.state.reply ++ replies,
      goes mid (reply_text mid.state.reply) replies (played.0, refl) runs,
    )

-- and put nothing
pub puts_none : {def : Definition} {s t : Point Editor} {lines : List (List ℕ)} {texts : List ℕ}
    → Runs Editor (IsSilent def) s lines texts t → texts ≡ []
puts_none rests = refl
puts_none (goes mid text texts played more) =
    let none : text ≡ [] = played.1 in let rest : texts ≡ [] = puts_none more in cc

-- where all lines led, with the replies that they would have, and what was put then
pub record HasArranged (def : Definition) (by : Layout) (columns : ℕ) (lines : List (List ℕ)) (old new : World) : Type 0 where
  pub last : Point Editor
  pub replies : List ℕ
  pub runs : Runs Editor (IsReplied def) (first_point Editor new_editor old) lines replies last
  pub wrote : new.written ≡ append_known old.written (feed (arranged_text def by columns last.state.state.opened))
  pub files : new.files ≡ last.files

module _ (def : Definition) (by : Layout) (columns : ℕ) (old new : World) where
  abbrev text_at : Point Editor → List ℕ
  text_at s = feed (arranged_text def by columns s.state.state.opened)

  abbrev HasClosed : List ℕ → Point Editor → List (List ℕ) → Type 0
  HasClosed texts s left =
      (left ≡ []) × (new.written ≡ append_known (append_known old.written texts) (text_at s)) × (new.files ≡ s.files)

  closed : {texts : List ℕ} {s : Point Editor} {left : List (List ℕ)}
      → Finishes Editor (IsSilent def) (BreaksOff def) (TellsArranged def by columns) old texts s left new ends_with.Done
      → HasClosed texts s left
  closed (closes t text ended tells_arranged puts) = (refl, (whole_put puts).took, (whole_put puts).files)
  closed (closes t text ended no_room_to_arrange (put_front front)) = absurd (no_front front)
  closed (puts_front t text played front) = absurd (no_front front)

  pub has_arranged : (lines : List (List ℕ)) → Arranges def by columns lines old new ends_with.Done
      → HasArranged def by columns lines old new
  has_arranged lines (is_played first left texts last split runs finishes) =
      let ends = closed finishes in
      let all : first ≡ lines = sym (split ∙ ap (λ l. first ++ l) ends.0 ∙ append-nil first) in
      let none : texts ≡ [] = puts_none runs in
      let (replies, replied) = with_replies runs in
      record {
        last = last;
        replies = replies;
        runs = subst (λ l. Runs Editor (IsReplied def) (first_point Editor new_editor old) l replies last) all replied;
        wrote = ends.1 ∙ ap (λ t. append_known (append_known old.written t) (text_at last)) none
            ∙ ap (λ w. append_known w (text_at last)) (append_known-nil old.written);
        files = ends.2;
      }

-- a new editor has no trees
start_formed : (def : Definition) → IsFormedState def start
start_formed def = record {
  opened = λ old e. absurd (none-some old e);
  cursor = λ old e. absurd (none-some old e);
  earlier = λ old e. tt;
  later = λ old e. tt;
  saved = tt;
  printable = record { opened = λ old e. absurd (none-some old e); earlier = tt; later = tt; saved = tt };
}

module _ (def : Definition) (sound : IsSound def) (words : AllByRecursion IsFixedWord (fixed_words def)) (accepted : IsAccepted def) where
  -- the arranged text of a state whose trees are printable and of their kinds reads back
  text_back : (by : Layout) (columns : ℕ) (s : State) → IsFormedState def s
      → ReadsBackAs def s.opened (arranged_text def by columns s.opened)
  text_back by columns s formed = of s.opened refl where
    of : (o : Option Opened) → s.opened ≡ o → ReadsBackAs def o (arranged_text def by columns o)
    of None is = of_nothing
    of (Some old) is =
        of_opened old (arranged_puts def by columns old.tree)
        (spaced_reads_back def sound words accepted.of_class old.tree (formed.printable.opened old is) old.kind
        (formed.opened old is) (arranged_puts def by columns old.tree) (arranged_is_spaced def by columns old.tree))

  pub has_arranged_back : ArrangedReadsBack def
  has_arranged_back by columns lines old new run =
      let h = has_arranged def by columns old new lines run in (
        h.last,
        h.replies,
        arranged_text def by columns h.last.state.state.opened,
        h.runs,
        text_back by columns h.last.state.state
            (has_kept_forms def sound accepted (first_point Editor new_editor old) h.last lines h.replies h.runs (start_formed def)),
        h.wrote,
      )
