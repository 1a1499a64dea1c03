-- The five lines that are told of a session, and how a run ends that tells them.
use Rattle.std.proofs.Common.{◌≡◌, ℕ, ◌≤◌, List, [], ◌∷◌, ◌++◌, Option, Some, None, sym, ◌∙◌, ap, subst, append_assoc, append-nil}
use Rattle.std.specs.Prelude.{MatchOption, codes, decimal}
use Rattle.std.specs.Io.KnownBytes.{append_known}
use Rattle.psg_grammar.specs.declared.types.Definition.{Definition}
use Rattle.psg_grammar.specs.Legal.{IsCompletable}
use Rattle.psg_grammar.specs.Marks.{good, Mark}
use Rattle.psg_script.specs.Script.{script_lines as made_lines, with_feeds}
use Rattle.psg_session.specs.declared.editor.Editor.{Editor as Held}
use Rattle.psg_session.specs.declared.editor.OpenedTree.{OpenedTree}
use Rattle.psg_session.specs.declared.measuring.Extent.{Extent}
use Rattle.psg_session.specs.Exchanges.{Outside}
use Rattle.psg_session.specs.Extents.{IsExtentOf}
use Rattle.psg_session.specs.Marked.{mark_text}
use Rattle.psg_session.specs.PlainState.{Opened, State, start}
use Rattle.psg_session.specs.Replies.{Reply, answered, feed_all, marked, reply_text}
use Rattle.psg_session.specs.Sessions.{opened_of, state_of}
use Rattle.psg_session.specs.Views.{mark_of}
use Rattle.psg_world.specs.Sinks.{HasRisen, TakesFront}
use Rattle.psg_world.specs.declared.world.WriteStop.{WriteStop}
use Rattle.psg_world.specs.declared.world.WriteStop.TheVariants as stops
use Rattle.psg_run.specs.declared.status.Status.TheVariants as ends_with
use Rattle.psg_run.specs.Chain.{Point, Runs}
use Rattle.psg_run.specs.Editing.{Editor, IsSilent}
use Rattle.psg_run.specs.Endings.{write_status}
use Rattle.psg_run.specs.Generated.{FiveLines, Generates, TellsFive, five_lines, no_room_to_tell, of_nothing, of_opened, operators_in, tells}
use Rattle.psg_run.specs.Playing.{BreaksAmong, point}
use Rattle.psg_run.specs.Scripts.{script_lines}
use Rattle.psg_run.specs.Worlds.{Incoming, World}
use Rattle.psg_run.proofs.PlainLines.{made_back}
use Rattle.psg_run.proofs.Telling.{end_among, end_front, end_told, end_untold}

-- ---- the lines

-- a word and a number in front of further lines
one_line : (p n rest more : List ℕ) → (p ++ (n ++ 10 ∷ rest)) ++ more ≡ ((p ++ n) ++ 10 ∷ []) ++ (rest ++ more)
one_line p n rest more =
    append_assoc p (n ++ 10 ∷ rest) more
    ∙ ap (λ t. p ++ t) (append_assoc n (10 ∷ rest) more)
    ∙ sym (append_assoc p n (10 ∷ (rest ++ more)))
    ∙ sym (append_assoc (p ++ n) (10 ∷ []) (rest ++ more))

last_line : (p k : List ℕ) → p ++ ((k ++ 10 ∷ []) ++ []) ≡ ((p ++ k) ++ 10 ∷ []) ++ []
last_line p k =
    ap (λ t. p ++ t) (append-nil (k ++ 10 ∷ [])) ∙ sym (append_assoc p k (10 ∷ []))
    ∙ sym (append-nil ((p ++ k) ++ 10 ∷ []))

lines_so : (p q r s u n b w m k : List ℕ)
    → (p ++ (n ++ 10 ∷ (q ++ (b ++ 10 ∷ (r ++ (w ++ 10 ∷ (s ++ (m ++ 10 ∷ u)))))))) ++ ((k ++ 10 ∷ []) ++ [])
    ≡ ((p ++ n) ++ 10 ∷ []) ++ (((q ++ b) ++ 10 ∷ []) ++ (((r ++ w) ++ 10 ∷ []) ++ (((s ++ m) ++ 10 ∷ [])
    ++ (((u ++ k) ++ 10 ∷ []) ++ []))))
lines_so p q r s u n b w m k =
    let more : List ℕ = (k ++ 10 ∷ []) ++ [] in
    one_line p n (q ++ (b ++ 10 ∷ (r ++ (w ++ 10 ∷ (s ++ (m ++ 10 ∷ u)))))) more
    ∙ ap (λ t. ((p ++ n) ++ 10 ∷ []) ++ t)
    (one_line q b (r ++ (w ++ 10 ∷ (s ++ (m ++ 10 ∷ u)))) more
    ∙ ap (λ t. ((q ++ b) ++ 10 ∷ []) ++ t)
    (one_line r w (s ++ (m ++ 10 ∷ u)) more
    ∙ ap (λ t. ((r ++ w) ++ 10 ∷ []) ++ t)
    (one_line s m u more
    ∙ ap (λ t. ((s ++ m) ++ 10 ∷ []) ++ t) (last_line u k))))

pub whole_lines : (nodes bytes weight menu : ℕ) (mark : Mark)
    → (codes "nodes " ++ (decimal nodes ++ 10 ∷ (codes "bytes " ++ (decimal bytes ++ 10 ∷ (codes "weight "
    ++ (decimal weight ++ 10 ∷ (codes "menu " ++ (decimal menu ++ 10 ∷ codes "mark "))))))))
    ++ reply_text (marked mark)
    ≡ feed_all (five_lines nodes bytes weight menu mark)
whole_lines nodes bytes weight menu mark =
    lines_so (codes "nodes ") (codes "bytes ") (codes "weight ") (codes "menu ") (codes "mark ") (decimal nodes)
    (decimal bytes) (decimal weight) (decimal menu) (mark_text mark)

module _ (def : Definition) (menu : ℕ) where
  pub nothing_told : (o : Option OpenedTree) → o ≡ None
      → FiveLines def (IsCompletable def) (opened_of o) menu (five_lines 0 0 0 0 good)
  nothing_told o none =
      subst (λ x. FiveLines def (IsCompletable def) (opened_of x) menu (five_lines 0 0 0 0 good)) (sym none) of_nothing

  pub opened_told : (o : Option Opened) (old : Opened) (e : Extent) → o ≡ Some old
      → IsExtentOf def (IsCompletable def) old.tree e
      → FiveLines def (IsCompletable def) o menu (five_lines e.nodes e.bytes e.weight menu (mark_of e.mark))
  opened_told o old e is extent =
      subst (λ x. FiveLines def (IsCompletable def) x menu (five_lines e.nodes e.bytes e.weight menu (mark_of e.mark)))
      (sym is) (of_opened e.nodes e.bytes e.weight (mark_of e.mark) extent)

-- what is written of what was found
pub summed : (def : Definition) (e : Held) (found : Option Extent) (menu : ℕ) (text : List ℕ)
    → MatchOption found (e.opened ≡ None) (λ x. (old : Opened) × ((state_of e).opened ≡ Some old)
    × IsExtentOf def (IsCompletable def) old.tree x)
    → MatchOption found (text ≡ feed_all (five_lines 0 0 0 0 good))
    (λ x. text ≡ feed_all (five_lines x.nodes x.bytes x.weight menu (mark_of x.mark)))
    → (lines : List (List ℕ)) × FiveLines def (IsCompletable def) (state_of e).opened menu lines × (text ≡ feed_all lines)
summed def e None menu text none is = (five_lines 0 0 0 0 good, nothing_told def menu e.opened none, is)
summed def e (Some x) menu text (old, opened, extent) is =
    (five_lines x.nodes x.bytes x.weight menu (mark_of x.mark), opened_told def menu (state_of e).opened old x opened extent, is)

-- ---- the script

pub lines_of : (n : ℕ) → n ≤ 1000 → (bytes script : List ℕ) → bytes ≡ script → script ≡ with_feeds (made_lines n)
    → script_lines bytes ≡ made_lines n
lines_of n few bytes script same is = ap script_lines (same ∙ is) ∙ made_back n few

-- ---- how the run ends

-- what was put does not change where the lines lead
pub told_runs : (def : Definition) (number : ℕ) (old mid new : World) → new.files ≡ mid.files → new.input ≡ mid.input → new.ticks ≡ mid.ticks
    → (s : State) (last : Reply) → Runs Editor (IsSilent def) (point start (answered []) old) (made_lines number) [] (point s last mid)
    → Runs Editor (IsSilent def) (point start (answered []) old) (made_lines number) [] (point s last new)
told_runs def number old mid new files input ticks s last runs =
    subst (λ (p : Point Editor). Runs Editor (IsSilent def) (point start (answered []) old) (made_lines number) [] p)
    (ap (λ (f : Outside). record { state = record { state = s; reply = last }; files = f; input = mid.input; ticks = mid.ticks }) (sym files)
    ∙ ap (λ (i : Incoming). record { state = record { state = s; reply = last }; files = new.files; input = i; ticks = mid.ticks }) (sym input)
    ∙ ap (λ (n : ℕ). record { state = record { state = s; reply = last }; files = new.files; input = new.input; ticks = n }) (sym ticks)) runs

module _ (def : Definition) (number : ℕ) (old new : World) where
  -- memory ran out among the lines
  pub broke_off : new.written ≡ old.written → BreaksAmong def (made_lines number) old new → Generates def number old new ends_with.Memory
  broke_off same b = end_among def (TellsFive def) (made_lines number) old new same b

  module _ (s : State) (last : Reply) (runs : Runs Editor (IsSilent def) (point start (answered []) old) (made_lines number) [] (point s last new)) where
    -- there was no memory for the five lines
    pub untold : new.written ≡ old.written → Generates def number old new ends_with.Memory
    untold same = end_untold def (TellsFive def) (made_lines number) old new s last runs no_room_to_tell same

    module _ (lines : List (List ℕ)) (five : FiveLines def (IsCompletable def) s.opened (operators_in last) lines) (bytes : List ℕ) (is : bytes ≡ feed_all lines) where
      pub told_whole : new.written ≡ append_known old.written bytes → Generates def number old new ends_with.Done
      told_whole put = end_told def (TellsFive def) (made_lines number) old new s last runs (feed_all lines) (tells lines five) bytes is put

      pub told_front : TakesFront old.written bytes new.written → (stop : WriteStop) → (stop ≡ stops.Failed → HasRisen old.count new.count)
          → Generates def number old new (write_status stop)
      told_front takes stop risen =
          end_front def (TellsFive def) (made_lines number) old new s last runs (feed_all lines) (tells lines five) bytes is takes stop risen
