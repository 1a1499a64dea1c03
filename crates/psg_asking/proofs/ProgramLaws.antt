-- The editor in which a program is opened, and nothing else.
use Rattle.std.proofs.Common.{◌≡◌, ℕ, List, [], Some, Option, Result, Ok, Err, IfErr, sym, ap, ◌∙◌, subst, refl}
use Rattle.std.specs.Prelude.{map}
use Rattle.std.specs.declared.alloc.AllocError.{AllocError}
use Rattle.std.specs.List.{AllByRecursion}
use Rattle.psg_cache.specs.Annotated.{Annotated, tree_in}
use Rattle.psg_grammar.specs.declared.types.Definition.{Definition}
use Rattle.psg_grammar.specs.declared.types.Kind.{Kind}
use Rattle.psg_grammar.specs.Fragments.{Fragment}
use Rattle.psg_grammar.specs.Paths.{Path, node_at}
use Rattle.psg_grammar.specs.Printable.{IsPrintable}
use Rattle.psg_grammar.specs.WellFormed.{WellFormed}
use Rattle.psg_history.specs.Versions.{Versions}
use Rattle.psg_library.specs.declared.fragment.SavedFragment.{SavedFragment as Saved}
use Rattle.psg_session.specs.declared.editor.Editor.{Editor}
use Rattle.psg_session.specs.declared.editor.OpenedTree.{OpenedTree}
use Rattle.psg_session.specs.declared.editor.Outcome.{Outcome}
use Rattle.psg_session.specs.declared.replies.Reply.{Reply}
use Rattle.psg_session.specs.declared.session.Parts.{Parts}
use Rattle.psg_session.specs.Applied.{HasApplied, HasStopped}
use Rattle.psg_session.specs.Exchanges.{Outside}
use Rattle.psg_session.specs.Outcomes.{after, reply_in}
use Rattle.psg_session.specs.Reached.{HasReached}
use Rattle.psg_session.specs.Views.{reply_of}
use Rattle.psg_session.proofs.Applying.{applied_in}
use Rattle.psg_specimen.specs.Refusal.{IsAccepted}
use Rattle.psg_grammar.specs.Sound.{IsSound}
use Rattle.psg_script.specs.declared.command.Command.{Command}
use Rattle.psg_world.specs.Files.{Entry, Held}
use Rattle.psg_session.specs.PlainState.{Opened, State}
use Rattle.psg_session.specs.Formed.{HasText, IsFormedSaved, IsFormedState}
use Rattle.psg_session.specs.Sessions.{AreVersions, IsSession, IsVersion, plain, state_of}
use Rattle.psg_asking.specs.Programs.{IsProgram, opened_with}

abbrev pub held_in : Kind → Annotated → OpenedTree
held_in kind note = record { kind = kind; note = note }

pub same_state : (kind : Kind) (note same : Annotated) (cursor : Path) (h : Versions Annotated) (saved : List Saved)
    → same ≡ note → cursor ≡ [] → h.earlier ≡ [] → h.later ≡ [] → saved ≡ []
    → state_of (record { opened = Some (held_in kind same); cursor = cursor; history = h; saved = saved })
    ≡ opened_with kind (tree_in note)
same_state kind note same cursor h saved n c e l s =
    subst (λ (m : Annotated). state_of (record { opened = Some (held_in kind m); cursor = cursor; history = h; saved = saved })
    ≡ opened_with kind (tree_in note)) (sym n) (by_parts cursor h.earlier h.later saved c e l s)
  where
    by_parts : (c : Path) (e l : List Annotated) (s : List Saved) → c ≡ [] → e ≡ [] → l ≡ [] → s ≡ []
        → record { opened = Some (plain (held_in kind note)); cursor = c; earlier = map tree_in e; later = map tree_in l; saved = s }
        ≡ opened_with kind (tree_in note)
    by_parts c e l s p q r t =
        ap (λ (x : Path). record { opened = Some (plain (held_in kind note)); cursor = x; earlier = map tree_in e; later = map tree_in l; saved = s }) p
        ∙ ap (λ (x : List Annotated). record { opened = Some (plain (held_in kind note)); cursor = []; earlier = map tree_in x; later = map tree_in l; saved = s }) q
        ∙ ap (λ (x : List Annotated). record { opened = Some (plain (held_in kind note)); cursor = []; earlier = []; later = map tree_in x; saved = s }) r
        ∙ ap (λ (x : List Saved). record { opened = Some (plain (held_in kind note)); cursor = []; earlier = []; later = []; saved = x }) t

opened_is : (kind : Kind) (tree : Fragment) (old : Opened) → Some (record { kind = kind; tree = tree }) ≡ Some old
    → record { kind = kind; tree = tree } ≡ old
opened_is kind tree old e = cc

module _ (def : Definition) (kind : Kind) (note : Annotated) (is : IsProgram def kind note) where
  by_opened : (P : Opened → Type 0) → P (record { kind = kind; tree = tree_in note }) → (old : Opened)
      → Some (record { kind = kind; tree = tree_in note }) ≡ Some old → P old
  by_opened P p old e = subst P (opened_is kind (tree_in note) old e) p

  formed : IsFormedState def (opened_with kind (tree_in note))
  formed = record {
    opened = by_opened (λ old. WellFormed def old.tree old.kind) is.formed;
    cursor = by_opened (λ old. (node : Fragment) × (node_at old.tree [] ≡ Some node)) (tree_in note, refl);
    earlier = λ old e. tt;
    later = λ old e. tt;
    saved = tt;
    printable = record {
      opened = by_opened (λ old. IsPrintable old.tree) is.printable;
      earlier = tt;
      later = tt;
      saved = tt;
    };
  }

  pub session_of : (e : Editor) → e.opened ≡ Some (held_in kind note) → e.history.earlier ≡ [] → e.history.later ≡ []
      → e.saved ≡ [] → state_of e ≡ opened_with kind (tree_in note) → IsSession (record { language = def; editor = e })
  session_of e opened earlier later saved state = record {
    editor = record {
      earlier = versions e.history.earlier earlier;
      later = versions e.history.later later;
      saved = subst (AllByRecursion (IsFormedSaved def)) (sym saved) tt;
    };
    formed = subst (IsFormedState def) (sym state) formed;
  } where
    versions : (vs : List Annotated) → vs ≡ [] → AreVersions def e.opened vs
    versions vs none =
        subst (λ (o : Option OpenedTree). AreVersions def o vs) (sym opened)
        (record { formed = is.formed; noted = is.noted }, subst (AllByRecursion (IsVersion def kind)) (sym none) tt)

-- what was done is what the plain editor does
pub done_is : (def : Definition) (e new : Editor) (s : State) → state_of e ≡ s
    → IsSession (record { language = def; editor = e }) → IsSound def → IsAccepted def → (command : Command)
    → HasText command → (before after_it : Outside) (from to : ℕ) (outcome : Outcome)
    → HasReached def e command before after_it from to outcome → state_of new ≡ after e outcome → (reply : Reply)
    → reply ≡ reply_in outcome → HasApplied def s (state_of new) command before after_it from to (reply_of reply)
done_is def e new s st session sound accepted command text before after_it from to outcome is state reply told =
    let p : Parts = record { language = def; editor = e } in
    subst (λ (x : State). HasApplied def x (state_of new) command before after_it from to (reply_of reply)) st
    (applied_in p p refl session sound accepted command text before after_it from to outcome is new state reply told)

-- the files are as before where memory ran out
pub files_stay : {X : Type 0} (def : Definition) (s : State) (command : Command) (h i : Option Held) (e f : List Entry)
    (from to : ℕ)
    → HasStopped def s command (record { held = h; entries = e }) (record { held = i; entries = f }) from to
    → (r : Result X AllocError) → IfErr r (λ _. (i ≡ h) × (f ≡ e))
files_stay def s command h i e f from to is (Ok x) = tt
files_stay def s command h i e f from to is (Err error) =
    (ap (λ (o : Outside). o.held) is.files, ap (λ (o : Outside). o.entries) is.files)

-- the files are as before where what is known of them is the same
pub same_files : (h i : Option Held) (e f : List Entry)
    → ◌≡◌ {A = Outside} (record { held = i; entries = f }) (record { held = h; entries = e }) → (i ≡ h) × (f ≡ e)
same_files h i e f is = (ap (λ (o : Outside). o.held) is, ap (λ (o : Outside). o.entries) is)
