-- The plain state after an outcome is settled.
use Rattle.std.proofs.Common.{◌≡◌, inl, inr, List, [], ◌∷◌, map, take, Some, Option, sym, ◌∙◌, ap, subst}
use Rattle.std.proofs.lemmas.List.{take-map}
use Rattle.psg_terms.proofs.Lists.{each_take}
use Rattle.std.specs.List.{AllByRecursion}
use Rattle.psg_grammar.specs.declared.types.Definition.{Definition}
use Rattle.psg_grammar.specs.Fragments.{Fragment}
use Rattle.psg_grammar.specs.Paths.{Path}
use Rattle.psg_cache.specs.Annotated.{Annotated, tree_in}
use Rattle.psg_history.specs.Versions.{Versions}
use Rattle.psg_history.specs.declared.history.TheConstants.{VERSIONS}
use Rattle.psg_session.specs.declared.editor.Editor.{Editor}
use Rattle.psg_session.specs.declared.editor.OpenedTree.{OpenedTree}
use Rattle.psg_session.specs.declared.editor.Outcome.TheVariants.{Opens as OpensTree, Changes}
use Rattle.psg_session.specs.declared.replies.Mark.{Mark}
use Rattle.psg_library.specs.declared.fragment.SavedFragment.{SavedFragment as Saved}
use Rattle.psg_session.specs.Outcomes.{after, changed, shelved, IsFit, IsGoneOn}
use Rattle.psg_session.specs.PlainState.{Opened, State, most_versions}
use Rattle.psg_session.specs.Formed.{IsFormedSaved}
use Rattle.psg_session.specs.Sessions.{AreVersions, IsEditor, IsVersion, opened_of, plain, state_of}

abbrev plain_state : Option Opened → Path → List Fragment → List Fragment → List Saved → State
plain_state opened cursor earlier later saved =
    record { opened = opened; cursor = cursor; earlier = earlier; later = later; saved = saved }

pub same_state : (e : Editor) (opened : Option Opened) (cursor : Path) (earlier later : List Fragment) (saved : List Saved)
    → opened_of e.opened ≡ opened → e.cursor ≡ cursor → map tree_in e.history.earlier ≡ earlier
    → map tree_in e.history.later ≡ later → e.saved ≡ saved → state_of e ≡ plain_state opened cursor earlier later saved
same_state e opened cursor earlier later saved a b c d s =
    ap (λ o. plain_state o e.cursor (map tree_in e.history.earlier) (map tree_in e.history.later) e.saved) a
    ∙ ap (λ x. plain_state opened x (map tree_in e.history.earlier) (map tree_in e.history.later) e.saved) b
    ∙ ap (λ x. plain_state opened cursor x (map tree_in e.history.later) e.saved) c
    ∙ ap (λ x. plain_state opened cursor earlier x e.saved) d
    ∙ ap (λ x. plain_state opened cursor earlier later x) s

-- ---- another fragment is opened

module _ (old new : Editor) (held : OpenedTree) (cursor : Path) (mark : Mark) (opened : new.opened ≡ Some held)
    (there : new.cursor ≡ cursor) (earlier : new.history.earlier ≡ []) (later : new.history.later ≡ [])
    (kept : new.saved ≡ old.saved) where
  pub opened_state : state_of new ≡ after old (OpensTree held cursor mark)
  opened_state =
      same_state new (Some (plain held)) cursor [] [] old.saved (ap opened_of opened) there (ap (map tree_in) earlier)
      (ap (map tree_in) later) kept

  pub opened_editor : (def : Definition) → IsEditor def old → IsFit def old.opened (OpensTree held cursor mark)
      → IsEditor def new
  opened_editor def editor fit = record {
    earlier = subst (λ o. AreVersions def o new.history.earlier) (sym opened)
        (fit, subst (AllByRecursion (IsVersion def held.kind)) (sym earlier) tt);
    later = subst (λ o. AreVersions def o new.history.later) (sym opened)
        (fit, subst (AllByRecursion (IsVersion def held.kind)) (sym later) tt);
    saved = subst (AllByRecursion (IsFormedSaved def)) (sym kept) editor.saved;
  }

-- ---- the opened fragment goes on

module _ (old new : Editor) (note : Annotated) (cursor : Path) (mark : Mark) where
  pub gone_state : IsGoneOn old new note cursor → state_of new ≡ after old (Changes note cursor mark)
  gone_state (inl (none, same)) =
      ap state_of same
      ∙ ap (λ (o : Option OpenedTree). changed (state_of old) (opened_of o) (tree_in note) cursor) (sym none)
  gone_state (inr (held, was, opened, there, earlier, later, kept)) =
      same_state new (Some (record { kind = held.kind; tree = tree_in note })) cursor
      (take most_versions (tree_in held.note ∷ map tree_in old.history.earlier)) [] old.saved (ap opened_of opened) there
      (ap (map tree_in) earlier ∙ sym (take-map tree_in VERSIONS (held.note ∷ old.history.earlier)))
      (ap (map tree_in) later) kept
      ∙ ap (λ (o : Option OpenedTree). changed (state_of old) (opened_of o) (tree_in note) cursor) (sym was)

  pub gone_editor : (def : Definition) → IsGoneOn old new note cursor → IsEditor def old
      → IsFit def old.opened (Changes note cursor mark) → IsEditor def new
  gone_editor def (inl (none, same)) editor fit = subst (IsEditor def) (sym same) editor
  gone_editor def (inr (held, was, opened, there, earlier, later, kept)) editor fit =
      let old_versions = subst (λ o. AreVersions def o old.history.earlier) was editor.earlier in
      let is : IsVersion def held.kind note = subst (λ o. IsFit def o (Changes note cursor mark)) was fit in
      record {
        earlier = subst (λ o. AreVersions def o new.history.earlier) (sym opened) (
          is,
          subst (AllByRecursion (IsVersion def held.kind)) (sym earlier)
              (each_take (IsVersion def held.kind) VERSIONS (held.note ∷ old.history.earlier) old_versions),
        );
        later = subst (λ o. AreVersions def o new.history.later) (sym opened)
            (is, subst (AllByRecursion (IsVersion def held.kind)) (sym later) tt);
        saved = subst (AllByRecursion (IsFormedSaved def)) (sym kept) editor.saved;
      }

-- ---- another list of saved fragments

module _ (old new : Editor) (saved : List Saved) (opened : new.opened ≡ old.opened) (there : new.cursor ≡ old.cursor)
    (history : new.history ≡ old.history) (kept : new.saved ≡ saved) where
  pub saved_state : state_of new ≡ shelved (state_of old) saved
  saved_state =
      same_state new (opened_of old.opened) old.cursor (map tree_in old.history.earlier) (map tree_in old.history.later)
      saved (ap opened_of opened) there (ap (λ (h : Versions Annotated). map tree_in h.earlier) history)
      (ap (λ (h : Versions Annotated). map tree_in h.later) history) kept

  pub saved_editor : (def : Definition) → IsEditor def old → AllByRecursion (IsFormedSaved def) saved → IsEditor def new
  saved_editor def editor fit = record {
    earlier = subst (λ (h : Versions Annotated). AreVersions def new.opened h.earlier) (sym history)
        (subst (λ o. AreVersions def o old.history.earlier) (sym opened) editor.earlier);
    later = subst (λ (h : Versions Annotated). AreVersions def new.opened h.later) (sym history)
        (subst (λ o. AreVersions def o old.history.later) (sym opened) editor.later);
    saved = subst (AllByRecursion (IsFormedSaved def)) (sym kept) fit;
  }
