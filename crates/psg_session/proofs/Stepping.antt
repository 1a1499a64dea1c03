-- Steps to earlier and later versions.
use Rattle.std.proofs.Common.{◌≡◌, inl, inr, List, [], ◌∷◌, map, slice_get, Some, None, Option, refl, sym, ◌∙◌, ap, subst}
use Rattle.std.specs.List.{AllByRecursion}
use Rattle.std.proofs.lemmas.Option.{none-some}
use Rattle.psg_grammar.specs.declared.types.Definition.{Definition}
use Rattle.psg_grammar.specs.Marks.{IsMark}
use Rattle.psg_grammar.specs.Paths.{Path}
use Rattle.psg_cache.specs.Annotated.{Annotated, tree_in}
use Rattle.psg_cache.specs.Blames.{culprits_in}
use Rattle.psg_cache.specs.Notes.{mark_by}
use Rattle.psg_script.specs.declared.command.Command.TheVariants.{Undo, Redo}
use Rattle.psg_session.specs.declared.editor.Editor.{Editor}
use Rattle.psg_session.specs.declared.editor.OpenedTree.{OpenedTree}
use Rattle.psg_session.specs.declared.editor.Outcome.TheVariants.{Stays, Undoes, Redoes}
use Rattle.psg_session.specs.declared.refusal.Refusal.TheVariants.{NothingEarlier, NothingLater, NothingOpened}
use Rattle.psg_session.specs.declared.replies.Mark.{Mark}
use Rattle.psg_session.specs.declared.replies.Reply.TheVariants.{Refused}
use Rattle.psg_session.specs.Good.{IsGoodIn}
use Rattle.psg_session.specs.Outcomes.{after, earlier_in, later_in, HasStepped, IsOutcome, redone, undone}
use Rattle.psg_session.specs.PlainState.{Opened, State, not_asked, with_version}
use Rattle.psg_session.specs.PlainStep.{redoes, refuses, Steps, undoes}
use Rattle.psg_session.specs.Replies.{marked}
use Rattle.psg_session.specs.Formed.{IsFormedSaved}
use Rattle.psg_session.specs.Sessions.{AreVersions, IsEditor, IsVersion, opened_of, plain, state_of}
use Rattle.psg_session.specs.Views.{mark_of}
use Rattle.psg_session.proofs.Settling.{same_state}
use Rattle.psg_session.proofs.StepLaws.{is_opened_by, not_opened, opened_plain}
use Rattle.psg_session.proofs.Verdicts.{mark_is}

first_of : {X : Type 0} (xs : List X) (x : X) → slice_get xs 0 ≡ Some x → (rest : List X) × (xs ≡ x ∷ rest)
first_of [] x e = absurd (none-some x e)
first_of (y ∷ ys) x e = let same : y ≡ x = cc in (ys, ap (λ z. z ∷ ys) same)

-- ---- the state and the versions after a step

undone_nothing : (s : State) (o : Option Opened) (cursor : Path) → undone s o [] cursor ≡ s
undone_nothing s None cursor = refl
undone_nothing s (Some old) cursor = refl

redone_nothing : (s : State) (o : Option Opened) (cursor : Path) → redone s o [] cursor ≡ s
redone_nothing s None cursor = refl
redone_nothing s (Some old) cursor = refl

module _ (old new : Editor) (cursor : Path) (mark : Mark) where
  pub back_state : HasStepped earlier_in later_in old new cursor → state_of new ≡ after old (Undoes cursor mark)
  back_state (inl (inl none, same)) =
      ap state_of same
      ∙ ap (λ (o : Option OpenedTree). undone (state_of old) (opened_of o) (map tree_in old.history.earlier) cursor)
      (sym none)
  back_state (inl (inr nothing, same)) =
      ap state_of same
      ∙ sym (undone_nothing (state_of old) (opened_of old.opened) cursor)
      ∙ ap (λ ns. undone (state_of old) (opened_of old.opened) (map tree_in ns) cursor) (sym nothing)
  back_state (inr (held, note, was, from, to, opened, there, kept)) =
      same_state new (Some (record { kind = held.kind; tree = tree_in note })) cursor (map tree_in new.history.earlier)
      (tree_in held.note ∷ map tree_in old.history.later) old.saved (ap opened_of opened) there refl (ap (map tree_in) to)
      kept
      ∙ ap (λ ns. undone (state_of old) (Some (plain held)) (map tree_in ns) cursor) (sym from)
      ∙ ap (λ (o : Option OpenedTree). undone (state_of old) (opened_of o) (map tree_in old.history.earlier) cursor)
      (sym was)

  pub forward_state : HasStepped later_in earlier_in old new cursor → state_of new ≡ after old (Redoes cursor mark)
  forward_state (inl (inl none, same)) =
      ap state_of same
      ∙ ap (λ (o : Option OpenedTree). redone (state_of old) (opened_of o) (map tree_in old.history.later) cursor)
      (sym none)
  forward_state (inl (inr nothing, same)) =
      ap state_of same
      ∙ sym (redone_nothing (state_of old) (opened_of old.opened) cursor)
      ∙ ap (λ ns. redone (state_of old) (opened_of old.opened) (map tree_in ns) cursor) (sym nothing)
  forward_state (inr (held, note, was, from, to, opened, there, kept)) =
      same_state new (Some (record { kind = held.kind; tree = tree_in note })) cursor
      (tree_in held.note ∷ map tree_in old.history.earlier) (map tree_in new.history.later) old.saved
      (ap opened_of opened) there (ap (map tree_in) to) refl kept
      ∙ ap (λ ns. redone (state_of old) (Some (plain held)) (map tree_in ns) cursor) (sym from)
      ∙ ap (λ (o : Option OpenedTree). redone (state_of old) (opened_of o) (map tree_in old.history.later) cursor)
      (sym was)

-- the versions on the two sides, from those before
module _ (def : Definition) (held : OpenedTree) (note : Annotated) (opened : Option OpenedTree)
    (now : opened ≡ Some (record { kind = held.kind; note = note })) (from from' to to' : List Annotated)
    (left : from ≡ note ∷ from') (put : to' ≡ held.note ∷ to) (froms : AreVersions def (Some held) from)
    (tos : AreVersions def (Some held) to) where
  all_from : AllByRecursion (IsVersion def held.kind) (note ∷ from')
  all_from = subst (AllByRecursion (IsVersion def held.kind)) left froms.1

  from_versions : AreVersions def opened from'
  from_versions = subst (λ o. AreVersions def o from') (sym now) (all_from.0, all_from.1)

  to_versions : AreVersions def opened to'
  to_versions = subst (λ o. AreVersions def o to') (sym now)
      (all_from.0, subst (AllByRecursion (IsVersion def held.kind)) (sym put) (froms.0, tos.1))

module _ (old new : Editor) (cursor : Path) (def : Definition) (editor : IsEditor def old) where
  pub back_editor : HasStepped earlier_in later_in old new cursor → IsEditor def new
  back_editor (inl (why, same)) = subst (IsEditor def) (sym same) editor
  back_editor (inr (held, note, was, from, to, opened, there, kept)) =
      let before = subst (λ o. AreVersions def o old.history.earlier) was editor.earlier in
      let behind = subst (λ o. AreVersions def o old.history.later) was editor.later in
      record {
        earlier = from_versions def held note new.opened opened old.history.earlier new.history.earlier
            old.history.later new.history.later from to before behind;
        later = to_versions def held note new.opened opened old.history.earlier new.history.earlier old.history.later
            new.history.later from to before behind;
        saved = subst (AllByRecursion (IsFormedSaved def)) (sym kept) editor.saved;
      }

  pub forward_editor : HasStepped later_in earlier_in old new cursor → IsEditor def new
  forward_editor (inl (why, same)) = subst (IsEditor def) (sym same) editor
  forward_editor (inr (held, note, was, from, to, opened, there, kept)) =
      let before = subst (λ o. AreVersions def o old.history.earlier) was editor.earlier in
      let behind = subst (λ o. AreVersions def o old.history.later) was editor.later in
      record {
        earlier = to_versions def held note new.opened opened old.history.later new.history.later
            old.history.earlier new.history.earlier from to behind before;
        later = from_versions def held note new.opened opened old.history.later new.history.later
            old.history.earlier new.history.earlier from to behind before;
        saved = subst (AllByRecursion (IsFormedSaved def)) (sym kept) editor.saved;
      }

-- ---- what the commands do

module _ (def : Definition) (e : Editor) where
  pub undo_unopened : e.opened ≡ None → IsOutcome def e not_asked Undo (Stays (Refused NothingOpened))
  undo_unopened none = record { steps = refuses (inl (not_opened def e none, refl)); fit = tt }

  pub redo_unopened : e.opened ≡ None → IsOutcome def e not_asked Redo (Stays (Refused NothingOpened))
  redo_unopened none = record { steps = refuses (inl (not_opened def e none, refl)); fit = tt }

  module _ (held : OpenedTree) (opened : e.opened ≡ Some held) where
    pub undo_nothing : e.history.earlier ≡ [] → IsOutcome def e not_asked Undo (Stays (Refused NothingEarlier))
    undo_nothing nothing = record {
      steps = refuses (inr (is_opened_by def e held opened, inl (ap (map tree_in) nothing, refl)));
      fit = tt;
    }

    pub redo_nothing : e.history.later ≡ [] → IsOutcome def e not_asked Redo (Stays (Refused NothingLater))
    redo_nothing nothing = record {
      steps = refuses (inr (is_opened_by def e held opened, inl (ap (map tree_in) nothing, refl)));
      fit = tt;
    }

    module _ (editor : IsEditor def e) (note : Annotated) (cursor : Path) (top : cursor ≡ []) (mark : Mark)
        (told : mark_of mark ≡ mark_by (culprits_in note)) where
      -- the mark of one of the versions
      marks_in : (ns rest : List Annotated) → AreVersions def e.opened ns → ns ≡ note ∷ rest
          → IsMark def (tree_in note) (mark_of mark)
      marks_in ns rest versions is =
          let all = subst (λ o. AreVersions def o ns) opened versions in
          let noted = (subst (AllByRecursion (IsVersion def held.kind)) is all.1).0.noted in
          subst (IsMark def (tree_in note)) (sym told) (mark_is def (tree_in note) note noted)

      no_nothing : (ns rest : List Annotated) → ns ≡ note ∷ rest → map tree_in ns ≡ [] → ⊥
      no_nothing ns rest is nothing =
          let never : tree_in note ∷ map tree_in rest ≡ [] = sym (ap (map tree_in) is) ∙ nothing in absurd (cc)

      pub undo_moved : slice_get e.history.earlier 0 ≡ Some note → IsOutcome def e not_asked Undo (Undoes cursor mark)
      undo_moved found =
          let (rest, is) = first_of e.history.earlier note found in
          let s = state_of e in
          let step : Steps def (IsGoodIn def) s not_asked Undo
          (with_version s (plain held) (tree_in note) (map tree_in rest) (tree_in held.note ∷ s.later))
          (marked (mark_of mark)) =
          undoes (plain held) (tree_in note) (map tree_in rest) (mark_of mark)
          (is_opened_by def e held opened, (no_nothing e.history.earlier rest is, tt))
          (opened_plain def e held opened) (ap (map tree_in) is)
          (marks_in e.history.earlier rest editor.earlier is) in
          record {
            steps = subst (λ (o : Option OpenedTree). Steps def (IsGoodIn def) (state_of e) not_asked Undo
                (undone (state_of e) (opened_of o) (map tree_in e.history.earlier) cursor) (marked (mark_of mark)))
                (sym opened)
                (subst (λ (ns : List Annotated). Steps def (IsGoodIn def) (state_of e) not_asked Undo
                (undone (state_of e) (Some (plain held)) (map tree_in ns) cursor) (marked (mark_of mark))) (sym is)
                (subst (λ (c : Path). Steps def (IsGoodIn def) (state_of e) not_asked Undo
                (undone (state_of e) (Some (plain held)) (map tree_in (note ∷ rest)) c) (marked (mark_of mark)))
                (sym top) step));
            fit = tt;
          }

      pub redo_moved : slice_get e.history.later 0 ≡ Some note → IsOutcome def e not_asked Redo (Redoes cursor mark)
      redo_moved found =
          let (rest, is) = first_of e.history.later note found in
          let s = state_of e in
          let step : Steps def (IsGoodIn def) s not_asked Redo
          (with_version s (plain held) (tree_in note) (tree_in held.note ∷ s.earlier) (map tree_in rest))
          (marked (mark_of mark)) =
          redoes (plain held) (tree_in note) (map tree_in rest) (mark_of mark)
          (is_opened_by def e held opened, (no_nothing e.history.later rest is, tt))
          (opened_plain def e held opened) (ap (map tree_in) is)
          (marks_in e.history.later rest editor.later is) in
          record {
            steps = subst (λ (o : Option OpenedTree). Steps def (IsGoodIn def) (state_of e) not_asked Redo
                (redone (state_of e) (opened_of o) (map tree_in e.history.later) cursor) (marked (mark_of mark)))
                (sym opened)
                (subst (λ (ns : List Annotated). Steps def (IsGoodIn def) (state_of e) not_asked Redo
                (redone (state_of e) (Some (plain held)) (map tree_in ns) cursor) (marked (mark_of mark))) (sym is)
                (subst (λ (c : Path). Steps def (IsGoodIn def) (state_of e) not_asked Redo
                (redone (state_of e) (Some (plain held)) (map tree_in (note ∷ rest)) c) (marked (mark_of mark)))
                (sym top) step));
            fit = tt;
          }
