-- Saved fragments, and what a save does.
use Rattle.std.proofs.Common.{◌≡◌, inl, inr, Bool, true, false, ℕ, List, [], ◌∷◌, ◌++◌, Some, refl, sym, subst}
use Rattle.std.specs.List.{AllByRecursion}
use Rattle.std.specs.Prelude.{bytes_eq, codes, cond}
use Rattle.std.proofs.lemmas.Option.{none-some}
use Rattle.psg_terms.specs.Names.{Name}
use Rattle.psg_grammar.specs.declared.types.Kind.{Kind}
use Rattle.psg_grammar.specs.declared.types.Definition.{Definition}
use Rattle.psg_grammar.specs.Kinds.{IsOfKind}
use Rattle.psg_grammar.specs.WellFormed.{WellFormed}
use Rattle.psg_script.specs.declared.command.Where.{Where}
use Rattle.psg_script.specs.declared.command.Command.TheVariants.{Save}
use Rattle.psg_session.specs.declared.editor.Editor.{Editor}
use Rattle.psg_session.specs.declared.editor.Outcome.TheVariants.{Stays}
use Rattle.psg_session.specs.declared.finding.Target.{Target}
use Rattle.psg_session.specs.declared.refusal.Refusal.{Refusal}
use Rattle.psg_session.specs.declared.refusal.Refusal.TheVariants.{ShelfFull}
use Rattle.psg_session.specs.declared.replies.Reply.TheVariants.{Refused}
use Rattle.psg_library.specs.declared.fragment.SavedFragment.{SavedFragment as Saved}
use Rattle.psg_session.specs.Good.{IsGoodIn}
use Rattle.psg_session.specs.Outcomes.{IsTarget, HasNoTarget, IsOutcome, shelved}
use Rattle.psg_session.specs.PlainState.{not_asked, with_saved}
use Rattle.psg_session.specs.PlainStep.{refuses, saves, Steps}
use Rattle.psg_session.specs.Replies.{answered}
use Rattle.psg_session.specs.Formed.{IsFormedSaved}
use Rattle.psg_session.specs.Sessions.{IsEditor, plain, state_of}
use Rattle.psg_session.specs.Shelf.{others, saved_at, saved_with, IsFull}
use Rattle.psg_session.proofs.ChangeLaws.{found_formed, kind_is}
use Rattle.psg_session.proofs.StepLaws.{is_opened, is_there, node_is, nowhere, opened_is}

module _ (P : Saved → Type 0) where
  -- what holds of each saved fragment holds of the one of a name
  all_at : (xs : List Saved) (name : Name) (x : Saved) → saved_at xs name ≡ Some x → AllByRecursion P xs → P x
  all_at [] name x e h = absurd (none-some x e)
  all_at (y ∷ ys) name x e h = go (bytes_eq y.name name) e (λ d. all_at ys name x d h.1) where
    go : (b : Bool) → cond b (Some y) (saved_at ys name) ≡ Some x → (saved_at ys name ≡ Some x → P x) → P x
    go true d more = let same : y ≡ x = cc in subst P same h.0
    go false d more = more d

  -- of those of other names
  pub all_others : (name : Name) (xs : List Saved) → AllByRecursion P xs → AllByRecursion P (others name xs)
  all_others name [] h = tt
  all_others name (x ∷ xs) h = go (bytes_eq x.name name) (all_others name xs h.1) where
    go : (b : Bool) → AllByRecursion P (others name xs) → AllByRecursion P (cond b (others name xs) (x ∷ others name xs))
    go true more = more
    go false more = (h.0, more)

  pub all_more : (xs : List Saved) (x : Saved) → AllByRecursion P xs → P x → AllByRecursion P (xs ++ x ∷ [])
  all_more [] x h p = (p, tt)
  all_more (y ∷ ys) x h p = (h.0, all_more ys x h.1 p)

-- the saved fragment of a name is a tree of its kind
pub kept_at : (def : Definition) (xs : List Saved) (name : Name) (x : Saved) → saved_at xs name ≡ Some x
    → AllByRecursion (IsFormedSaved def) xs → WellFormed def x.tree x.kind
kept_at def xs name x e h = all_at (IsFormedSaved def) xs name x e h

module _ (def : Definition) (e : Editor) (place : Where) (name : Name) where
  pub save_nowhere : (r : Refusal) → HasNoTarget e place r → IsOutcome def e not_asked (Save name place) (Stays (Refused r))
  save_nowhere r none = record { steps = refuses (nowhere def e place r none); fit = tt }

  module _ (f : Target) (found : IsTarget e place f) where
    -- there is no room for the name
    pub save_full : IsFull e.saved name → IsOutcome def e not_asked (Save name place) (Stays (Refused ShelfFull))
    save_full full = record {
      steps = refuses (inr (
        is_opened def e place f found,
        inr (is_there def e place f found, inl (full, refl)),
      ));
      fit = tt;
    }

    -- the node is saved
    pub save_done : (IsFull e.saved name → ⊥) → IsEditor def e → (kind : Kind) → IsOfKind def f.node.now kind
        → (new : Saved) → new ≡ record { name = name; kind = kind; tree = f.node.now }
        → (saved : List Saved) → saved ≡ saved_with e.saved new
        → (lines : List (List ℕ)) → lines ≡ (codes "saved " ++ name) ∷ []
        → Steps def (IsGoodIn def) (state_of e) not_asked (Save name place) (shelved (state_of e) saved) (answered lines)
        × AllByRecursion (IsFormedSaved def) saved
    save_done room editor kind is new made saved kept lines told =
        let step : Steps def (IsGoodIn def) (state_of e) not_asked (Save name place)
        (with_saved (state_of e) (record { name = name; kind = kind; tree = f.node.now }))
        (answered ((codes "saved " ++ name) ∷ [])) =
        saves (plain f.held.now) f.node.now kind
        (is_opened def e place f found, (is_there def e place f found, (room, tt)))
        (opened_is def e place f found) (node_is def e place f found) is in
        let (K, formed) = found_formed def e place f editor found in
        let here : IsFormedSaved def new = subst (IsFormedSaved def) (sym made)
        (subst (WellFormed def f.node.now) (kind_is def f.node.now K kind formed is) formed) in (
          subst (λ xs. Steps def (IsGoodIn def) (state_of e) not_asked (Save name place) (shelved (state_of e) xs)
              (answered lines)) (sym kept)
              (subst (λ (y : Saved). Steps def (IsGoodIn def) (state_of e) not_asked (Save name place)
              (shelved (state_of e) (saved_with e.saved y)) (answered lines)) (sym made)
              (subst (λ ls. Steps def (IsGoodIn def) (state_of e) not_asked (Save name place)
              (shelved (state_of e) (saved_with e.saved (record { name = name; kind = kind; tree = f.node.now })))
              (answered ls)) (sym told) step)),
          subst (AllByRecursion (IsFormedSaved def)) (sym kept)
              (all_more (IsFormedSaved def) (others new.name e.saved) new
              (all_others (IsFormedSaved def) new.name e.saved editor.saved) here),
        )
