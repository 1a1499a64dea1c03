-- What the note of a tree says of its values, and what is said where there is none.
use Rattle.std.proofs.Common.{◌≡◌, ◌↔◌, inl, inr, IsTrue, Bool, false, ℕ, List, [], ◌∷◌, Option, Some, None, refl, sym, ◌∙◌, subst}
use Rattle.std.specs.Prelude.{IfOk, MatchOption, Result, Ok, Err, Vec}
use Rattle.std.specs.declared.alloc.Global.{Global}
use Rattle.std.proofs.lemmas.Bool.{false≢true}
use Rattle.std.proofs.lemmas.Option.{same_Some}
use Rattle.psg_terms.specs.Relations.{IsIn, first, later}
use Rattle.psg_terms.specs.Signature.{HasSort, Signature}
use Rattle.psg_terms.specs.Terms.{Term}
use Rattle.psg_terms.proofs.Lists.{in_at}
use Rattle.psg_relation.specs.Choices.{AllHaveSorts}
use Rattle.psg_grammar.specs.declared.types.Definition.{Definition}
use Rattle.psg_grammar.specs.Fragments.{Fragment}
use Rattle.psg_grammar.specs.Kinds.{IsOfKind}
use Rattle.psg_grammar.specs.Open.{IsOpen}
use Rattle.psg_grammar.specs.Paths.{Path, node_at}
use Rattle.psg_grammar.specs.Steps.{Place, steps_of}
use Rattle.psg_eval.specs.declared.frame.Frame.{Frame}
use Rattle.psg_eval.specs.declared.question.FocusFault.{FocusFault}
use Rattle.psg_eval.specs.declared.question.FocusFault.TheVariants as questions
use Rattle.psg_eval.specs.declared.summary.SummaryParts.{SummaryParts}
use Rattle.psg_eval.specs.Frames.{CanClimb, IsSilent, StandFor}
use Rattle.psg_eval.specs.Summaries.{IsSummary, IsSummaryOf}
use Rattle.psg_focus.specs.Shown.{IsShown, rows_of}
use Rattle.psg_cache.specs.declared.note.NoteFault.{NoteFault}
use Rattle.psg_cache.specs.declared.note.NoteFault.TheVariants as faults
use Rattle.psg_cache.specs.Annotated.{Annotated, tree_in, whole_in}
use Rattle.psg_cache.specs.Edits.{IsNoSummaryAt, IsSummaryAt}
use Rattle.psg_cache.specs.NoteFrames.{AreFramesAt}
use Rattle.psg_cache.specs.Notes.{IsFormed, IsNoteFault, IsNoteOf, TellsOpen}
use Rattle.psg_cache.proofs.Evaluations.{one_kind}
use Rattle.psg_cache.proofs.FormedTrees.{node_formed}
use Rattle.psg_cache.proofs.FrameParts.{quiet}
use Rattle.psg_cache.proofs.RealTrees.{real}
use Rattle.psg_wanted.specs.Fronts.{AreValues, IsTooMuch, too_many, values}

-- each of the terms has a sort
each_sorted : (sig : Signature) (terms : List Term) (sort : ℕ) → AllHaveSorts sig (rows_of terms) (sort ∷ [])
    → (t : Term) → IsIn t terms → (s : ℕ) × HasSort sig t s
each_sorted sig (u ∷ ts) sort all t first = (sort, (all (u ∷ []) first).0)
each_sorted sig (u ∷ ts) sort all t (later i) = each_sorted sig ts sort (λ row h. all row (later h)) t i
each_sorted sig [] sort all t i = elim i [ ]

pub shown_sorted : (sig : Signature) (terms : List Term) → ((sort : ℕ) × AllHaveSorts sig (rows_of terms) (sort ∷ []))
    → (t : Term) → IsIn t terms → (s : ℕ) × HasSort sig t s
shown_sorted sig terms (sort, all) = each_sorted sig terms sort all

pub shown_of : (sig : Signature) (answer : Result (Vec Term Global) FocusFault) (terms : Vec Term Global) → answer ≡ Ok terms
    → IfOk answer (λ v. (sort : ℕ) × AllHaveSorts sig (rows_of v.items) (sort ∷ [])) → (sort : ℕ) × AllHaveSorts sig (rows_of terms.items) (sort ∷ [])
shown_of sig answer terms e h = subst (λ (r : Result (Vec Term Global) FocusFault). IfOk r (λ v. (sort : ℕ) × AllHaveSorts sig (rows_of v.items) (sort ∷ []))) e h

pub none_sorted : (sig : Signature) (terms : List Term) → terms ≡ [] → (t : Term) → IsIn t terms → (s : ℕ) × HasSort sig t s
none_sorted sig terms e t i = elim (subst (IsIn t) e i) [ ]

module _ (def : Definition) where
  -- a node of a formed tree
  pub formed_node : (root : Fragment) (path : Path) (node : Fragment) → IsFormed def root → node_at root path ≡ Some node → IsFormed def node
  formed_node root path node (kind, formed) at = node_formed def root kind path node formed at

  module _ (f : Fragment) where
    pub fault_told : (fault : NoteFault) → (fault ≡ faults.Memory → ⊥) → IsNoteFault def f fault → IsTooMuch def f
    fault_told faults.Deep some h = inl h
    fault_told faults.Big some h = inr (inl h.1)
    fault_told (faults.Wide path step) some (shallow, small, part, wide) =
        let place : Place = record { path = path; part = part; step = step } in
        inr (inr (inl (place, in_at (steps_of def [] f) wide.number place wide.found, wide.passes)))
    fault_told faults.Heavy some h = inr (inr (inr h.3))
    fault_told faults.Memory some h = absurd (some refl)

    pub within_not : (n : Annotated) → IsNoteOf def f n → IsTooMuch def f → ⊥
    within_not n is (inl deep) = is.within.shallow deep
    within_not n is (inr (inl big)) = is.within.small big
    within_not n is (inr (inr (inl wide))) = is.within.narrow wide
    within_not n is (inr (inr (inr heavy))) = is.within.light heavy

    -- it is that of its own tree
    pub note_is : (n : Annotated) → IsNoteOf def f n → IsNoteOf def (tree_in n) n
    note_is n is = subst (λ (t : Fragment). IsNoteOf def t n) (sym is.tree) is

    pub good_told : (n : Annotated) (b : Bool) → IsNoteOf def f n → TellsOpen def f n → IsTrue b ↔ ((whole_in n).rel ≡ [] → ⊥)
        → IsTrue b ↔ ((IsTooMuch def f → ⊥) × IsOpen def f)
    good_told n b is tells h = ((λ t. (within_not n is, tells.1 (h.0 t))), (λ (few, o). h.1 (tells.0 o)))

    pub not_good : IsTooMuch def f → IsTrue false ↔ ((IsTooMuch def f → ⊥) × IsOpen def f)
    not_good much = ((λ t. absurd (false≢true t)), (λ (few, o). absurd (few much)))

  -- ---- the values of a node

  pub values_shown : (f : Fragment) (path : Path) (answer : Result (Vec Term Global) FocusFault) (terms : Vec Term Global) → (IsTooMuch def f → ⊥)
      → answer ≡ Ok terms → IsShown def path f answer → AreValues def f path terms.items
  values_shown f path answer terms few e h = let s = subst (IsShown def path f) e h in values terms.items few s.1 s.0

  pub none_shown : (f : Fragment) (path : Path) (answer : Result (Vec Term Global) FocusFault) (fault : FocusFault) (terms : List Term)
      → answer ≡ Err fault → fault ≡ questions.Wide → terms ≡ [] → IsShown def path f answer → AreValues def f path terms
  none_shown f path answer fault terms e w none h =
      subst (AreValues def f path) (sym none)
      (too_many (inr (subst (λ (x : FocusFault). IsShown def path f (Err x)) w (subst (IsShown def path f) e h))))

  module _ (n : Annotated) (is : IsNoteOf def (tree_in n) n) (path : Path) (node : Fragment) (there : node_at (tree_in n) path ≡ Some node) (own : SummaryParts) (at : IsSummaryAt n path own) where
    own_of : IsSummaryOf def node own
    own_of =
        let (other, found, of, usual) = at def (tree_in n) is in
        subst (λ (x : Fragment). IsSummaryOf def x own) (same_Some other node (sym found ∙ there)) of

    pub own_usual : IsSummary def own
    own_usual = (at def (tree_in n) is).3

    pub own_silent : IsSilent own
    own_silent = own_of.seen ∙ quiet node (real def node (formed_node (tree_in n) path node is.formed there))

    module _ (around : List Frame) (are : AreFramesAt n path around) where
      pub own_climbs : CanClimb def around own.kind
      own_climbs =
          let a = are def (tree_in n) is in
          let same : a.node ≡ node = same_Some a.node node (sym a.there ∙ there) in
          subst (CanClimb def around) (one_kind def node a.kind own.kind (subst (λ (x : Fragment). IsOfKind def x a.kind) same a.of_kind) own_of.kind) a.climb

      pub own_shown : (answer : Result (Vec Term Global) FocusFault)
          → ((g other : Fragment) (p : Path) → StandFor def around p g other → IsSummaryOf def other own → IsShown def p g answer)
          → IsShown def path (tree_in n) answer
      own_shown answer h =
          let a = are def (tree_in n) is in
          let same : a.node ≡ node = same_Some a.node node (sym a.there ∙ there) in
          h (tree_in n) node path (subst (StandFor def around path (tree_in n)) same a.stand) own_of

-- ---- the frames that the note gave

pub frames_are : (n : Annotated) (path : Path) (o : Option (Vec Frame Global)) (v : Vec Frame Global) (around : List Frame) → o ≡ Some v → around ≡ v.items
    → MatchOption o (IsNoSummaryAt n path) (λ w. AreFramesAt n path w.items) → AreFramesAt n path around
frames_are n path o v around e same h =
    subst (AreFramesAt n path) (sym same) (subst (λ x. MatchOption x (IsNoSummaryAt n path) (λ w. AreFramesAt n path w.items)) e h)

pub no_frames : (n : Annotated) (path : Path) (o : Option (Vec Frame Global)) → o ≡ None → MatchOption o (IsNoSummaryAt n path) (λ w. AreFramesAt n path w.items) → IsNoSummaryAt n path
no_frames n path o e h = subst (λ x. MatchOption x (IsNoSummaryAt n path) (λ w. AreFramesAt n path w.items)) e h

-- the node is there
pub is_there : (def : Definition) (n : Annotated) (path : Path) (node : Fragment) → IsNoteOf def (tree_in n) n → node_at (tree_in n) path ≡ Some node → IsNoSummaryAt n path → ⊥
is_there def n path node is there none = let d : ◌≡◌ {A = Option Fragment} None (Some node) = sym (none def (tree_in n) is) ∙ there in absurd (cc)
