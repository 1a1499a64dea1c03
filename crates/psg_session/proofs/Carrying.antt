-- What a planned change is answered, from what is found of its tree.
use Rattle.std.proofs.Common.{◌≡◌, ◌⊎◌, inl, inr, ℕ, ◌+◌, ◌≤◌, List, [], Some, Option, Result, Ok, Err, refl, sym, ap, subst}
use Rattle.psg_terms.specs.Names.{Name}
use Rattle.psg_grammar.specs.declared.types.Kind.{Kind}
use Rattle.psg_grammar.specs.declared.types.Definition.{Definition}
use Rattle.psg_grammar.specs.Fragments.{Fragment}
use Rattle.psg_grammar.specs.Insertion.{blank}
use Rattle.psg_grammar.specs.Marks.{IsMark}
use Rattle.psg_grammar.specs.Paths.{Path}
use Rattle.psg_grammar.specs.WellFormed.{WellFormed}
use Rattle.psg_cache.specs.Blames.{culprits_in}
use Rattle.psg_cache.specs.Notes.{IsNoteOf, mark_by}
use Rattle.psg_cache.specs.Annotated.{Annotated, tree_in}
use Rattle.psg_script.specs.declared.command.Command.{Command}
use Rattle.psg_script.specs.declared.command.Command.TheVariants.{New}
use Rattle.psg_session.specs.declared.changes.Proposal.{Proposal}
use Rattle.psg_session.specs.declared.editor.Editor.{Editor}
use Rattle.psg_session.specs.declared.editor.OpenedTree.{OpenedTree}
use Rattle.psg_session.specs.declared.editor.Outcome.TheVariants.{Stays, Opens as OpensTree, Changes}
use Rattle.psg_session.specs.declared.judging.Trial.{Trial}
use Rattle.psg_session.specs.declared.judging.Trial.TheVariants.{Opens, Grows, Types, Closes, Loosens}
use Rattle.psg_session.specs.declared.refusal.Refusal.{Refusal}
use Rattle.psg_session.specs.declared.refusal.Refusal.TheVariants.{NoPlaceholder, Unknown}
use Rattle.psg_session.specs.declared.replies.Mark.{Mark}
use Rattle.psg_library.specs.declared.fragment.SavedFragment.{SavedFragment as Saved}
use Rattle.psg_session.specs.declared.replies.Reply.TheVariants.{Refused}
use Rattle.psg_session.specs.declared.stop.Stop.{Stop}
use Rattle.psg_session.specs.declared.stop.Stop.TheVariants as stops
use Rattle.psg_session.specs.Edits.{cost_of, edited, MayEdit}
use Rattle.psg_session.specs.Good.{IsGoodIn}
use Rattle.psg_session.specs.Outcomes.{changed, IfFound, IsFit, IsJudged, IsPlan, IsProposal, IsOutcome, tree_tests}
use Rattle.psg_session.specs.PlainState.{Opened, State, not_asked, with_change, with_new}
use Rattle.psg_session.specs.PlainStep.{by_change, by_new, changes, Gives, HasName, IsDeclaringPhylum, OfResult, opens, refuses, Steps}
use Rattle.psg_session.specs.Refusals.{Passes, Refuses}
use Rattle.psg_session.specs.Replies.{marked}
use Rattle.psg_session.specs.Sessions.{IsEditor, IsVersion, opened_of, plain, state_of}
use Rattle.psg_session.specs.Shrinking.{IsSmallFor}
use Rattle.psg_session.specs.Ticks.{HasTicked}
use Rattle.psg_session.specs.Views.{mark_of}
use Rattle.psg_session.proofs.EditLaws.{edited_formed, opened_version}
use Rattle.psg_session.proofs.Smaller.{small_by}
use Rattle.psg_session.proofs.StepLaws.{opened_plain, some_once}
use Rattle.psg_session.proofs.Verdicts.{mark_is}

-- ---- the same tests, said in another way

again : {A B E X Y : Type 0} → (A → B) → (B → A) → (X → Y) → (A × E) ⊎ ((A → ⊥) × X) → (B × E) ⊎ ((B → ⊥) × Y)
again up down more (inl (a, e)) = inl (up a, e)
again up down more (inr (n, x)) = inr ((λ b. n (down b)), more x)

both : {A B X Y : Type 0} → (B → A) → (X → Y) → (A → ⊥) × X → (B → ⊥) × Y
both down more (n, x) = ((λ b. n (down b)), more x)

module _ (def : Definition) (Of To : (Fragment → Type 0) → Type 0)
    (up : (P : Fragment → Type 0) → Of P → To P) (down : (P : Fragment → Type 0) → To P → Of P) where
  pub refuses_again : (trial : Trial) (r : Refusal) → Refuses (tree_tests def trial Of) r
      → Refuses (tree_tests def trial To) r
  refuses_again Opens r h = again (up _) (down _) (λ x. x) h
  refuses_again Grows r h =
      again (up _) (down _) (again (up _) (down _)
      (again (up _) (down _) (again (up _) (down _) (again (up _) (down _) (λ x. x))))) h
  refuses_again Types r h =
      again (up _) (down _) (again (up _) (down _)
      (again (up _) (down _) (again (up _) (down _) (λ x. x)))) h
  refuses_again Closes r h = again (up _) (down _) (again (up _) (down _) (again (up _) (down _) (λ x. x))) h
  refuses_again Loosens r h = again (up _) (down _) (again (up _) (down _) (λ x. x)) h

  pub passes_again : (trial : Trial) → Passes (tree_tests def trial Of) → Passes (tree_tests def trial To)
  passes_again Opens h = both (down _) (λ x. x) h
  passes_again Grows h =
      both (down _) (both (down _) (both (down _) (both (down _) (both (down _) (λ x. x))))) h
  passes_again Types h = both (down _) (both (down _) (both (down _) (both (down _) (λ x. x)))) h
  passes_again Closes h = both (down _) (both (down _) (both (down _) (λ x. x))) h
  passes_again Loosens h = both (down _) (both (down _) (λ x. x)) h

-- ---- a planned change

module _ (def : Definition) (e : Editor) (command : Command) (m : Proposal) (made : IsProposal def e command m) where
  abbrev tree : Fragment
  tree = edited m.edit (tree_in made.held.note)

  up : (P : Fragment → Type 0) → P tree → OfResult def (state_of e) command P
  up P h = (tree, by_change made.makes, h)

  down : (P : Fragment → Type 0) → OfResult def (state_of e) command P → P tree
  down P (other, is, h) = subst P (made.only other is) h

  -- its tree fails a test
  pub refused_late : (r : Refusal) → IsJudged def m.trial tree (Err (stops.Refused r))
      → IsOutcome def e not_asked command (Stays (Refused r))
  refused_late r fails = record {
    steps = refuses (made.refused r (refuses_again def (λ P. P tree) (OfResult def (state_of e) command) up down
        m.trial r fails));
    fit = tt;
  }

  new_version : IsEditor def e → (note : Annotated) → IsNoteOf def tree note → IsVersion def made.held.kind note
  new_version editor note noted = record {
    formed = subst (λ f. WellFormed def f made.held.kind) (sym noted.tree)
        (edited_formed def m.edit (tree_in made.held.note) made.held.kind
        (opened_version def e made.held editor made.opened).formed made.may);
    noted = subst (λ f. IsNoteOf def f note) (sym noted.tree) noted;
  }

  -- its tree passes all
  pub changed_late : IsEditor def e → (note : Annotated) → IsJudged def m.trial tree (Ok note) → (mark : Mark)
      → mark_of mark ≡ mark_by (culprits_in note) → IsOutcome def e not_asked command (Changes note m.cursor mark)
  changed_late editor note (noted, passes) mark told =
      let marks : IsMark def tree (mark_of mark) = subst (IsMark def tree) (sym told) (mark_is def _ note noted) in
      let taken = made.taken (passes_again def (λ P. P tree) (OfResult def (state_of e) command) up down m.trial
      passes) in
      let step : Steps def (IsGoodIn def) (state_of e) not_asked command
      (with_change (state_of e) (plain made.held) tree m.cursor) (marked (mark_of mark)) =
      changes (plain made.held) (mark_of mark) taken (opened_plain def e made.held made.opened) made.makes marks in
      record {
        steps = subst (λ (o : Option Opened). Steps def (IsGoodIn def) (state_of e) not_asked command
            (changed (state_of e) o (tree_in note) m.cursor) (marked (mark_of mark)))
            (sym (ap opened_of made.opened))
            (subst (λ (f : Fragment). Steps def (IsGoodIn def) (state_of e) not_asked command
            (with_change (state_of e) (plain made.held) f m.cursor) (marked (mark_of mark))) (sym noted.tree) step);
        fit = subst (λ (o : Option OpenedTree). IsFit def o (Changes note m.cursor mark)) (sym made.opened)
            (new_version editor note noted);
      }

  pub made_ticks : (from to : ℕ) → to ≤ from + cost_of m.edit (tree_in made.held.note)
      → HasTicked def (state_of e) command from to
  made_ticks from to h = record { taken = cost_of m.edit (tree_in made.held.note); counted = h; within = made.counts }

  -- the same, for the opened fragment that was found
  module _ (held : OpenedTree) (opened : e.opened ≡ Some held) where
    same_held : held ≡ made.held
    same_held = some_once held made.held e.opened opened made.opened

    pub may_here : MayEdit def (tree_in held.note) m.edit
    may_here = subst (λ (h : OpenedTree). MayEdit def (tree_in h.note) m.edit) (sym same_held) made.may

    -- its tree passes none of the limits that are not tested
    pub small_here : IsEditor def e → IsSmallFor def m.trial (edited m.edit (tree_in held.note))
    small_here editor =
        subst (λ (h : OpenedTree). IsSmallFor def m.trial (edited m.edit (tree_in h.note))) (sym same_held)
        (small_by def (tree_in made.held.note) tree
        (opened_version def e made.held editor made.opened).noted.within m.trial made.sized)

    judged_here : (answer : Result Annotated Stop) → IsJudged def m.trial (edited m.edit (tree_in held.note)) answer
        → IsJudged def m.trial tree answer
    judged_here answer h =
        subst (λ (h' : OpenedTree). IsJudged def m.trial (edited m.edit (tree_in h'.note)) answer) same_held h

    pub refused_here : (stop : Stop) → IsJudged def m.trial (edited m.edit (tree_in held.note)) (Err stop)
        → IfFound (Err stop) (IsOutcome def e not_asked command)
    refused_here (stops.Refused r) h = refused_late r (judged_here (Err (stops.Refused r)) h)
    refused_here stops.Memory h = tt

    pub changed_here : IsEditor def e → (note : Annotated)
        → IsJudged def m.trial (edited m.edit (tree_in held.note)) (Ok note) → (mark : Mark)
        → mark_of mark ≡ mark_by (culprits_in note) → IsOutcome def e not_asked command (Changes note m.cursor mark)
    changed_here editor note h mark told = changed_late editor note (judged_here (Ok note) h) mark told

    pub ticks_here : (from to : ℕ) → to ≤ from + cost_of m.edit (tree_in held.note)
        → HasTicked def (state_of e) command from to
    ticks_here from to h =
        made_ticks from to (subst (λ (h' : OpenedTree). to ≤ from + cost_of m.edit (tree_in h'.note)) same_held h)

-- a plan that refuses
pub refused_plan : (def : Definition) (e : Editor) (command : Command) (stop : Stop) → IsPlan def e command (Err stop)
    → IfFound (Err stop) (IsOutcome def e not_asked command)
refused_plan def e command (stops.Refused r) is = record { steps = refuses is; fit = tt }
refused_plan def e command stops.Memory is = tt

-- ---- a new fragment

-- the state with this tree alone
abbrev with_tree : List Saved → Kind → Fragment → Path → State
with_tree saved kind f c = record {
  opened = Some (record { kind = kind; tree = f });
  cursor = c;
  earlier = [];
  later = [];
  saved = saved;
}

module _ (def : Definition) (e : Editor) (name : Name) where
  -- nothing has the name
  pub new_unknown : ((kind : Kind) → HasName def kind name → ⊥)
      → IsOutcome def e not_asked (New name) (Stays (Refused Unknown))
  new_unknown never = record { steps = refuses (inl (never, refl)); fit = tt }

  module _ (kind : Kind) (named : HasName def kind name) where
    knows : ((other : Kind) → HasName def other name → ⊥) → ⊥
    knows never = never kind named

    -- the name is that of a phylum that declares
    pub new_declaring : IsDeclaringPhylum def kind
        → IsOutcome def e not_asked (New name) (Stays (Refused NoPlaceholder))
    new_declaring declares =
        record { steps = refuses (inr (knows, inl ((kind, named, declares), refl))); fit = tt }

    module _ (only : (other : Kind) → HasName def other name → other ≡ kind) (usual : IsDeclaringPhylum def kind → ⊥) where
      usual_all : ((other : Kind) × HasName def other name × IsDeclaringPhylum def other) → ⊥
      usual_all (other, is, declares) = usual (subst (IsDeclaringPhylum def) (only other is) declares)

      only_blank : (other : Fragment) → Gives def (state_of e) (New name) other → other ≡ blank def kind
      only_blank other (by_new kind' named') = ap (blank def) (only kind' named')
      only_blank other (by_change makes) = elim makes [ ]

      lifts : (P : Fragment → Type 0) → P (blank def kind) → OfResult def (state_of e) (New name) P
      lifts P h = (blank def kind, by_new kind named, h)

      lowers : (P : Fragment → Type 0) → OfResult def (state_of e) (New name) P → P (blank def kind)
      lowers P (other, is, h) = subst P (only_blank other is) h

      pub new_refused : (stop : Stop) → IsJudged def Opens (blank def kind) (Err stop)
          → IfFound (Err stop) (IsOutcome def e not_asked (New name))
      new_refused stops.Memory fails = tt
      new_refused (stops.Refused r) fails = record {
        steps = refuses (inr (
          knows,
          inr (
            usual_all,
            refuses_again def (λ P. P (blank def kind))
                (OfResult def (state_of e) (New name)) lifts lowers Opens r fails,
          ),
        ));
        fit = tt;
      }

      pub new_opened : WellFormed def (blank def kind) kind → (note : Annotated)
          → IsJudged def Opens (blank def kind) (Ok note)
          → (cursor : Path) → cursor ≡ [] → (mark : Mark) → mark_of mark ≡ mark_by (culprits_in note)
          → IsOutcome def e not_asked (New name) (OpensTree (record { kind = kind; note = note }) cursor mark)
      new_opened formed note (noted, passes) cursor top mark told =
          let marks : IsMark def (blank def kind) (mark_of mark) =
          subst (IsMark def (blank def kind)) (sym told) (mark_is def _ note noted) in
          let taken = passes_again def (λ P. P (blank def kind)) (OfResult def (state_of e) (New name)) lifts lowers
          Opens passes in
          let step : Steps def (IsGoodIn def) (state_of e) not_asked (New name)
          (with_new (state_of e) kind (blank def kind)) (marked (mark_of mark)) =
          opens kind (mark_of mark) (knows, (usual_all, taken)) named marks in
          record {
            steps = subst (λ (c : Path). Steps def (IsGoodIn def) (state_of e) not_asked (New name)
                (with_tree e.saved kind (tree_in note) c) (marked (mark_of mark))) (sym top)
                (subst (λ (f : Fragment). Steps def (IsGoodIn def) (state_of e) not_asked (New name)
                (with_tree e.saved kind f []) (marked (mark_of mark))) (sym noted.tree) step);
            fit = record {
              formed = subst (λ f. WellFormed def f kind) (sym noted.tree) formed;
              noted = subst (λ f. IsNoteOf def f note) (sym noted.tree) noted;
            };
          }
