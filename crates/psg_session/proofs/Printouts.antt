-- The printed text that a session keeps of its opened fragment.
use Rattle.std.proofs.Common.{◌≡◌, inl, inr, ℕ, List, Option, Some, None, Result, Ok, option_map, refl, sym, ◌∙◌, ap, subst}
use Rattle.std.proofs.lemmas.Option.{none-some}
use Rattle.psg_grammar.specs.declared.types.Definition.{Definition}
use Rattle.psg_cache.specs.Annotated.{tree_in}
use Rattle.psg_unparse.specs.Spans.{printed_of}
use Rattle.psg_unparse.specs.declared.spans.Printed.{Printed}
use Rattle.psg_session.specs.declared.editor.Editor.{Editor}
use Rattle.psg_session.specs.declared.editor.OpenedTree.{OpenedTree}
use Rattle.psg_session.specs.declared.editor.Outcome.{Outcome}
use Rattle.psg_cache.specs.Annotated.{Annotated}
use Rattle.psg_session.specs.declared.changes.Proposal.{Proposal}
use Rattle.psg_session.specs.declared.editor.Outcome.TheVariants.{Changes}
use Rattle.psg_session.specs.declared.replies.Mark.{Mark}
use Rattle.psg_session.specs.declared.stop.Stop.{Stop}
use Rattle.psg_grammar.specs.Fragments.{Fragment}
use Rattle.std.specs.Prelude.{MatchOption}
use Rattle.psg_unparse.specs.Splicing.{IsSpliceable, IsSplicing}
use Rattle.psg_session.specs.declared.edits.Edit.{Edit}
use Rattle.psg_session.specs.declared.edits.Edit.TheVariants.{Put}
use Rattle.psg_session.specs.Edits.{edited}
use Rattle.psg_session.specs.Outcomes.{after, changed, IsFit}
use Rattle.psg_session.specs.PlainState.{Opened, State}
use Rattle.psg_session.specs.Printouts.{IsKeptText, IsNextText, IsPlannedText, unknown, known, IsPrinted}
use Rattle.psg_session.specs.Sessions.{opened_of, state_of}

same_text : (a b : Printed) → Some a ≡ Some b → a ≡ b
same_text a b same = cc

module _ (def : Definition) where
  -- a fragment is opened where there is a text
  pub some_opened : (o : Option OpenedTree) (q : Option Printed) → IsPrinted def (opened_of o) q → (p : Printed)
      → q ≡ Some p → (held : OpenedTree) × (o ≡ Some held) × (p ≡ printed_of def (tree_in held.note))
  some_opened None q is p same = absurd (none-some p (sym is ∙ same))
  some_opened (Some held) q is p same = (held, refl, same_text p (printed_of def (tree_in held.note)) (sym same ∙ is))

  pub none_opened : (o : Option OpenedTree) (q : Option Printed) → IsPrinted def (opened_of o) q → q ≡ None → o ≡ None
  none_opened None q is none = refl
  none_opened (Some held) q is none = absurd (none-some (printed_of def (tree_in held.note)) (sym none ∙ is))

  module _ (e : Editor) (held : OpenedTree) (opened : e.opened ≡ Some held) (q : Option Printed) where
    prints : option_map (λ (x : Opened). printed_of def x.tree) (opened_of e.opened)
        ≡ Some (printed_of def (tree_in held.note))
    prints = ap (λ (o : Option OpenedTree). option_map (λ (x : Opened). printed_of def x.tree) (opened_of o)) opened

    -- what is opened is printed
    pub is_printed : IsPrinted def (opened_of e.opened) q → (p : Printed) → q ≡ Some p
        → p ≡ printed_of def (tree_in held.note)
    is_printed is p same = same_text p (printed_of def (tree_in held.note)) (sym same ∙ is ∙ prints)

    pub never_none : IsPrinted def (opened_of e.opened) q → q ≡ None → ⊥
    never_none is none = none-some (printed_of def (tree_in held.note)) (sym none ∙ is ∙ prints)

  -- the text that is kept after an outcome is that of the editor to which it leads
  pub kept_settled : (old new : Editor) (outcome : Outcome) (q : Option Printed) → state_of new ≡ after old outcome
      → IsKeptText def (after old outcome).opened q → IsKeptText def (opened_of new.opened) q
  kept_settled old new outcome q state kept = subst (λ (s : State). IsKeptText def s.opened q) (sym state) kept

pub one_made : (p : Result Proposal Stop) (a b : Proposal) → p ≡ Ok a → p ≡ Ok b → a ≡ b
one_made p a b e f = let z : ◌≡◌ {A = Result Proposal Stop} (Ok a) (Ok b) = sym e ∙ f in cc

pub nothing_planned : (def : Definition) (e : Editor) (plan : Result Proposal Stop) → IsPlannedText def e plan None
nothing_planned def e plan = unknown

-- what is spliced is the text of the planned tree
pub planned_by : (def : Definition) (e : Editor) (plan : Result Proposal Stop) (held : OpenedTree) (made : Proposal) (place : List ℕ)
    (new : Fragment) (q : Option Printed) → e.opened ≡ Some held → plan ≡ Ok made → made.edit ≡ Put place new
    → MatchOption q (IsSpliceable def (tree_in held.note) place new → ⊥) (IsSplicing def (tree_in held.note) place new)
    → IsPlannedText def e plan q
planned_by def e plan held made place new None opened makes put h = unknown
planned_by def e plan held made place new (Some p) opened makes put h =
    let same : p ≡ printed_of def (edited made.edit (tree_in held.note)) =
    h.printed_is ∙ ap (λ (x : Edit). printed_of def (edited x (tree_in held.note))) (sym put) in
    subst (λ (x : Printed). IsPlannedText def e plan (Some x)) (sym same) (known held made opened makes)

-- nothing is known of the next text
pub no_text : (def : Definition) (e : Editor) (outcome : Outcome) (q : Option Printed) → q ≡ None
    → IsNextText def e outcome q
no_text def e outcome q none = inl none

-- the text of the new version
pub next_text : (def : Definition) (e : Editor) (plan : Result Proposal Stop) (note : Annotated) (cursor : List ℕ) (mark : Mark)
    (q : Option Printed) → IsPlannedText def e plan q → IsFit def e.opened (Changes note cursor mark)
    → ((held : OpenedTree) (made : Proposal) → e.opened ≡ Some held → plan ≡ Ok made
    → tree_in note ≡ edited made.edit (tree_in held.note))
    → IsNextText def e (Changes note cursor mark) q
next_text def e plan note cursor mark None unknown fit version = inl refl
next_text def e plan note cursor mark (Some p) (known held made opened makes) fit version =
    inr (subst (λ (o : Option OpenedTree). IsPrinted def
    (changed (state_of e) (opened_of o) (tree_in note) cursor).opened
    (Some (printed_of def (edited made.edit (tree_in held.note)))))
    (sym opened) (ap (λ f. Some (printed_of def f)) (sym (version held made opened makes))))

-- the text of a definition that two names are given
pub passed : (def one other : Definition) (o : Option Opened) (q r : Option Printed) → one ≡ def → other ≡ def → r ≡ q
    → IsPrinted one o q → IsPrinted other o r
passed def one other o q r a b same is =
    same ∙ is ∙ ap (λ (d : Definition). option_map (λ (x : Opened). printed_of d x.tree) o) (a ∙ sym b)
