-- From the climb with the node's value observed to the answer.
use Rattle.std.proofs.Common.{◌≡◌, inl, inr, ℕ, List, [], ◌∷◌, ◌++◌, Some, sym, ◌∙◌, subst, zero, suc, Option, None, slice_get}
use Rattle.std.proofs.lemmas.Option.{same_Some}
use Rattle.psg_terms.proofs.Lists.{in_either, in_left, in_right}
use Rattle.std.specs.Prelude.{IfOk, Result, Ok, Err, Vec}
use Rattle.std.specs.declared.alloc.Global.{Global}
use Rattle.psg_terms.specs.Terms.{Term}
use Rattle.psg_terms.specs.Relations.{IsIn, first}
use Rattle.psg_grammar.specs.declared.types.Definition.{Definition}
use Rattle.psg_grammar.specs.Fragments.{Fragment, observed}
use Rattle.psg_grammar.specs.Paths.{Path, observe}
use Rattle.psg_grammar.specs.Relations.{IsPossible, IsRelationOf, IsSeenRelationOf, IsShownRelation}
use Rattle.psg_grammar.specs.Sound.{IsSound}
use Rattle.psg_grammar.specs.Steps.{Place, IsWideAt, steps_above, IsFirstOf}
use Rattle.psg_eval.specs.declared.frame.Frame.{Frame}
use Rattle.psg_eval.specs.declared.summary.EvalFault.{EvalFault}
use Rattle.psg_eval.specs.declared.summary.EvalFault.TheVariants as faults
use Rattle.psg_eval.specs.declared.summary.SummaryParts.{SummaryParts}
use Rattle.psg_eval.specs.declared.question.FocusFault.{FocusFault}
use Rattle.psg_eval.specs.declared.question.FocusFault.TheVariants as questions
use Rattle.psg_eval.specs.Climbing.{IsClimbed, IsObserved}
use Rattle.psg_eval.specs.Frames.{StandFor}
use Rattle.psg_eval.specs.Questions.{IsAsked}
use Rattle.psg_eval.specs.Summaries.{IsSummaryOf}
use Rattle.psg_eval.proofs.FrameLaws.{stands-node}
use Rattle.psg_eval.proofs.Places.{stands-observed}
use Rattle.psg_eval.proofs.Uniqueness.{same_passes}
use Rattle.psg_focus.specs.Shown.{IsShown, rows_of}

module _ (def : Definition) where
  first_in : (places : List Place) (place : Place) → IsFirstOf def places place → IsIn place places
  first_in places place h = subst (IsIn place) (sym h.split) (in_right place h.front (place ∷ h.rest) first)

  module _ (sound : IsSound def) (around : List Frame) (own : SummaryParts) where
    abbrev pub Notes : Result SummaryParts EvalFault → Type 0
    Notes made = (t : Fragment) → IsSummaryOf def t own → IsObserved def t made

    abbrev pub Climbs : SummaryParts → Result SummaryParts EvalFault → Type 0
    Climbs seen made = (f t : Fragment) (path : Path) → StandFor def around path f t → IsSummaryOf def t seen → IsClimbed def path f made

    -- the node's relation with its value once more passes the limit
    pub wide_here : (step : ℕ) → Notes (Err (faults.Wide step)) → (f node : Fragment) (path : Path) → StandFor def around path f node → IsSummaryOf def node own → IsWideAt def f path
    wide_here step notes f node path stand of =
        let (zero_is, rows, is, passes) = notes node of in
        inl (node, stands-node def around path f node stand, rows, is, passes)

    -- a step above it does
    pub wide_above : (seen : SummaryParts) (step : ℕ) → Notes (Ok seen) → Climbs seen (Err (faults.Wide step)) → (f node : Fragment) (path : Path) → StandFor def around path f node → IsSummaryOf def node own
        → IsWideAt def f path
    wide_above seen step notes climbs f node path stand of =
        let (place, h, e) = climbs (observe path f) (observed node) path (stands-observed def around path f node stand) (notes node of).0 in
        inr (place, first_in (steps_above def [] path (observe path f)) place h, h.passes)

    -- neither does
    pub not_wide : (seen whole : SummaryParts) → Notes (Ok seen) → Climbs seen (Ok whole) → (f node : Fragment) (path : Path) → StandFor def around path f node → IsSummaryOf def node own
        → IsWideAt def f path → ⊥
    not_wide seen whole notes climbs f node path stand of wide =
        let (is, light) = notes node of in
        let (of_whole, within) = climbs (observe path f) (observed node) path (stands-observed def around path f node stand) is in
        elim wide [
          | inl (other, at, rows, rel, passes) ↦
              let same : other ≡ node = same_Some other node (sym at ∙ stands-node def around path f node stand) in
              let rel_here : IsRelationOf def (observed node) rows = subst (λ t. IsRelationOf def (observed t) rows) same rel in
              light (same_passes def.signature (IsPossible def (observed node)) sound.signature rel_here.0 is.rows.0 rows seen.rel rel_here.1 is.rows.1 passes)
          | inr (place, i, passes) ↦ within place i passes
        ]

    -- the values of the observed node
    pub shown : (seen whole : SummaryParts) (rel : List (List Term)) → Notes (Ok seen) → Climbs seen (Ok whole) → ((f : Fragment) → IsSummaryOf def f whole → IsSeenRelationOf def f rel)
        → (f node : Fragment) (path : Path) → StandFor def around path f node → IsSummaryOf def node own → IsShownRelation def f path rel
    shown seen whole rel notes climbs column f node path stand of =
        let (is, light) = notes node of in
        column (observe path f) (climbs (observe path f) (observed node) path (stands-observed def around path f node stand) is).0

    -- ---- by the answers of the calls

    pub wide_noted : (made : Result SummaryParts EvalFault) → Notes made → IsAsked made (Err questions.Wide) → (f node : Fragment) (path : Path) → StandFor def around path f node → IsSummaryOf def node own
        → IsWideAt def f path
    wide_noted (Ok s) notes asked = absurd asked
    wide_noted (Err (faults.Wide step)) notes asked = wide_here step notes
    wide_noted (Err faults.Memory) notes asked = absurd asked

    pub asked_ok : (made : Result SummaryParts EvalFault) (s : SummaryParts) (P : Result SummaryParts EvalFault → Type 0) → P made → IsAsked made (Ok s) → P (Ok s)
    asked_ok (Ok t) s P p same = subst (λ x. P (Ok x)) (sym same) p
    asked_ok (Err (faults.Wide step)) s P p asked = absurd asked
    asked_ok (Err faults.Memory) s P p asked = absurd asked

    pub wide_climbed : (seen : SummaryParts) (made : Result SummaryParts EvalFault) → Notes (Ok seen) → Climbs seen made → IsAsked made (Err questions.Wide) → (f node : Fragment) (path : Path) → StandFor def around path f node → IsSummaryOf def node own
        → IsWideAt def f path
    wide_climbed seen (Ok s) notes climbs asked = absurd asked
    wide_climbed seen (Err (faults.Wide step)) notes climbs asked = wide_above seen step notes climbs
    wide_climbed seen (Err faults.Memory) notes climbs asked = absurd asked

    -- ---- as the call needs it

    abbrev pub ShowsAll : Result (Vec Term Global) FocusFault → Type 0
    ShowsAll result = (f node : Fragment) (path : Path) → StandFor def around path f node → IsSummaryOf def node own → IsShown def path f result

    pub noted_fault : (made : Result SummaryParts EvalFault) → Notes made → (fault : FocusFault) → IsAsked made (Err fault) → ShowsAll (Err fault)
    noted_fault made notes questions.Wide asked f node path stand of = wide_noted made notes asked f node path stand of
    noted_fault made notes questions.Memory asked f node path stand of = tt

    pub climbed_fault : (noted made : Result SummaryParts EvalFault) (seen : SummaryParts) → Notes noted → IsAsked noted (Ok seen) → Climbs seen made → (fault : FocusFault) → IsAsked made (Err fault)
        → ShowsAll (Err fault)
    climbed_fault noted made seen notes begun climbs questions.Wide asked f node path stand of =
        wide_climbed seen made (asked_ok noted seen Notes notes begun) climbs asked f node path stand of
    climbed_fault noted made seen notes begun climbs questions.Memory asked f node path stand of = tt

    pub shown_all : (noted made : Result SummaryParts EvalFault) (seen whole : SummaryParts) (rel : List (List Term)) (terms : Vec Term Global) → Notes noted → IsAsked noted (Ok seen) → Climbs seen made
        → IsAsked made (Ok whole) → ((f : Fragment) → IsSummaryOf def f whole → IsSeenRelationOf def f rel) → rows_of terms.items ≡ rel → ShowsAll (Ok terms)
    shown_all noted made seen whole rel terms notes begun climbs done column same f node path stand of =
        let n = asked_ok noted seen Notes notes begun in
        let c = asked_ok made whole (Climbs seen) climbs done in (
          subst (IsShownRelation def f path) (sym same) (shown seen whole rel n c column f node path stand of),
          not_wide seen whole n c f node path stand of,
        )

pub asked_if : (made : Result SummaryParts EvalFault) (s : SummaryParts) (P : SummaryParts → Type 0) → IfOk made P → IsAsked made (Ok s) → P s
asked_if (Ok t) s P p same = subst P (sym same) p
asked_if (Err (faults.Wide step)) s P p asked = absurd asked
asked_if (Err faults.Memory) s P p asked = absurd asked
