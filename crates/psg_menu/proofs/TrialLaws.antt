-- From the evaluations of a trial to what they say of the fragment.
use Rattle.std.proofs.Common.{◌≡◌, ◌↔◌, inl, inr, ℕ, ◌+◌, Bool, true, false, not, List, [], ◌∷◌, ◌++◌, Option, Some, slice_get, refl, ap₂, sym, ◌∙◌, subst, true≢false, IsTrue}
use Rattle.std.specs.List.{AllByRecursion}
use Rattle.std.specs.Prelude.{IfOk, Result, Ok, Err, sum_by}
use Rattle.std.proofs.lemmas.List.Sums.{sum_by-cons}
use Rattle.psg_terms.proofs.Lists.{each_in, in_right}
use Rattle.psg_terms.specs.Names.{Name}
use Rattle.psg_terms.specs.Relations.{IsIn, first}
use Rattle.psg_grammar.specs.declared.types.Operator.{Operator}
use Rattle.psg_grammar.specs.declared.types.Definition.{Definition}
use Rattle.psg_grammar.specs.Fragments.{Fragment}
use Rattle.psg_grammar.specs.Insertion.{Leaf, fresh_operator, with_operator}
use Rattle.psg_grammar.specs.Open.{IsOpen}
use Rattle.psg_grammar.specs.Paths.{Path}
use Rattle.psg_grammar.specs.Steps.{IsWide}
use Rattle.psg_eval.specs.declared.frame.Frame.{Frame}
use Rattle.psg_eval.specs.declared.question.FocusFault.{FocusFault}
use Rattle.psg_eval.specs.declared.question.FocusFault.TheVariants as questions
use Rattle.psg_eval.specs.declared.summary.EvalFault.{EvalFault}
use Rattle.psg_eval.specs.declared.summary.EvalFault.TheVariants as faults
use Rattle.psg_eval.specs.declared.summary.SummaryParts.{SummaryParts}
use Rattle.psg_eval.specs.Climbing.{IsClimbed}
use Rattle.psg_eval.specs.Frames.{StandAt, StandFor}
use Rattle.psg_eval.specs.Questions.{IsAsked}
use Rattle.psg_eval.specs.Summaries.{Answers, AreSummariesOf, IsSummary, IsSummaryOf, slot_kinds}
use Rattle.psg_eval.specs.Trees.{IsNode}
use Rattle.psg_menu.specs.declared.judging.Class.{Class}
use Rattle.psg_menu.specs.Trials.{AreBlanks, AreNamedLeaves, IsClass, IsJudged, IsTried}
use Rattle.psg_menu.proofs.NewTrees.{blanks_silent, new_children, new_node, new_own, new_wide}
use Rattle.psg_menu.proofs.OpenRows.{open_rows, rows_open}
use Rattle.psg_menu.proofs.TrialPlaces.{IsPlaced, placed}
use Rattle.psg_menu.proofs.WideTrees.{wide_from, wide_to}

-- ---- an answer without its step

pub asked_ok : (made : Result SummaryParts EvalFault) (s : SummaryParts) (P : Result SummaryParts EvalFault → Type 0) → P made → IsAsked made (Ok s) → P (Ok s)
asked_ok (Ok t) s P p same = subst (λ x. P (Ok x)) (sym same) p
asked_ok (Err (faults.Wide step)) s P p asked = absurd asked
asked_ok (Err faults.Memory) s P p asked = absurd asked

pub asked_if : (made : Result SummaryParts EvalFault) (s : SummaryParts) (P : SummaryParts → Type 0) → IfOk made P → IsAsked made (Ok s) → P s
asked_if (Ok t) s P p same = subst P (sym same) p
asked_if (Err (faults.Wide step)) s P p asked = absurd asked
asked_if (Err faults.Memory) s P p asked = absurd asked

pub asked_wide : (made : Result SummaryParts EvalFault) (P : Result SummaryParts EvalFault → Type 0) → P made → IsAsked made (Err questions.Wide) → (step : ℕ) × P (Err (faults.Wide step))
asked_wide (Ok t) P p asked = absurd asked
asked_wide (Err (faults.Wide step)) P p asked = (step, p)
asked_wide (Err faults.Memory) P p asked = absurd asked

-- ---- lists

pub each_more : {X : Type 0} (P : X → Type 0) (xs ys : List X) (x : X) → AllByRecursion P xs → ys ≡ xs ++ x ∷ [] → P x → AllByRecursion P ys
each_more {X = X} P xs ys x h e p = subst (AllByRecursion P) (sym e) (push xs h) where
  push : (zs : List X) → AllByRecursion P zs → AllByRecursion P (zs ++ x ∷ [])
  push [] h = (p, tt)
  push (z ∷ zs) h = (h.0, push zs h.1)

none_seen : (ss : List SummaryParts) → AllByRecursion (λ (s : SummaryParts). s.seen ≡ 0) ss → sum_by (λ (c : SummaryParts). c.seen) ss ≡ 0
none_seen [] h = refl
none_seen (s ∷ ss) (one, all) = sum_by-cons (λ (c : SummaryParts). c.seen) s ss ∙ ap₂ (λ m n. m + n) one (none_seen ss all)

module _ (def : Definition) (around : List Frame) where
  -- ---- the climb

  abbrev pub Climbs : SummaryParts → Result SummaryParts EvalFault → Type 0
  Climbs own made = (f t : Fragment) (path : Path) → StandFor def around path f t → IsSummaryOf def t own → IsClimbed def path f made

  good_or : (b : Bool) (rel : Type 0) (Goal : Type 0) → (IsTrue b ↔ rel) → ((rel → ⊥) → Goal) → (Goal → rel → ⊥) → IsTrue (not b) ↔ Goal
  good_or true rel Goal e to from = ((λ h. absurd (true≢false (sym h))), (λ g. absurd (from g (e.0 refl))))
  good_or false rel Goal e to from = ((λ h. to (λ r. true≢false (sym (e.1 r)))), (λ g. refl))

  pub judged_good : (own whole : SummaryParts) (made : Result SummaryParts EvalFault) (b : Bool) → own.seen ≡ 0 → Climbs own made → IfOk made (IsSummary def) → IfOk made (λ (s : SummaryParts). s.seen ≡ own.seen)
      → IsAsked made (Ok whole) → (IsTrue b ↔ (whole.rel ≡ [])) → IsJudged def around own (Ok (not b))
  judged_good own whole made b silent climbs usual seen asked empty f t path stand of =
      let (is, within) = asked_ok made whole (λ r. IsClimbed def path f r) (climbs f t path stand of) asked in
      let u : IsSummary def whole = asked_if made whole (IsSummary def) usual asked in
      let z : whole.seen ≡ 0 = asked_if made whole (λ (s : SummaryParts). s.seen ≡ own.seen) seen asked ∙ silent in
      (good_or b (whole.rel ≡ []) (IsOpen def f) empty (rows_open def whole u z f is) (open_rows def whole u z f is), within)

  pub judged_fault : (own : SummaryParts) (made : Result SummaryParts EvalFault) (fault : FocusFault) → Climbs own made → IsAsked made (Err fault) → IsJudged def around own (Err fault)
  judged_fault own made questions.Memory climbs asked = tt
  judged_fault own made questions.Wide climbs asked = λ f t path stand of.
      let (step, rest) = asked_wide made (λ r. IsClimbed def path f r) (climbs f t path stand of) asked in
      let (place, h, e) = rest in
      (place, subst (IsIn place) (sym h.split) (in_right place h.front (place ∷ h.rest) first), h.passes)

  -- ---- classes

  pub class_judged : (classes : List Class) (own : SummaryParts) (good : Bool) → AllByRecursion (IsClass def around) classes
      → (c : Class) × IsIn c classes × (c.own ≡ own) × (c.good ≡ good) → IsJudged def around own (Ok good)
  class_judged classes own good all (c, i, same, as_well) =
      subst (λ s. IsJudged def around s (Ok good)) same (subst (λ b. IsJudged def around c.own (Ok b)) as_well (each_in (IsClass def around) c classes all i))

  -- ---- the trial

  module _ (o : ℕ) (op : Operator) (found : slice_get def.operators o ≡ Some op) (names : List Name) (below : List SummaryParts) (blanks : AreBlanks def (slot_kinds def op.items) below) where
    abbrev pub Evaluates : Result SummaryParts EvalFault → Type 0
    Evaluates made = (f : Fragment) → IsNode def o names f → AreSummariesOf def f below → Answers def f made

    pub silent_below : sum_by (λ (c : SummaryParts). c.seen) below ≡ 0
    silent_below = none_seen below (blanks_silent def (slot_kinds def op.items) below blanks)

    module _ (f : Fragment) (path : Path) (k : Option ℕ) (stand : StandAt def around path k f) (leaves : List Leaf) (named : AreNamedLeaves def o names leaves) where
      abbrev x : Fragment
      x = fresh_operator def o leaves

      abbrev new : Fragment
      new = with_operator def f path k o leaves

      at : IsPlaced def around f x new
      at = placed def o leaves around f path k stand

      answered : (made : Result SummaryParts EvalFault) → Evaluates made → Answers def x made
      answered made answer = answer x (new_node def o op found names leaves named) (new_children def o op found names leaves named below blanks)

      pub own_wide : (made : Result SummaryParts EvalFault) → Evaluates made → IsAsked made (Err questions.Wide) → IsWide def new
      own_wide made answer asked =
          let (step, h) = asked_wide made (Answers def x) (answered made answer) asked in
          wide_to def new (at.inner (new_wide def o op found names leaves named (step, h.there, h.passes)))

      pub above_wide : (made : Result SummaryParts EvalFault) (own : SummaryParts) → Evaluates made → IsAsked made (Ok own) → IsJudged def around own (Err questions.Wide) → IsWide def new
      above_wide made own answer asked judged =
          let (is, stays) = asked_ok made own (Answers def x) (answered made answer) asked in
          wide_to def new (at.above (judged new x at.path at.stand is))

      pub trial_good : (made : Result SummaryParts EvalFault) (own : SummaryParts) (good : Bool) → Evaluates made → IsAsked made (Ok own) → IsJudged def around own (Ok good)
          → (IsTrue good ↔ IsOpen def new) × ((IsWide def f → ⊥) → IsWide def new → ⊥)
      trial_good made own good answer asked judged =
          let (is, stays) = asked_ok made own (Answers def x) (answered made answer) asked in
          let (same, within) = judged new x at.path at.stand is in (
            same,
            (λ narrow wide. elim (at.split (wide_from def new wide)) [
              | inl a ↦ let (n, l, p) = new_own def o op found names leaves named below blanks a in stays n l p
              | inr a ↦ elim a [
                | inl b ↦ within b.0 b.1 b.2
                | inr b ↦ narrow (wide_to def f b)
              ]
            ]),
          )

    pub tried_fault : (made : Result SummaryParts EvalFault) (fault : FocusFault) → Evaluates made → IsAsked made (Err fault) → IsTried def around o names (Err fault)
    tried_fault made questions.Memory answer asked = tt
    tried_fault made questions.Wide answer asked = λ f path k stand leaves named. own_wide f path k stand leaves named made answer asked

    pub tried_above : (made : Result SummaryParts EvalFault) (own : SummaryParts) (fault : FocusFault) → Evaluates made → IsAsked made (Ok own) → IsJudged def around own (Err fault) → IsTried def around o names (Err fault)
    tried_above made own questions.Memory answer asked judged = tt
    tried_above made own questions.Wide answer asked judged = λ f path k stand leaves named. above_wide f path k stand leaves named made own answer asked judged

    pub tried_good : (made : Result SummaryParts EvalFault) (own : SummaryParts) (good : Bool) → Evaluates made → IsAsked made (Ok own) → IsJudged def around own (Ok good) → IsTried def around o names (Ok good)
    tried_good made own good answer asked judged = λ f path k stand leaves named. trial_good f path k stand leaves named made own good answer asked judged
