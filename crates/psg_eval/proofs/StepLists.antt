-- The steps of a node as a list: one more, the last, and the one in which keys are dropped.
use Rattle.std.proofs.Common.{◌≡◌, ◌⊎◌, inl, inr, ℕ, zero, suc, ◌+◌, ◌-◌, ◌<◌, ◌≤◌, Bool, true, false, cond, List, [], ◌∷◌, ◌++◌, length, drop, Some, refl, ap, sym, ◌∙◌, subst, length-append, arith}
use Rattle.std.specs.Prelude.{Err}
use Rattle.std.specs.List.{slice_get}
use Rattle.std.proofs.lemmas.List.{drop_all, length-drop, length-map}
use Rattle.std.proofs.lemmas.Option.{same_Some, slice_get_within}
use Rattle.psg_terms.specs.Terms.{Term}
use Rattle.psg_terms.specs.Weight.{PassesLimit}
use Rattle.psg_terms.proofs.Lists.{drop_there, slice_get-end}
use Rattle.psg_grammar.specs.declared.types.Kind.{Kind}
use Rattle.psg_grammar.specs.declared.types.Kind.TheVariants as kinds
use Rattle.psg_grammar.specs.declared.types.Definition.{Definition}
use Rattle.psg_grammar.specs.Fragments.{Fragment, cell, children_of}
use Rattle.psg_grammar.specs.Kinds.{IsOfKind}
use Rattle.psg_grammar.specs.Lookups.{is_scope}
use Rattle.psg_grammar.specs.Sound.{IsSound}
use Rattle.psg_grammar.specs.Steps.{children_count, last_step}
use Rattle.psg_scope.specs.declared.header.Header.{Header}
use Rattle.psg_eval.specs.declared.partial.Partial.{Partial}
use Rattle.psg_eval.specs.declared.steps.StepRows.{StepRows}
use Rattle.psg_eval.specs.declared.summary.EvalFault.{EvalFault}
use Rattle.psg_eval.specs.declared.summary.EvalFault.TheVariants as faults
use Rattle.psg_eval.specs.declared.summary.SummaryParts.{SummaryParts}
use Rattle.psg_eval.specs.Outside.{IsClosed}
use Rattle.psg_eval.specs.Partials.{IsAdded, IsPartial}
use Rattle.psg_eval.specs.Stages.{kinds_of, IsInside, IsMade, IsStep, MatchMade}
use Rattle.psg_eval.specs.StepRows.{adding, closing, AreSteps, Grows, IsGrown, IsStepOf, MatchGrown, MatchSteps}
use Rattle.psg_eval.specs.Summaries.{AreSummariesOf, IsFirstPassing, IsSummaryOf}
use Rattle.psg_eval.specs.Trees.{HasParts}
use Rattle.psg_eval.proofs.Assembling.{added_step, made_more, wide_more}
use Rattle.psg_eval.proofs.Cells.{list_no_scope}
use Rattle.psg_eval.proofs.CellSteps.{cell_one, cell_two}
use Rattle.psg_eval.proofs.Nodes.{as_many, child_at}
use Rattle.psg_eval.proofs.Passing.{close_passes}
use Rattle.psg_eval.proofs.RegionSteps.{count_is}
use Rattle.psg_eval.proofs.Stepping.{close_ok, closed_whole, step_wide, whole_inside}

-- what is at a place of a list with one more was there before, or it is that one
at_more : {X : Type 0} (xs : List X) (x y : X) (n : ℕ) → slice_get (xs ++ x ∷ []) n ≡ Some y → ((n < length xs) × (slice_get xs n ≡ Some y)) ⊎ ((n ≡ length xs) × (y ≡ x))
at_more [] x y zero e = inr (refl, sym (same_Some x y e))
at_more [] x y (suc n) e = absurd (cc)
at_more (z ∷ xs) x y zero e = inl (omega arith, e)
at_more (z ∷ xs) x y (suc n) e = elim (at_more xs x y n e) [
  | inl h ↦ inl (omega (arith, h.0), h.1)
  | inr h ↦ inr (ap suc h.0, h.1)
]

-- the step that a node is at
abbrev pub step_of : Partial → StepRows
step_of p = record { header = p.header; rel = p.rel }

-- ---- one step more

module _ (def : Definition) (f : Fragment) where
  pub grown_first : (before : List StepRows) (p : Partial) → before ≡ [] → IsMade def f 0 p → IsGrown def f before p
  grown_first before p e made = subst (λ b. IsGrown def f b p) (sym e) (record {
    there = omega arith;
    each = λ n s at. absurd (cc);
    some = λ n s at none. absurd (cc);
    made = made;
  })

  pub grown_more : (before : List StepRows) (p q : Partial) → IsGrown def f before p → (p.rel ≡ [] → ⊥) → length before + 1 ≤ children_count f → IsMade def f (length before + 1) q → IsGrown def f (before ++ step_of p ∷ []) q
  grown_more before p q grown rows there made = record {
    there = let e = length-append before (step_of p ∷ []) in omega arith;
    each = λ n t at. elim (at_more before (step_of p) t n at) [
      | inl h ↦ grown.each n t h.1
      | inr h ↦ subst (λ (x : StepRows). IsStep def f n x.header x.rel) (sym h.1) (subst (λ m. IsStep def f m p.header p.rel) (sym h.0) grown.made.step)
    ];
    some = λ n t at none. elim (at_more before (step_of p) t n at) [
      | inl h ↦ grown.some n t h.1 none
      | inr h ↦ rows (sym (ap (λ (x : StepRows). x.rel) h.1) ∙ none)
    ];
    made = subst (λ n. IsMade def f n q) (sym (length-append before (step_of p ∷ []))) made;
  }

-- what is known of the node with the first i children, by what is known of it with none
pub record IsGrownTo (def : Definition) (children : List SummaryParts) (first : Partial) (before : List StepRows) (last : Partial) (i : ℕ) : Type 0 where
  pub many : length before ≡ i
  pub grown : (f : Fragment) → Grows def f children → IsMade def f 0 first → IsGrown def f before last
  pub partial : (kind : Kind) → IsPartial def kind (kinds_of children) first → IsPartial def kind (kinds_of (drop i children)) last

pub none_grown : (def : Definition) (children : List SummaryParts) (first : Partial) (before : List StepRows) → before ≡ [] → IsGrownTo def children first before first 0
none_grown def children first before e = record { many = ap length e; grown = λ f grows is. grown_first def f before first e is; partial = λ kind part. part }

module _ (def : Definition) (children : List SummaryParts) (first : Partial) (before : List StepRows) (last : Partial) (i : ℕ) (to : IsGrownTo def children first before last i) (s : SummaryParts) (at : slice_get children i ≡ Some s) where
  pub last_partial : (kind : Kind) → IsPartial def kind (kinds_of children) first → IsPartial def kind (s.kind ∷ kinds_of (drop (i + 1) children)) last
  last_partial kind part = subst (λ l. IsPartial def kind (kinds_of l) last) (drop_there children i s at) (to.partial kind part)

  module _ (sound : IsSound def) (kind : Kind) (part : IsPartial def kind (kinds_of children) first) (f : Fragment) (grows : Grows def f children) (is : IsMade def f 0 first) where
    now_made : IsMade def f i last
    now_made = subst (λ n. IsMade def f n last) to.many (to.grown f grows is).made

    now_there : i + 1 ≤ children_count f
    now_there =
        let lt = slice_get_within children i s at in
        let many = grows.count in
        omega arith

    pub more_wide : (h : Header) (rows : List (List Term)) → IsAdded def last s h rows → PassesLimit rows → IsFirstPassing def f (i + 1)
    more_wide h rows added passes =
        wide_more def f sound.signature i last h rows now_there now_made (grows.next i s at kind last (last_partial kind part) now_made h rows added) passes

    pub more_grown : (q : Partial) → (last.rel ≡ [] → ⊥) → IsAdded def last s q.header q.rel → (PassesLimit q.rel → ⊥) → IsGrown def f (before ++ step_of last ∷ []) q
    more_grown q rows added light =
        let more = made_more def f sound.signature i last q now_there now_made (grows.next i s at kind last (last_partial kind part) now_made q.header q.rel added) light in
        grown_more def f before last q (to.grown f grows is) rows (subst (λ n. n + 1 ≤ children_count f) (sym to.many) now_there)
        (subst (λ n. IsMade def f (n + 1) q) (sym to.many) more)

-- ---- faults

pub made_fault : (def : Definition) (f : Fragment) (n : ℕ) (e : EvalFault) → MatchMade def f n (Err e) → MatchGrown def f (Err e)
made_fault def f n (faults.Wide k) h = h
made_fault def f n faults.Memory h = tt

pub grown_fault : (def : Definition) (f : Fragment) (e : EvalFault) → MatchGrown def f (Err e) → MatchSteps def f (Err e)
grown_fault def f (faults.Wide k) h = h
grown_fault def f faults.Memory h = tt

pub step_fault : (def : Definition) (f : Fragment) (n : ℕ) (e : EvalFault) → MatchMade def f n (Err e) → MatchSteps def f (Err e)
step_fault def f n (faults.Wide k) h = h
step_fault def f n faults.Memory h = tt

-- ---- all steps

module _ (def : Definition) (f : Fragment) (before : List StepRows) (last : Partial) (grown : IsGrown def f before last) where
  open_step : (n : ℕ) (s : StepRows) → slice_get (before ++ step_of last ∷ []) n ≡ Some s → IsStepOf def f n s
  open_step n s at = elim (at_more before (step_of last) s n at) [
    | inl h ↦ adding (let lt = h.0 in let there = grown.there in omega arith) (grown.each n s h.1)
    | inr h ↦ subst (λ x. IsStepOf def f n x) (sym h.1) (subst (λ m. IsStepOf def f m (step_of last)) (sym h.0) (adding grown.there grown.made.step))
  ]

  open_within : (n : ℕ) (s : StepRows) → slice_get (before ++ step_of last ∷ []) n ≡ Some s → PassesLimit s.rel → ⊥
  open_within n s at passes = elim (at_more before (step_of last) s n at) [
    | inl h ↦
        let lt = h.0 in
        let there = grown.there in
        grown.made.light n (omega arith) (step_wide def f n s.header s.rel (omega arith) (grown.each n s h.1) passes)
    | inr h ↦ grown.made.light (length before) (omega arith)
        (step_wide def f (length before) last.header last.rel grown.there grown.made.step (subst (λ (x : StepRows). PassesLimit x.rel) h.1 passes))
  ]

  open_ended : (n : ℕ) (s : StepRows) → slice_get (before ++ step_of last ∷ []) n ≡ Some s → s.rel ≡ [] → length (before ++ step_of last ∷ []) ≡ n + 1
  open_ended n s at none = elim (at_more before (step_of last) s n at) [
    | inl h ↦ absurd (grown.some n s h.1 none)
    | inr h ↦ length-append before (step_of last ∷ []) ∙ ap (λ m. m + 1) (sym h.0)
  ]

  pub open_steps : (is_scope def f ≡ false) ⊎ (last.rel ≡ []) → (length before ≡ children_count f) ⊎ (last.rel ≡ []) → AreSteps def f (before ++ step_of last ∷ [])
  open_steps over done = record { each = open_step; within = open_within; ended = open_ended; all = by over done } where
    empty : last.rel ≡ [] → (n : ℕ) × (s : StepRows) × (slice_get (before ++ step_of last ∷ []) n ≡ Some s) × (s.rel ≡ [])
    empty none = (length before, step_of last, slice_get-end before (step_of last), none)

    by : (is_scope def f ≡ false) ⊎ (last.rel ≡ []) → (length before ≡ children_count f) ⊎ (last.rel ≡ [])
        → (length (before ++ step_of last ∷ []) ≡ last_step def f + 1) ⊎ ((n : ℕ) × (s : StepRows) × (slice_get (before ++ step_of last ∷ []) n ≡ Some s) × (s.rel ≡ []))
    by (inr none) d = inr (empty none)
    by (inl unscoped) (inr none) = inr (empty none)
    by (inl unscoped) (inl many) =
        inl (length-append before (step_of last ∷ []) ∙ ap (λ m. m + 1) (many ∙ sym (ap (λ b. cond b (children_count f + 1) (children_count f)) unscoped)))

  module _ (parts : HasParts def f []) (scope : is_scope def f ≡ true) (many : length before ≡ children_count f) where
    inside : IsInside def f last.header last.rel
    inside = whole_inside def f last.header last.rel parts (subst (λ n. IsStep def f n last.header last.rel) many grown.made.step)

    pub closing_wide : (h : Header) (rows : List (List Term)) → IsClosed def last h rows → PassesLimit rows → IsFirstPassing def f (length before + 1)
    closing_wide h rows is passes = record {
      there = subst (λ b. length before + 1 ≤ cond b (children_count f + 1) (children_count f)) (sym scope) (let m = many in omega arith);
      passes = close_passes def f (length before + 1) is.sorts rows (ap (λ n. n + 1) many) scope (close_ok def f scope last.header h last.rel inside is.region is.sorts rows is.made) passes;
      first = λ k lt. grown.made.light k (omega arith);
    }

    module _ (rows : last.rel ≡ [] → ⊥) where
      abbrev opened : List StepRows
      opened = before ++ step_of last ∷ []

      opened_many : length opened ≡ children_count f + 1
      opened_many = length-append before (step_of last ∷ []) ∙ ap (λ n. n + 1) many

      opened_some : (n : ℕ) (s : StepRows) → slice_get opened n ≡ Some s → s.rel ≡ [] → ⊥
      opened_some n s at none = elim (at_more before (step_of last) s n at) [
        | inl h ↦ grown.some n s h.1 none
        | inr h ↦ rows (sym (ap (λ (x : StepRows). x.rel) h.1) ∙ none)
      ]

      pub closed_steps : (q : Partial) → IsClosed def last q.header q.rel → (PassesLimit q.rel → ⊥) → AreSteps def f ((before ++ step_of last ∷ []) ++ step_of q ∷ [])
      closed_steps q is light = record {
        each = λ n s at. elim (at_more opened (step_of q) s n at) [
          | inl h ↦ open_step n s h.1
          | inr h ↦ subst (λ x. IsStepOf def f n x) (sym h.1)
              (closing (h.0 ∙ opened_many) scope (closed_whole def f scope last.header q.header last.rel inside is.region)
              (is.sorts, close_ok def f scope last.header q.header last.rel inside is.region is.sorts q.rel is.made))
        ];
        within = λ n s at passes. elim (at_more opened (step_of q) s n at) [
          | inl h ↦ open_within n s h.1 passes
          | inr h ↦ light (subst (λ (x : StepRows). PassesLimit x.rel) h.1 passes)
        ];
        ended = λ n s at none. elim (at_more opened (step_of q) s n at) [
          | inl h ↦ absurd (opened_some n s h.1 none)
          | inr h ↦ length-append opened (step_of q ∷ []) ∙ ap (λ m. m + 1) (sym h.0)
        ];
        all = inl (length-append opened (step_of q ∷ []) ∙ ap (λ m. m + 1) (opened_many ∙ sym (ap (λ b. cond b (children_count f + 1) (children_count f)) scope)));
      }

-- ---- the children of a node, and of a cell

pub node_grows : (def : Definition) (sound : IsSound def) (f : Fragment) → HasParts def f [] → (children : List SummaryParts) → AreSummariesOf def f children → Grows def f children
node_grows def sound f parts children all = record {
  count = sym (count_is def f [] parts ∙ as_many def (children_of f) children all);
  next = λ n s at kind p part made h rows added.
      let found = child_at def (children_of f) children all n s at in
      let same = as_many def (children_of f) children all in
      let kept = length-map (drop (n + 1) children) (λ (x : SummaryParts). x.kind) in
      let left = length-drop (n + 1) children in
      let lt = slice_get_within children n s at in
      let many : length (s.kind ∷ kinds_of (drop (n + 1) children)) ≡ length (children_of f) - n = omega arith in
      added_step def f parts sound.signature n found.0 found.1 kind (kinds_of (drop (n + 1) children)) p s many part found.2 made h rows added;
}

module _ (def : Definition) (l : ℕ) (e r : Fragment) (element rest : SummaryParts) (of_list : rest.kind ≡ kinds.List l) (one : IsSummaryOf def e element) (two : IsSummaryOf def r rest) where
  next_of : (n : ℕ) (s : SummaryParts) → slice_get (element ∷ rest ∷ []) n ≡ Some s → (kind : Kind) (p : Partial)
      → IsPartial def kind (s.kind ∷ kinds_of (drop (n + 1) (element ∷ rest ∷ []))) p → IsMade def (cell l e r) n p
      → (h : Header) (rows : List (List Term)) → IsAdded def p s h rows → IsStep def (cell l e r) (n + 1) h rows
  next_of zero s at kind p part made h rows added =
      cell_one def l e r kind p s rest.kind part (subst (IsSummaryOf def e) (same_Some element s at) one) made.step h rows added
  next_of (suc zero) s at kind p part made h rows added =
      cell_two def l e r kind p s (list_no_scope def l r (subst (IsOfKind def r) of_list two.kind)) part (subst (IsSummaryOf def r) (same_Some rest s at) two) made.step h rows added
  next_of (suc (suc n)) s at kind p part made h rows added = absurd (cc)

  pub cell_grows : Grows def (cell l e r) (element ∷ rest ∷ [])
  cell_grows = record { count = refl; next = next_of }

-- ---- the ends

pub not_false : (b : Bool) → (b ≡ false → ⊥) → b ≡ true
not_false true h = refl
not_false false h = absurd (h refl)

-- after the last child none is wanted
pub done_partial : (def : Definition) (children : List SummaryParts) (kind : Kind) (before : List StepRows) (last : Partial) → (length before ≡ length children) ⊎ (last.rel ≡ []) → (last.rel ≡ [] → ⊥)
    → IsPartial def kind (kinds_of (drop (length before) children)) last → IsPartial def kind [] last
done_partial def children kind before last (inl e) rows part = subst (λ l. IsPartial def kind (kinds_of l) last) (drop_all (length before) children (omega arith)) part
done_partial def children kind before last (inr none) rows part = absurd (rows none)

-- all children are added, or there are no rows
pub done_all : (f : Fragment) (children : List SummaryParts) (before : List StepRows) (last : Partial) → length children ≡ children_count f → (length before ≡ length children) ⊎ (last.rel ≡ [])
    → (length before ≡ children_count f) ⊎ (last.rel ≡ [])
done_all f children before last many (inl e) = inl (e ∙ many)
done_all f children before last many (inr none) = inr none

pub over_open : (def : Definition) (f : Fragment) (b : Bool) (last : Partial) → is_scope def f ≡ b → (b ≡ false) ⊎ (last.rel ≡ []) → (is_scope def f ≡ false) ⊎ (last.rel ≡ [])
over_open def f b last scope (inl e) = inl (scope ∙ e)
over_open def f b last scope (inr none) = inr none

pub done_many : (f : Fragment) (before : List StepRows) (last : Partial) → (last.rel ≡ [] → ⊥) → (length before ≡ children_count f) ⊎ (last.rel ≡ []) → length before ≡ children_count f
done_many f before last rows (inl e) = e
done_many f before last rows (inr none) = absurd (rows none)
