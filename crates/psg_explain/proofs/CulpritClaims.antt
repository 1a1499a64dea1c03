-- The relations of the first culprit's steps may be claimed of them.
use Rattle.std.proofs.Common.{◌≡◌, ◌↔◌, ℕ, ◌+◌, ◌≤◌, Bool, true, false, cond, List, [], ◌∷◌, ◌++◌, Some, slice_get, refl, sym, subst, arith}
use Rattle.std.specs.List.{AllByRecursion}
use Rattle.psg_terms.specs.Names.{has_twice}
use Rattle.psg_terms.proofs.Lists.{each_at}
use Rattle.psg_grammar.specs.declared.types.Definition.{Definition}
use Rattle.psg_grammar.specs.declared.types.Kind.{Kind}
use Rattle.psg_grammar.specs.Fragments.{Fragment, children_of}
use Rattle.psg_grammar.specs.Legal.{IsCompletable}
use Rattle.psg_grammar.specs.Lookups.{is_scope}
use Rattle.psg_grammar.specs.Open.{IsOpen}
use Rattle.psg_grammar.specs.Paths.{Path}
use Rattle.psg_grammar.specs.Regions.{IsDistinct, declared_inside}
use Rattle.psg_grammar.specs.Relations.{IsInsideRelationOf, IsRelationOf}
use Rattle.psg_grammar.specs.Sound.{IsSound}
use Rattle.psg_grammar.specs.Steps.{IsStepRelation, adding, children_count, closing, first_children, last_step}
use Rattle.psg_grammar.specs.WellFormed.{WellFormed}
use Rattle.psg_eval.proofs.Closing.{whole_relation}
use Rattle.psg_cache.specs.Annotated.{Annotated, tree_in}
use Rattle.psg_cache.specs.Notes.{IsFormed, IsNoteOf}
use Rattle.psg_cache.proofs.RealTrees.{real}
use Rattle.psg_explain.specs.Claiming.{AreCoverable, MayClaim, MayClaimAll}
use Rattle.psg_explain.specs.Explanations.{IsFirstCulprit}
use Rattle.psg_explain.specs.Given.{first_cases, last_cases, next_cases}
use Rattle.psg_explain.specs.Plans.{Flows, Origin, Step, at_of, cases_from, from_before, from_itself, from_pair, halted, lefts_of, planned, rights_of, rows_at}
use Rattle.psg_explain.specs.Refutations.{AreClaimed}
use Rattle.psg_explain.specs.Relations.{AreRelations, IsRelationAt, same_rows}
use Rattle.psg_explain.specs.Walks.{At, ended, went}
use Rattle.psg_explain.proofs.DistinctSteps.{AreOnce, below_distinct, planned_once}
use Rattle.psg_explain.proofs.ExplainLaws.{culprit_formed, open_children}
use Rattle.psg_explain.proofs.FairLaws.{added_count, fair_next}
use Rattle.psg_explain.proofs.OpenEnds.{count_whole}
use Rattle.psg_explain.proofs.PlanFormed.{walked_of}
use Rattle.psg_explain.proofs.PlanLaws.{IsWalked, Rows}
use Rattle.psg_explain.proofs.PlanSources.{AreKnown, AreSourced, IsSourced, IsSourcedBy, comes_ended, comes_went, known_more, planned_sourced, there_within}
use Rattle.psg_explain.proofs.StepCovers.{closed_covered, first_covered, next_covered}
use Rattle.psg_explain.proofs.StepSorts.{step_claimed}
use Rattle.psg_explain.proofs.Theorem.{added_formed}
use Rattle.psg_explain.proofs.Walking.{added_children}

-- ---- what the relation of a step is

module _ (def : Definition) where
  -- a step up to the last child
  inside_of : (f : Fragment) (n : ℕ) (rows : Rows) → n ≤ children_count f → IsStepRelation def f n rows → IsInsideRelationOf def (first_children n f) rows
  inside_of f n rows le (adding m more within rel) = rel
  inside_of f n rows le (closing m more e scope rel) = absurd (omega (arith, e, le))

  -- the step after the last child
  closed_of : (f : Fragment) (n : ℕ) (rows : Rows) → n ≡ children_count f + 1 → IsStepRelation def f n rows → IsRelationOf def f rows
  closed_of f n rows e (adding m more within rel) = absurd (omega (arith, e, within))
  closed_of f n rows e (closing m more d scope rel) = rel

  -- the last step of a node
  whole_of : (f : Fragment) (kind : Kind) → WellFormed def f kind → (rows : Rows) → IsStepRelation def f (last_step def f) rows → IsRelationOf def f rows
  whole_of f kind formed rows h = by (is_scope def f) refl h
    where
      by : (b : Bool) → is_scope def f ≡ b → IsStepRelation def f (cond b (children_count f + 1) (children_count f)) rows → IsRelationOf def f rows
      by true e is = closed_of f (children_count f + 1) rows refl is
      by false e is =
          let (sorts, rel) = subst (λ (g : Fragment). IsInsideRelationOf def g rows) (count_whole def f kind formed (real def f (kind, formed))) (inside_of f (children_count f) rows (omega arith) is) in
          (sorts, whole_relation def f sorts rows e rel)

-- ---- the relation of one step

module _ (def : Definition) (sound : IsSound def) where
  module _ (f : Fragment) (kind : Kind) (formed : WellFormed def f kind) where
    walked : IsWalked f
    walked = walked_of def f kind formed.0 formed.1

    itself_covered : has_twice (declared_inside def f) ≡ false → (n : ℕ) (rows : Rows) → n ≡ 0 → IsStepRelation def f n rows → AreCoverable rows (first_cases def f)
    itself_covered once n rows e is =
        let (sorts, rel) = inside_of def f 0 rows (omega arith) (subst (λ (m : ℕ). IsStepRelation def f m rows) e is) in
        first_covered def sound rows sorts f kind formed.0 walked once rel

    closed_may : is_scope def f ≡ true → (before rows : Rows) → IsStepRelation def f (children_count f) before → (n : ℕ) → n ≡ children_count f + 1 → IsStepRelation def f n rows → AreCoverable rows (last_cases def f before)
    closed_may scope before rows was n e is =
        let (ss, inside) = subst (λ (g : Fragment). IsInsideRelationOf def g before) (count_whole def f kind formed (real def f (kind, formed))) (inside_of def f (children_count f) before (omega arith) was) in
        let (sorts, rel) = closed_of def f n rows e is in
        closed_covered def sound rows sorts f kind formed.0 formed.1 scope before ss inside rel

    pair_may : has_twice (declared_inside def f) ≡ false → (t : Fragment) (m : ℕ) → slice_get (added_children f) m ≡ Some t → (before others rows : Rows) → IsStepRelation def f m before → IsStepRelation def t (last_step def t) others
        → (n : ℕ) → n ≡ m + 1 → IsStepRelation def f n rows → AreCoverable rows (next_cases def f m t before others)
    pair_may once t m at before others rows was is_child n e is =
        let (inner, of_child) = each_at (IsFormed def) (added_children f) (added_formed def f (kind, formed)) m t at in
        let left = step_claimed def sound f kind formed.0 formed.1 walked m before was in
        let right = step_claimed def sound t inner of_child.0 of_child.1 (walked_of def t inner of_child.0 of_child.1) (last_step def t) others is_child in
        let fair = fair_next def f kind m t inner before others formed of_child at left right in
        let within = there_within (added_children f) m t at in
        let count = added_count def f kind formed in
        let (left_sorts, one) = inside_of def f m before (omega (arith, within, count)) was in
        let (right_sorts, two) = whole_of def t inner of_child others is_child in
        let (sorts, rel) = inside_of def f (m + 1) rows (omega (arith, within, count)) (subst (λ (k : ℕ). IsStepRelation def f k rows) e is) in
        next_covered def sound rows sorts f kind formed.0 formed.1 t m inner of_child at once left_sorts right_sorts before others one two rel fair

  -- what is known of the rows of the steps before
  abbrev IsTrueOf : Step → Rows → Type 0
  IsTrueOf s rows = IsStepRelation def s.part s.number rows

  true_keeps : (rows : List Rows) (s : Step) (x : Rows) → IsRelationAt def (at_of def rows s) x → IsTrueOf s x
  true_keeps rows s x is = is

  abbrev Known : List Step → List Rows → Type 0
  Known before rows = AreKnown def same_rows (IsRelationAt def) IsTrueOf true_keeps before rows

  moved : (f g : Fragment) (n m : ℕ) (r : Rows) → f ≡ g → n ≡ m → IsStepRelation def f n r → IsStepRelation def g m r
  moved f g n m r e d h = subst (λ (x : Fragment). IsStepRelation def x m r) e (subst (λ (k : ℕ). IsStepRelation def f k r) d h)

  step_covered : (before : List Step) (rows : List Rows) → Known before rows → (r : Rows) (f : Fragment) (n : ℕ) (o : Origin) → IsFormed def f → has_twice (declared_inside def f) ≡ false → IsSourcedBy def before f n o → IsStepRelation def f n r
      → AreCoverable r (cases_from def f o (lefts_of def o rows) (rights_of def o rows))
  step_covered before rows known r f n from_itself (kind, formed) once h is = itself_covered f kind formed once n r h is
  step_covered before rows known r f n (from_before b) (kind, formed) once (p, at, part, number, scope, e) is =
      closed_may f kind formed scope (rows_at rows b) r (moved p.part f p.number (children_count f) (rows_at rows b) part number (known.1 b p at)) n e is
  step_covered before rows known r f n (from_pair m b c t) (kind, formed) once (p, at, part, number, (q, there, of, last), child, e) is =
      pair_may f kind formed once t m child (rows_at rows b) (rows_at rows c) r (moved p.part f p.number m (rows_at rows b) part number (known.1 b p at))
      (moved q.part t q.number (last_step def t) (rows_at rows c) of last (known.1 c q there)) n e is

  step_may : (before : List Step) (rows : List Rows) (s : Step) (r : Rows) → Known before rows → IsSourced def before s → has_twice (declared_inside def s.part) ≡ false → IsStepRelation def s.part s.number r → MayClaim def rows s r
  step_may before rows s r known sourced once is = record {
    are = claimed sourced.formed;
    covered = step_covered before rows known r s.part s.number s.origin sourced.formed once sourced.by is;
  }
    where
      claimed : IsFormed def s.part → AreClaimed def s.part s.number r
      claimed (kind, formed) = step_claimed def sound s.part kind formed.0 formed.1 (walked_of def s.part kind formed.0 formed.1) s.number r is

  -- ---- the relations of all steps

  may_all : (steps before : List Step) (rows all : List Rows) (last : At) → Known before rows → AreSourced def before steps → AreOnce def steps → Flows def same_rows (IsRelationAt def) rows steps all (halted last) → MayClaimAll def rows steps all
  may_all steps before rows [] last known sourced once flow = tt
  may_all [] before rows (x ∷ left) last known sourced once flow = absurd (cc)
  may_all (s ∷ steps) before rows (x ∷ left) last known (one, sourced) (o, once) (went more rest, (is, c), on) =
      let (a, b) = comes_went def same_rows (IsRelationAt def) (at_of def rows s) x left more rest c in
      let next : Known (before ++ s ∷ []) (rows ++ x ∷ []) = known_more def same_rows (IsRelationAt def) IsTrueOf true_keeps before rows s x known is in
      let flow : Flows def same_rows (IsRelationAt def) (rows ++ x ∷ []) steps left (halted last) =
      subst (λ (l : List Rows). Flows def same_rows (IsRelationAt def) (rows ++ x ∷ []) steps l (halted last)) b (subst (λ (r : Rows). Flows def same_rows (IsRelationAt def) (rows ++ r ∷ []) steps rest (halted last)) a on) in
      (step_may before rows s x known one o is, may_all steps (before ++ s ∷ []) (rows ++ x ∷ []) left last next sourced once flow)
  may_all (s ∷ steps) before rows (x ∷ left) last known (one, sourced) (o, once) (ended other, (is, c), on) =
      let (a, b, d) = comes_ended def same_rows (IsRelationAt def) (at_of def rows s) x left other c in
      (step_may before rows s x known one o is, subst (MayClaimAll def (rows ++ x ∷ []) steps) (sym b) tt)

-- ---- the first culprit

module _ (def : Definition) where
  each_distinct : (ts : List Fragment) → AllByRecursion (IsOpen def) ts → AllByRecursion (IsDistinct def) ts
  each_distinct [] h = tt
  each_distinct (t ∷ ts) (one, h) = (one.distinct, each_distinct ts h)

  -- the relations of its steps, where it declares no key twice
  pub may_claim_culprit : (note : Annotated) → IsSound def → IsNoteOf def (tree_in note) note → (path : Path) (node : Fragment) → IsFirstCulprit def (tree_in note) path node
      → ((g : Fragment) (kind : Kind) → WellFormed def g kind → IsOpen def g ↔ IsCompletable def g) → (rows : List Rows) → AreRelations def path node rows → has_twice (declared_inside def node) ≡ false
      → MayClaimAll def [] (planned def 0 path node) rows
  may_claim_culprit note sound is path node culprit exact rows (last, flow) once = by (culprit_formed def note is path node culprit)
    where
      by : IsFormed def node → MayClaimAll def [] (planned def 0 path node) rows
      by (kind, formed) =
          let distinct = each_distinct (children_of node) (open_children def (tree_in note) is.formed path node culprit (kind, formed) exact) in
          let all_once = planned_once def 0 path node (walked_of def node kind formed.0 formed.1) once (below_distinct def node distinct) in
          may_all def sound (planned def 0 path node) [] [] rows last (refl, λ k p h. absurd (cc)) (planned_sourced def (tree_in note) path node kind formed culprit.there) all_once flow
