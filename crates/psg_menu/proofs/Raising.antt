-- What the evaluation of a rung says of the node above.
use Rattle.std.proofs.Common.{◌≡◌, ℕ, zero, suc, ◌+◌, List, [], ◌∷◌, ◌++◌, length, slice_get, Some, refl, sym, ◌∙◌, subst, arith}
use Rattle.psg_terms.proofs.Lists.{in_right}
use Rattle.std.specs.Prelude.{IfOk, Result, Ok, Err}
use Rattle.psg_terms.specs.Names.{Name}
use Rattle.psg_terms.specs.Relations.{first}
use Rattle.psg_grammar.specs.declared.types.Kind.{Kind}
use Rattle.psg_grammar.specs.declared.types.Kind.TheVariants as kinds
use Rattle.psg_grammar.specs.declared.types.Operator.{Operator}
use Rattle.psg_grammar.specs.declared.types.Definition.{Definition}
use Rattle.psg_grammar.specs.Fragments.{Fragment, cell, children_of}
use Rattle.psg_grammar.specs.Paths.{Path}
use Rattle.psg_grammar.specs.Steps.{Place, own_steps, steps_at, AreWithin}
use Rattle.psg_eval.specs.declared.summary.EvalFault.{EvalFault}
use Rattle.psg_eval.specs.declared.summary.EvalFault.TheVariants as faults
use Rattle.psg_eval.specs.declared.summary.SummaryParts.{SummaryParts}
use Rattle.psg_eval.specs.Climbing.{IsReached}
use Rattle.psg_eval.specs.Frames.{AllSummariesBut}
use Rattle.psg_eval.specs.Summaries.{Answers, IsSummaryOf}
use Rattle.psg_eval.specs.Trees.{IsNode}
use Rattle.psg_menu.specs.declared.entries.Entry.{Entry}
use Rattle.psg_menu.specs.Sharing.{Rise, of_node, of_first, of_before, IsRaised, IsRaisedTo, TakesRise}
use Rattle.psg_menu.proofs.WideTrees.{own_from, own_to}
use Rattle.psg_menu.proofs.Ways.{node_steps}

module _ (def : Definition) where
  answered : (u : Fragment) (result : Result SummaryParts EvalFault) → Answers def u result → IsRaisedTo def u result
  answered u (Ok s) h = h
  answered u (Err (faults.Wide step)) h = (step, h.there, h.passes)
  answered u (Err faults.Memory) h = tt

  -- of a list from its first element
  pub raised_first : (l : ℕ) (rest own : SummaryParts) (result : Result SummaryParts EvalFault)
      → ((e r : Fragment) → IsSummaryOf def e own → IsSummaryOf def r rest → Answers def (cell l e r) result) → IsRaised def (of_first l rest) own result
  raised_first l rest own result answer u v (r, same, is) of = subst (λ x. IsRaisedTo def x result) (sym same) (answered (cell l v r) result (answer v r of is))

  -- and from its rest
  pub raised_before : (l : ℕ) (element own : SummaryParts) (result : Result SummaryParts EvalFault)
      → ((e r : Fragment) → IsSummaryOf def e element → IsSummaryOf def r own → Answers def (cell l e r) result) → IsRaised def (of_before l element) own result
  raised_before l element own result answer u v (e, same, is, whole) of = subst (λ x. IsRaisedTo def x result) (sym same) (answered (cell l e v) result (answer e v is of))

  reached : (u : Fragment) (places : List Place) (result : Result SummaryParts EvalFault) → places ≡ own_steps def [] u → IsReached def places u result → IsRaisedTo def u result
  reached u places (Ok s) e (is, within) = (is, λ k le passes. let (place, i, p) = own_to def [] u (k, le, passes) in subst (AreWithin def) e within place i p)
  reached u places (Err (faults.Wide step)) e (place, h, same) =
      own_from def [] u (place, subst (λ l. Rattle.psg_terms.specs.Relations.IsIn place l) (sym h.split ∙ e) (in_right place h.front (place ∷ h.rest) first), h.passes)
  reached u places (Err faults.Memory) e h = tt

  -- of an operator's node
  pub raised_node : (op : ℕ) (names : List Name) (children : List SummaryParts) (hot : ℕ) (own : SummaryParts) (result : Result SummaryParts EvalFault)
      → ((u t : Fragment) (path : Path) (k : ℕ) → IsNode def op names u → k ≡ hot → slice_get (children_of u) k ≡ Some t → AllSummariesBut def k (children_of u) children → IsSummaryOf def t own
      → IsReached def (steps_at def path k u) u result) → IsRaised def (of_node op names children hot) own result
  raised_node op names children hot own result answer u v (node, at, but) of =
      reached u (steps_at def [] hot u) result (node_steps def [] hot op u node.top) (answer u v [] hot node refl at but of)

-- ---- kinds, and values that are seen

if_map : (result : Result SummaryParts EvalFault) (P Q : SummaryParts → Type 0) → ((s : SummaryParts) → P s → Q s) → IfOk result P → IfOk result Q
if_map (Ok s) P Q f h = f s h
if_map (Err fault) P Q f h = tt

module _ (def : Definition) (own : SummaryParts) (result : Result SummaryParts EvalFault) where
  -- the summary is of the kind that the evaluation leads to
  abbrev pub HasKindAbove : Rise → Type 0
  HasKindAbove rise = IfOk result (λ (s : SummaryParts). (above : Kind) → TakesRise def rise own above → s.kind ≡ above)

  pub node_kind : (op : ℕ) (names : List Name) (children : List SummaryParts) (hot : ℕ)
      → IfOk result (λ (s : SummaryParts). (o : Operator) → slice_get def.operators op ≡ Some o → s.kind ≡ kinds.Phylum o.phylum) → HasKindAbove (of_node op names children hot)
  node_kind op names children hot h =
      if_map result (λ (s : SummaryParts). (o : Operator) → slice_get def.operators op ≡ Some o → s.kind ≡ kinds.Phylum o.phylum)
      (λ (s : SummaryParts). (above : Kind) → TakesRise def (of_node op names children hot) own above → s.kind ≡ above)
      (λ s k above (inside, silent, takes, o, found, same). k o found ∙ sym same) h

  pub first_kind : (l : ℕ) (rest : SummaryParts) → IfOk result (λ (s : SummaryParts). s.kind ≡ kinds.List l) → HasKindAbove (of_first l rest)
  first_kind l rest h =
      if_map result (λ (s : SummaryParts). s.kind ≡ kinds.List l) (λ (s : SummaryParts). (above : Kind) → TakesRise def (of_first l rest) own above → s.kind ≡ above)
      (λ s k above (cells, silent, same). k ∙ sym same) h

  pub before_kind : (l : ℕ) (element : SummaryParts) → IfOk result (λ (s : SummaryParts). s.kind ≡ kinds.List l) → HasKindAbove (of_before l element)
  before_kind l element h =
      if_map result (λ (s : SummaryParts). s.kind ≡ kinds.List l) (λ (s : SummaryParts). (above : Kind) → TakesRise def (of_before l element) own above → s.kind ≡ above)
      (λ s k above (cells, silent, same). k ∙ sym same) h

  pub first_seen : (rest : SummaryParts) → rest.seen ≡ 0 → IfOk result (λ (s : SummaryParts). s.seen ≡ own.seen + rest.seen) → IfOk result (λ (s : SummaryParts). s.seen ≡ own.seen)
  first_seen rest none h = if_map result (λ (s : SummaryParts). s.seen ≡ own.seen + rest.seen) (λ (s : SummaryParts). s.seen ≡ own.seen) (λ s k. omega (arith, k, none)) h

  pub before_seen : (element : SummaryParts) → element.seen ≡ 0 → IfOk result (λ (s : SummaryParts). s.seen ≡ element.seen + own.seen) → IfOk result (λ (s : SummaryParts). s.seen ≡ own.seen)
  before_seen element none h = if_map result (λ (s : SummaryParts). s.seen ≡ element.seen + own.seen) (λ (s : SummaryParts). s.seen ≡ own.seen) (λ s k. omega (arith, k, none)) h

-- ---- one more entry

pub kept_get : (xs : List Entry) (e : Entry) (k : ℕ) (d : Entry) → slice_get xs k ≡ Some d → slice_get (xs ++ e ∷ []) k ≡ Some d
kept_get [] e k d h = absurd (cc)
kept_get (x ∷ xs) e zero d h = h
kept_get (x ∷ xs) e (suc k) d h = kept_get xs e k d h

pub last_get : (xs : List Entry) (e : Entry) → slice_get (xs ++ e ∷ []) (length xs) ≡ Some e
last_get [] e = refl
last_get (x ∷ xs) e = last_get xs e
