-- A tree whose last step has rows is open.
use Rattle.std.proofs.Common.{◌≡◌, inl, inr, ℕ, zero, suc, ◌+◌, ◌-◌, Bool, true, false, cond, List, [], ◌∷◌, ◌++◌, length, Some, None, slice_get, refl, ap, sym, ◌∙◌, subst, arith}
use Rattle.std.proofs.lemmas.Option.{same_Some}
use Rattle.psg_terms.specs.Terms.{Term}
use Rattle.psg_grammar.specs.declared.types.Kind.{Kind}
use Rattle.psg_grammar.specs.declared.types.Definition.{Definition}
use Rattle.psg_grammar.specs.Fragments.{Fragment, hole, ending, cell, operator, with_child, with_name, with_number, with_text, anything, observed}
use Rattle.psg_grammar.specs.Lookups.{is_scope}
use Rattle.psg_grammar.specs.Open.{IsOpen}
use Rattle.psg_grammar.specs.Paths.{Path, node_at}
use Rattle.psg_grammar.specs.Relations.{IsInsideRelationOf}
use Rattle.psg_grammar.specs.Steps.{IsStepRelation, adding, children_count, closing, first_children, last_step}
use Rattle.psg_grammar.specs.WellFormed.{Fits, WellFormed}
use Rattle.psg_eval.proofs.Closing.{whole_relation}
use Rattle.psg_eval.proofs.RegionSteps.{all_children}
use Rattle.psg_cache.proofs.OpenTrees.{rows_open}
use Rattle.psg_cache.proofs.RealTrees.{IsReal, IsSpine, real}
use Rattle.psg_explain.specs.Plans.{Flow, Flows, Step, halted, planned, through}
use Rattle.psg_explain.specs.Relations.{AreRelations, HasRows, IsRelationAt, same_rows}
use Rattle.psg_explain.specs.Walks.{ended, went}
use Rattle.psg_explain.proofs.FormedParts.{all_parts}
use Rattle.psg_explain.proofs.PlanBlocks.{planned_blocks}
use Rattle.psg_explain.proofs.PlanFormed.{walked_of}
use Rattle.psg_explain.proofs.PlanLaws.{Rows, Then, flows_split}

last_split : (xs : List Step) (n : ℕ) (q : Step) → length xs ≡ n + 1 → slice_get xs n ≡ Some q → (front : List Step) × (xs ≡ front ++ q ∷ [])
last_split [] n q e h = absurd (cc)
last_split (x ∷ []) zero q e h = let d : x ≡ q = same_Some x q h in ([], ap (λ (y : Step). y ∷ []) d)
last_split (x ∷ []) (suc n) q e h = absurd (omega (arith, e))
last_split (x ∷ y ∷ xs) zero q e h = absurd (omega (arith, e))
last_split (x ∷ y ∷ xs) (suc n) q e h = let (front, is) = last_split (y ∷ xs) n q (omega (arith, e)) h in (x ∷ front, ap (λ (l : List Step). x ∷ l) is)

module _ (def : Definition) where
  spine_whole : (f : Fragment) (kind : Kind) → Fits def f [] kind → IsSpine f → first_children (children_count f) f ≡ f
  spine_whole f kind fits spine = all_children def f (all_parts def f kind fits spine)

  pub count_whole : (f : Fragment) (kind : Kind) → WellFormed def f kind → IsReal f → first_children (children_count f) f ≡ f
  count_whole (hole p) kind h r = refl
  count_whole (ending l u) kind h r = refl
  count_whole (cell l e v) kind h r = refl
  count_whole (operator o) kind h r = spine_whole (operator o) kind h.0 tt
  count_whole (with_child f t) kind h r = spine_whole (with_child f t) kind h.0 r.2
  count_whole (with_name f n) kind h r = spine_whole (with_name f n) kind h.0 r.1
  count_whole (with_number f n) kind h r = spine_whole (with_number f n) kind h.0 r.1
  count_whole (with_text f n) kind h r = spine_whole (with_text f n) kind h.0 r.1
  count_whole anything kind h r = absurd r
  count_whole (observed f) kind h r = absurd r

  pub last_open : (f : Fragment) (kind : Kind) → WellFormed def f kind → (rows : List (List Term)) → IsStepRelation def f (last_step def f) rows → (rows ≡ [] → ⊥) → IsOpen def f
  last_open f kind formed rows h some = by (is_scope def f) refl h
    where
      is_real : IsReal f
      is_real = real def f (kind, formed)

      by : (b : Bool) → is_scope def f ≡ b → IsStepRelation def f (cond b (children_count f + 1) (children_count f)) rows → IsOpen def f
      by true e (adding n r le is) = absurd (omega (arith, le))
      by true e (closing n r at scope rel) = rows_open def f is_real rows rel some
      by false e (adding n r le is) =
          let (sorts, rel) = subst (λ g. IsInsideRelationOf def g rows) (count_whole f kind formed is_real) is in
          rows_open def f is_real rows (sorts, whole_relation def f sorts rows e rel) some
      by false e (closing n r at scope rel) = let d : false ≡ true = sym e ∙ scope in absurd (cc)

  -- the last of the steps has rows
  pub through_last : (front : List Step) (q : Step) (now : List Rows) (all : List Rows) (more : List Rows) → Flows def same_rows (IsRelationAt def) now (front ++ q ∷ []) all (through more [])
      → (r : Rows) × IsStepRelation def q.part q.number r × (r ≡ [] → ⊥)
  through_last front q now all more h = last (flows_split def same_rows (IsRelationAt def) front (q ∷ []) now all (through more []) h)
    where
      one : (later : List Rows) (left : List Rows) → Flows def same_rows (IsRelationAt def) later (q ∷ []) left (through more []) → (r : Rows) × IsStepRelation def q.part q.number r × (r ≡ [] → ⊥)
      one later [] (v, none, on) = absurd none
      one later ([] ∷ left) (ended at, (is, e), on) = absurd (cc)
      one later ([] ∷ left) (went rows rest, (is, (over, e)), on) = absurd (cc)
      one later ((x ∷ r) ∷ left) (v, (is, e), on) = (x ∷ r, is, λ none. cc)

      last : (m : Flow Rows) × Flows def same_rows (IsRelationAt def) now front all m × Then m (λ later left u. Flows def same_rows (IsRelationAt def) later (q ∷ []) left u) (through more [])
          → (r : Rows) × IsStepRelation def q.part q.number r × (r ≡ [] → ⊥)
      last (through later left, flow, on) = one later left on
      last (halted at, flow, on) = absurd (cc)

  -- where the tree is not open, the relations of its steps end with one without rows
  pub closed_relations : (root : Fragment) (path : Path) (node : Fragment) (kind : Kind) → WellFormed def node kind → node_at root path ≡ Some node → (IsOpen def node → ⊥) → (all : List Rows) → HasRows def path node all
      → AreRelations def path node all
  closed_relations root path node kind formed there not_open all (inl (over, relations)) = relations
  closed_relations root path node kind formed there not_open all (inr (some, flows)) =
      let steps : List Step = planned def 0 path node in
      let plan = planned_blocks def root node path [] None 0 refl kind formed (walked_of def node kind formed.0 formed.1) there in
      let (q, at, part, number) = plan.ends in
      let many = plan.some in
      let (front, split) = last_split steps (length steps - 1) q (omega (arith, many)) at in
      let (r, is, full) = through_last front q [] all all (subst (λ (l : List Step). Flows def same_rows (IsRelationAt def) [] l all (through all [])) split flows) in
      let of_node : IsStepRelation def node q.number r = subst (λ g. IsStepRelation def g q.number r) part is in
      absurd (not_open (last_open node kind formed r (subst (λ n. IsStepRelation def node n r) number of_node) full))
