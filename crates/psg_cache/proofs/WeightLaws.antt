-- A tree has one weight, since it has one relation.
use Rattle.std.proofs.Common.{◌≡◌, ℕ, ◌+◌, ◌≤◌, List, [], ◌∷◌, ◌++◌, refl, sym, subst, arith}
use Rattle.psg_terms.specs.Terms.{Term}
use Rattle.psg_terms.specs.Signature.{Signature}
use Rattle.psg_terms.specs.Sound.{IsSound as IsSoundSignature}
use Rattle.psg_terms.specs.Relations.{IsRelation}
use Rattle.psg_terms.specs.Weight.{symbols_of, weight_of}
use Rattle.psg_terms.proofs.OneRelation.{same_rows}
use Rattle.std.specs.Prelude.{sum_by}
use Rattle.psg_relation.proofs.Weights.{sum-some}
use Rattle.psg_grammar.specs.declared.types.Definition.{Definition}
use Rattle.psg_grammar.specs.Sound.{IsSound}
use Rattle.psg_grammar.specs.Fragments.{Fragment, hole, ending, cell, operator, with_child, with_name, with_number, with_text, anything, observed, children_of}
use Rattle.psg_grammar.specs.Relations.{IsPossible, IsRelationOf}
use Rattle.psg_grammar.specs.Steps.{HasWeights, of_node, BelowWeigh, below_hole, below_ending, below_operator, below_cell, below_child, below_name, below_number, below_text, below_observed, IsHeavy}
use Rattle.psg_grammar.specs.declared.limits.TheConstants.{MOST_WEIGHTS}
use Rattle.psg_cache.specs.Walks.{WeighTogether}
use Rattle.psg_cache.proofs.RealTrees.{IsReal, IsSpine}

-- two relations of one family weigh the same
weights_same : (sig : Signature) → IsSoundSignature sig → {C : Type 0} (Possible : C → List Term → Type 0) (ss rs : List ℕ) (rows others : List (List Term))
    → IsRelation sig ss Possible rows → IsRelation sig rs Possible others → weight_of rows ≡ weight_of others
weights_same sig sound Possible ss rs rows others rel other =
    let a = sum-some (sum_by symbols_of) rows others rel.once (same_rows sig sound Possible ss rs rows others rel other) in
    let b = sum-some (sum_by symbols_of) others rows other.once (same_rows sig sound Possible rs ss others rows other rel) in
    omega arith

module _ (def : Definition) (sound : IsSound def) where
  relation_weight : (f : Fragment) (rows others : List (List Term)) → IsRelationOf def f rows
      → IsRelationOf def f others → weight_of rows ≡ weight_of others
  relation_weight f rows others (ss, rel) (rs, other) =
      weights_same def.signature sound.signature (IsPossible def f) ss rs rows others rel other

  mutual
    pub weights_once : {f : Fragment} {n k : ℕ} → HasWeights def f n → HasWeights def f k → n ≡ k
    weights_once {f} (of_node m rows b r) (of_node l others c s) =
        let e : m ≡ l = below_once b c in
        let w = relation_weight f rows others r s in
        omega arith

    below_once : {f : Fragment} {n k : ℕ} → BelowWeigh def f n → BelowWeigh def f k → n ≡ k
    below_once below_hole below_hole = refl
    below_once below_ending below_ending = refl
    below_once below_operator below_operator = refl
    below_once (below_cell m n a b) (below_cell k l c d) =
        let p : m ≡ k = weights_once a c in let q : n ≡ l = weights_once b d in omega arith
    below_once (below_child m n a b) (below_child k l c d) =
        let p : m ≡ k = below_once a c in let q : n ≡ l = weights_once b d in omega arith
    below_once (below_name a) (below_name b) = below_once a b
    below_once (below_number a) (below_number b) = below_once a b
    below_once (below_text a) (below_text b) = below_once a b
    below_once (below_observed a) (below_observed b) = below_once a b

  pub not_heavy : (f : Fragment) (n : ℕ) → HasWeights def f n → n ≤ MOST_WEIGHTS → IsHeavy def f → ⊥
  not_heavy f n h l (m, k, more) = let e : n ≡ m = weights_once h k in omega arith

module _ (def : Definition) where
  pub weigh-push : (cs : List Fragment) (c : Fragment) (n k : ℕ) → WeighTogether def cs n → HasWeights def c k
      → WeighTogether def (cs ++ c ∷ []) (n + k)
  weigh-push [] c n k h w = let e : n + k ≡ k + 0 = omega arith in (k, 0, w, refl, e)
  weigh-push (d ∷ cs) c n k (m, l, first, rest, e) w =
      let s : n + k ≡ m + (l + k) = omega arith in (m, l + k, first, weigh-push cs c l k rest w, s)

  weigh-last : (cs : List Fragment) (c : Fragment) (n : ℕ) → WeighTogether def (cs ++ c ∷ []) n
      → (m : ℕ) × (k : ℕ) × WeighTogether def cs m × HasWeights def c k × (n ≡ m + k)
  weigh-last [] c n (m, k, first, rest, e) = let s : n ≡ 0 + m = omega arith in (0, m, refl, first, s)
  weigh-last (d ∷ cs) c n (m, l, first, rest, e) =
      let (a, b, front, last, s) = weigh-last cs c l rest in
      let t : n ≡ (m + a) + b = omega arith in
      let u : m + a ≡ m + a = refl in
      (m + a, b, (m, a, first, front, u), last, t)

  spine_weigh : (f : Fragment) → IsReal f → IsSpine f → (n : ℕ) → WeighTogether def (children_of f) n
      → BelowWeigh def f n
  spine_weigh (operator o) real s n h = subst (BelowWeigh def (operator o)) (sym h) below_operator
  spine_weigh (with_child f t) real s n h =
      let (m, k, front, last, e) = weigh-last (children_of f) t n h in
      subst (BelowWeigh def (with_child f t)) (sym e) (below_child m k (spine_weigh f real.0 s m front) last)
  spine_weigh (with_name f x) real s n h = below_name (spine_weigh f real.0 s n h)
  spine_weigh (with_number f x) real s n h = below_number (spine_weigh f real.0 s n h)
  spine_weigh (with_text f x) real s n h = below_text (spine_weigh f real.0 s n h)
  spine_weigh (hole p) real s n h = absurd s
  spine_weigh (ending l u) real s n h = absurd s
  spine_weigh (cell l e r) real s n h = absurd s
  spine_weigh anything real s n h = absurd s
  spine_weigh (observed f) real s n h = absurd s

  -- the weight of an operator's node
  pub node_weighs : (f : Fragment) → IsReal f → IsSpine f → (rows : List (List Term)) → IsRelationOf def f rows
      → (n : ℕ) → WeighTogether def (children_of f) n → HasWeights def f (n + weight_of rows)
  node_weighs f real s rows rel n h = of_node n rows (spine_weigh f real s n h) rel

  pub hole_weighs : (p : ℕ) (rows : List (List Term)) → IsRelationOf def (hole p) rows → (n : ℕ) → n ≡ 0
      → HasWeights def (hole p) (n + weight_of rows)
  hole_weighs p rows rel n e = of_node n rows (subst (BelowWeigh def (hole p)) (sym e) below_hole) rel

  pub end_weighs : (l : ℕ) (u : _) (rows : List (List Term)) → IsRelationOf def (ending l u) rows → (n : ℕ) → n ≡ 0
      → HasWeights def (ending l u) (n + weight_of rows)
  end_weighs l u rows rel n e = of_node n rows (subst (BelowWeigh def (ending l u)) (sym e) below_ending) rel

  pub cell_weighs : (l : ℕ) (e r : Fragment) (rows : List (List Term)) → IsRelationOf def (cell l e r) rows
      → (m n : ℕ) → HasWeights def e m → HasWeights def r n → HasWeights def (cell l e r) (m + n + weight_of rows)
  cell_weighs l e r rows rel m n a b = of_node (m + n) rows (below_cell m n a b) rel
