-- The difference that a changed child makes.
use Rattle.std.proofs.Common.{◌≡◌, inl, inr, ℕ, zero, suc, ◌+◌, Bool, true, false, cond, [], ◌∷◌, ◌++◌, length, slice_get, Some, refl, sym, ◌∙◌, ap, subst, arith}
use Rattle.std.specs.Prelude.{◌==◌, ◌&&◌}
use Rattle.std.proofs.lemmas.Bool.Decides.{eqb_tells}
use Rattle.std.proofs.lemmas.Option.{none-some}
use Rattle.psg_terms.proofs.Lists.{eqb-refl, beq-refl, slice_get-end_is, slice_get-not_end}
use Rattle.psg_grammar.specs.Fragments.{Fragment, hole, ending, cell, operator, with_child, with_name, with_number, with_text, anything, observed, children_of, top_operator}
use Rattle.psg_grammar.specs.Paths.{put_child, IsList}
use Rattle.psg_terms.proofs.DeclareLaws.{bytes_eq-refl}
use Rattle.psg_cache.proofs.RealTrees.{IsReal, IsSpine}
use Rattle.psg_grammar.specs.Same.{same_tree}
use Rattle.psg_cache.specs.Diff.{agree, diff_below, diff_cells, diff_of, diff_with, last_differing, list_number, place_before, same_some}
use Rattle.psg_grammar.specs.Work.{work_of}
use Rattle.psg_grammar.proofs.SameLaws.{same-refl}

pub diff-same : (f : Fragment) (n : ℕ) → diff_with f f n ≡ 0
diff-same f n =
    ap (λ b. cond b 0 (cond (same_some (top_operator f) (top_operator f)) (n + 1)
    (cond (same_some (list_number f) (list_number f)) (n + diff_cells f f) (work_of f)))) (same-refl f)

pub below-same : (f : Fragment) → diff_below f f ≡ 0
below-same (hole p) = refl
below-same (ending l u) = refl
below-same (cell l e r) = let a = diff-same e (diff_below e e) in let b = below-same r in omega (arith, a, b)
below-same (operator o) = refl
below-same (with_child f t) = let a = below-same f in let b = diff-same t (diff_below t t) in omega (arith, a, b)
below-same (with_name f n) = below-same f
below-same (with_number f n) = below-same f
below-same (with_text f t) = below-same f
below-same anything = refl
below-same (observed f) = refl

and_true : (a b : Bool) → a ≡ true → (a && b) ≡ b
and_true true b e = refl
and_true false b e = absurd (cc)

and_last : (a b : Bool) → b ≡ true → (a && b) ≡ a
and_last true b e = e
and_last false b e = refl

module _ (new c : Fragment) where
  pub below-put : (f : Fragment) → IsReal f → (k : ℕ) → slice_get (children_of f) k ≡ Some c
      → diff_below f (put_child new k f) ≡ diff_of c new
  below-put (hole p) real k at = absurd (none-some c at)
  below-put (ending l u) real k at = absurd (none-some c at)
  below-put (cell l e r) real zero at =
      let same : c ≡ e = cc in
      subst (λ x. diff_of e new + diff_below r r ≡ diff_of x new) (sym same)
      (let z = below-same r in let g : diff_of e new + diff_below r r ≡ diff_of e new = omega (arith, z) in g)
  below-put (cell l e r) real (suc k) at =
      let z = diff-same e (diff_below e e) in
      let h = below-put r real.1 k at in
      let g : diff_of e e + diff_below r (put_child new k r) ≡ diff_of c new = omega (arith, z, h) in g
  below-put (operator o) real k at = absurd (none-some c at)
  below-put (with_child f t) real k at =
      let B : Bool → Type 0 =
      λ b. diff_below (with_child f t) (cond b (with_child f new) (with_child (put_child new k f) t)) ≡ diff_of c new in
      elim (eqb_tells (length (children_of f)) k) [
        | inl e ↦
            let there = subst (λ n. slice_get (children_of f ++ t ∷ []) n ≡ Some c) (sym e.1) at in
            let same : c ≡ t = slice_get-end_is (children_of f) t c there in
            let z = below-same f in
            let g : diff_below f f + diff_of t new ≡ diff_of t new = omega (arith, z) in
            subst B (sym e.0) (subst (λ x. diff_below f f + diff_of t new ≡ diff_of x new) (sym same) g)
        | inr e ↦
            let h = below-put f real.0 k (slice_get-not_end (children_of f) t c k e.1 at) in
            let z = diff-same t (diff_below t t) in
            let g : diff_below f (put_child new k f) + diff_of t t ≡ diff_of c new = omega (arith, z, h) in
            subst B (sym e.0) g
      ]
  below-put (with_name f n) real k at = below-put f real.0 k at
  below-put (with_number f n) real k at = below-put f real.0 k at
  below-put (with_text f t) real k at = below-put f real.0 k at
  below-put anything real k at = absurd real
  below-put (observed f) real k at = absurd real

  -- equal, where the child is
  pub same-put : (f : Fragment) → IsReal f → (k : ℕ) → slice_get (children_of f) k ≡ Some c
      → same_tree f (put_child new k f) ≡ same_tree c new
  same-put (hole p) real k at = absurd (none-some c at)
  same-put (ending l u) real k at = absurd (none-some c at)
  same-put (cell l e r) real zero at =
      let same : c ≡ e = cc in
      and_true (l == l) (same_tree e new && same_tree r r) (eqb-refl l) ∙ and_last (same_tree e new) (same_tree r r) (same-refl r)
      ∙ ap (λ x. same_tree x new) (sym same)
  same-put (cell l e r) real (suc k) at =
      and_true (l == l) (same_tree e e && same_tree r (put_child new k r)) (eqb-refl l)
      ∙ and_true (same_tree e e) (same_tree r (put_child new k r)) (same-refl e) ∙ same-put r real.1 k at
  same-put (operator o) real k at = absurd (none-some c at)
  same-put (with_child f t) real k at =
      let B : Bool → Type 0 =
      λ b. same_tree (with_child f t) (cond b (with_child f new) (with_child (put_child new k f) t)) ≡ same_tree c new in
      elim (eqb_tells (length (children_of f)) k) [
        | inl e ↦
            let there = subst (λ n. slice_get (children_of f ++ t ∷ []) n ≡ Some c) (sym e.1) at in
            let same : c ≡ t = slice_get-end_is (children_of f) t c there in
            subst B (sym e.0) (and_true (same_tree f f) (same_tree t new) (same-refl f) ∙ ap (λ x. same_tree x new) (sym same))
        | inr e ↦
            subst B (sym e.0) (and_last (same_tree f (put_child new k f)) (same_tree t t) (same-refl t)
            ∙ same-put f real.0 k (slice_get-not_end (children_of f) t c k e.1 at))
      ]
  same-put (with_name f n) real k at = and_last (same_tree f (put_child new k f)) _ (bytes_eq-refl n) ∙ same-put f real.0 k at
  same-put (with_number f n) real k at = and_last (same_tree f (put_child new k f)) (n == n) (eqb-refl n) ∙ same-put f real.0 k at
  same-put (with_text f t) real k at = and_last (same_tree f (put_child new k f)) _ (bytes_eq-refl t) ∙ same-put f real.0 k at
  same-put anything real k at = absurd real
  same-put (observed f) real k at = absurd real

  top-put : (f : Fragment) → IsSpine f → (k : ℕ) → same_some (top_operator f) (top_operator (put_child new k f)) ≡ true
  top-put (operator o) s k = eqb-refl o
  top-put (with_child f t) s k =
      let B : Bool → Type 0 =
      λ b. same_some (top_operator f) (top_operator (cond b (with_child f new) (with_child (put_child new k f) t))) ≡ true in
      elim (eqb_tells (length (children_of f)) k) [ inl e ↦ subst B (sym e.0) (itself f s) | inr e ↦ subst B (sym e.0) (top-put f s k) ] where
        itself : (f : Fragment) → IsSpine f → same_some (top_operator f) (top_operator f) ≡ true
        itself (operator o) s = eqb-refl o
        itself (with_child f t) s = itself f s
        itself (with_name f n) s = itself f s
        itself (with_number f n) s = itself f s
        itself (with_text f t) s = itself f s
        itself (hole p) s = absurd s
        itself (ending l u) s = absurd s
        itself (cell l e r) s = absurd s
        itself anything s = absurd s
        itself (observed f) s = absurd s
  top-put (with_name f n) s k = top-put f s k
  top-put (with_number f n) s k = top-put f s k
  top-put (with_text f t) s k = top-put f s k
  top-put (hole p) s k = absurd s
  top-put (ending l u) s k = absurd s
  top-put (cell l e r) s k = absurd s
  top-put anything s k = absurd s
  top-put (observed f) s k = absurd s

  module _ (differs : same_tree c new ≡ false) where
    -- a changed child of an operator takes one more
    pub node-diff : (f : Fragment) → IsReal f → IsSpine f → (k : ℕ) → slice_get (children_of f) k ≡ Some c
        → diff_of f (put_child new k f) ≡ diff_of c new + 1
    node-diff f real spine k at =
        let g : Fragment = put_child new k f in
        let below : ℕ = diff_below f g in
        let list : ℕ = cond (same_some (list_number f) (list_number g)) (below + diff_cells f g) (work_of g) in
        ap (λ b. cond b 0 (cond (same_some (top_operator f) (top_operator g)) (below + 1) list)) (same-put f real k at ∙ differs)
        ∙ ap (λ b. cond b (below + 1) list) (top-put f spine k)
        ∙ ap (λ n. n + 1) (below-put f real k at)

    agree-same : (f : Fragment) → IsReal f → IsList f → agree f f ≡ true
    agree-same (ending l u) real list = beq-refl u
    agree-same (cell l e r) real list = agree-same r real.1 real.2
    agree-same (hole p) real list = absurd list
    agree-same (operator o) real list = absurd list
    agree-same (with_child f t) real list = absurd list
    agree-same (with_name f n) real list = absurd list
    agree-same (with_number f n) real list = absurd list
    agree-same (with_text f t) real list = absurd list
    agree-same anything real list = absurd list
    agree-same (observed f) real list = absurd list

    last-same : (f : Fragment) → last_differing f f ≡ 0
    last-same (cell l e r) =
        ap (λ b. place_before b (last_differing r r)) (same-refl e) ∙ ap (place_before true) (last-same r)
    last-same (hole p) = refl
    last-same (ending l u) = refl
    last-same (operator o) = refl
    last-same (with_child f t) = refl
    last-same (with_name f n) = refl
    last-same (with_number f n) = refl
    last-same (with_text f t) = refl
    last-same anything = refl
    last-same (observed f) = refl

    -- the cells up to a changed element are made anew
    cells-put : (f : Fragment) → IsReal f → IsList f → (k : ℕ) → slice_get (children_of f) k ≡ Some c
        → (agree f (put_child new k f) ≡ true) × (last_differing f (put_child new k f) ≡ suc k)
    cells-put (ending l u) real list k at = absurd (none-some c at)
    cells-put (cell l e r) real list zero at =
        let same : e ≡ c = cc in (
          agree-same r real.1 real.2,
          ap (λ b. place_before b (last_differing r r)) (ap (λ x. same_tree x new) same ∙ differs) ∙ ap (place_before false) (last-same r),
        )
    cells-put (cell l e r) real list (suc k) at =
        let h = cells-put r real.1 real.2 k at in (
          h.0,
          ap (λ b. place_before b (last_differing r (put_child new k r))) (same-refl e) ∙ ap (place_before true) h.1,
        )
    cells-put (hole p) real list k at = absurd list
    cells-put (operator o) real list k at = absurd list
    cells-put (with_child f t) real list k at = absurd list
    cells-put (with_name f n) real list k at = absurd list
    cells-put (with_number f n) real list k at = absurd list
    cells-put (with_text f t) real list k at = absurd list
    cells-put anything real list k at = absurd list
    cells-put (observed f) real list k at = absurd list

    -- a changed element of a list takes the cells up to it more
    pub list-diff : (f : Fragment) → IsReal f → IsList f → (k : ℕ) → slice_get (children_of f) k ≡ Some c
        → diff_of f (put_child new k f) ≡ diff_of c new + suc k
    list-diff f real list k at =
        let g : Fragment = put_child new k f in
        let below : ℕ = diff_below f g in
        let cells = cells-put f real list k at in
        let kept = kept_list f list k in
        ap (λ b. cond b 0 (cond (same_some (top_operator f) (top_operator g)) (below + 1)
        (cond (same_some (list_number f) (list_number g)) (below + diff_cells f g) (work_of g)))) (same-put f real k at ∙ differs)
        ∙ ap (λ b. cond b (below + 1) (cond (same_some (list_number f) (list_number g)) (below + diff_cells f g) (work_of g))) kept.0
        ∙ ap (λ b. cond b (below + diff_cells f g) (work_of g)) kept.1
        ∙ ap (λ b. below + cond b (last_differing f g) (length (children_of g) + 1)) cells.0
        ∙ ap (λ n. below + n) cells.1
        ∙ ap (λ n. n + suc k) (below-put f real k at) where
          kept_list : (f : Fragment) → IsList f → (k : ℕ)
              → (same_some (top_operator f) (top_operator (put_child new k f)) ≡ false) × (same_some (list_number f) (list_number (put_child new k f)) ≡ true)
          kept_list (ending l u) list k = (refl, eqb-refl l)
          kept_list (cell l e r) list zero = (refl, eqb-refl l)
          kept_list (cell l e r) list (suc k) = (refl, eqb-refl l)
          kept_list (hole p) list k = absurd list
          kept_list (operator o) list k = absurd list
          kept_list (with_child f t) list k = absurd list
          kept_list (with_name f n) list k = absurd list
          kept_list (with_number f n) list k = absurd list
          kept_list (with_text f t) list k = absurd list
          kept_list anything list k = absurd list
          kept_list (observed f) list k = absurd list
