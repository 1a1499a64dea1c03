-- A replaced node and the nodes above it are the whole difference.
use Rattle.std.proofs.Common.{◌≡◌, inl, inr, ℕ, zero, suc, ◌+◌, Bool, false, cond, [], ◌∷◌, ◌++◌, length, slice_get, Some, refl, sym, ◌∙◌, ap, subst, arith}
use Rattle.std.specs.Prelude.{option_map, unwrap_or}
use Rattle.std.proofs.lemmas.Bool.Decides.{eqb_tells}
use Rattle.std.proofs.lemmas.Option.{none-some, same_Some}
use Rattle.psg_grammar.proofs.PathLaws.{step}
use Rattle.psg_terms.proofs.Lists.{slice_get-end_is, slice_get-not_end}
use Rattle.psg_grammar.specs.Fragments.{Fragment, hole, ending, cell, operator, with_child, with_name, with_number, with_text, anything, observed, children_of}
use Rattle.psg_grammar.specs.Paths.{Path, node_at, change_child, put_child, replaced}
use Rattle.psg_grammar.specs.Same.{same_tree}
use Rattle.psg_grammar.specs.Work.{climb_of, leaving}
use Rattle.psg_cache.specs.Diff.{diff_of}
use Rattle.psg_cache.proofs.CulpritLaws.{real_children}
use Rattle.psg_cache.proofs.DiffLaws.{list-diff, node-diff, same-put}
use Rattle.psg_cache.proofs.Each.{each_got}
use Rattle.psg_cache.proofs.RealTrees.{IsReal}

-- a child that is changed is put
pub change-put : (g : Fragment → Fragment) (f : Fragment) (k : ℕ) (c : Fragment) → slice_get (children_of f) k ≡ Some c
    → change_child g k f ≡ put_child (g c) k f
change-put g (hole p) k c at = refl
change-put g (ending l u) k c at = refl
change-put g (cell l e r) zero c at = let same : e ≡ c = cc in ap (λ x. cell l (g x) r) same
change-put g (cell l e r) (suc k) c at = ap (cell l e) (change-put g r k c at)
change-put g (operator o) k c at = refl
change-put g (with_child f t) k c at =
    let B : Bool → Type 0 =
    λ b. cond b (with_child f (g t)) (with_child (change_child g k f) t)
    ≡ cond b (with_child f (g c)) (with_child (put_child (g c) k f) t) in
    elim (eqb_tells (length (children_of f)) k) [
      | inl e ↦
          let there = subst (λ n. slice_get (children_of f ++ t ∷ []) n ≡ Some c) (sym e.1) at in
          let same : c ≡ t = slice_get-end_is (children_of f) t c there in
          subst B (sym e.0) (ap (λ x. with_child f (g x)) (sym same))
      | inr e ↦
          subst B (sym e.0) (ap (λ x. with_child x t) (change-put g f k c (slice_get-not_end (children_of f) t c k e.1 at)))
    ]
change-put g (with_name f n) k c at = ap (λ x. with_name x n) (change-put g f k c at)
change-put g (with_number f n) k c at = ap (λ x. with_number x n) (change-put g f k c at)
change-put g (with_text f n) k c at = ap (λ x. with_text x n) (change-put g f k c at)
change-put g anything k c at = refl
change-put g (observed f) k c at = ap observed (change-put g f k c at)

-- a changed child takes the evaluations of its node more
child-diff : (new c : Fragment) → same_tree c new ≡ false → (f : Fragment) → IsReal f → (k : ℕ)
    → slice_get (children_of f) k ≡ Some c → diff_of f (put_child new k f) ≡ diff_of c new + leaving f k
child-diff new c differs (cell l e r) is k at =
    let h = list-diff new c differs (cell l e r) is tt k at in
    let one : suc k ≡ k + 1 = omega arith in h ∙ ap (λ n. diff_of c new + n) one
child-diff new c differs (hole p) is k at = absurd (none-some c at)
child-diff new c differs (ending l u) is k at = absurd (none-some c at)
child-diff new c differs (operator o) is k at = absurd (none-some c at)
child-diff new c differs (with_child f t) is k at = node-diff new c differs (with_child f t) is is.2 k at
child-diff new c differs (with_name f n) is k at = node-diff new c differs (with_name f n) is is.1 k at
child-diff new c differs (with_number f n) is k at = node-diff new c differs (with_number f n) is is.1 k at
child-diff new c differs (with_text f n) is k at = node-diff new c differs (with_text f n) is is.1 k at
child-diff new c differs anything is k at = absurd is
child-diff new c differs (observed f) is k at = absurd is

-- the difference is that of the node and the evaluations above it
pub climb_diff : (path : Path) (f : Fragment) → IsReal f → (node new : Fragment) → node_at f path ≡ Some node
    → same_tree node new ≡ false
    → (diff_of f (replaced path new f) ≡ diff_of node new + climb_of f path)
    × (same_tree f (replaced path new f) ≡ false)
climb_diff [] f is node new at differs =
    let same : node ≡ f = sym (same_Some f node at) in (
      (let z : diff_of node new ≡ diff_of node new + 0 = omega arith in ap (λ x. diff_of x new) (sym same) ∙ z),
      ap (λ x. same_tree x new) (sym same) ∙ differs,
    )
climb_diff (k ∷ path) f is node new at differs =
    let (c, child, below) = step (slice_get (children_of f) k) path node at in
    let real_child : IsReal c = each_got IsReal (children_of f) k c (real_children f is) child in
    let h = climb_diff path c real_child node new below differs in
    let inner : Fragment = replaced path new c in
    let made : replaced (k ∷ path) new f ≡ put_child inner k f = change-put (replaced path new) f k c child in
    let whole = child-diff inner c h.1 f is k child in
    let climb : climb_of f (k ∷ path) ≡ leaving f k + climb_of c path =
    ap (λ o. leaving f k + unwrap_or (option_map (λ t. climb_of t path) o) 0) child in
    let sum : diff_of f (put_child inner k f) ≡ diff_of node new + climb_of f (k ∷ path) =
    (let a = h.0 in omega (arith, a, whole, climb)) in (
      ap (diff_of f) made ∙ sum,
      ap (same_tree f) made ∙ same-put inner c f is k child ∙ h.1,
    )
