-- A tree in place of a node is no deeper than the whole.
use Rattle.std.proofs.Common.{◌≡◌, inl, inr, Bool, cond, ℕ, zero, suc, ◌+◌, ◌<◌, ◌≤◌, [], ◌∷◌, ◌++◌, length, slice_get, Some, refl, ap, sym, ◌∙◌, subst, arith, length-append}
use Rattle.std.proofs.lemmas.Bool.Decides.{eqb_tells}
use Rattle.std.proofs.lemmas.Option.{none-some, slice_get_within}
use Rattle.psg_grammar.specs.Fragments.{Fragment, hole, ending, cell, operator, with_child, with_name, with_number, with_text, anything, observed, children_of}
use Rattle.psg_grammar.specs.Paths.{Path, node_at, change_at, change_child, replaced}
use Rattle.psg_grammar.specs.Sizes.{depth_of}
use Rattle.psg_grammar.proofs.PathLaws.{got_front, got_next, step}
use Rattle.psg_session.proofs.StepLaws.{some_once}

-- a child that is put in is less deep
changed_deep : (g : Fragment → Fragment) (f : Fragment) (k : ℕ) (t : Fragment) → slice_get (children_of f) k ≡ Some t
    → depth_of (g t) + 1 ≤ depth_of (change_child g k f)
changed_deep g (hole p) k t s = absurd (none-some t s)
changed_deep g (ending l u) k t s = absurd (none-some t s)
changed_deep g (cell l e r) zero t s =
    let same : depth_of (g e) ≡ depth_of (g t) = ap (λ x. depth_of (g x)) (some_once e t (Some e) refl s) in
    omega (arith, same)
changed_deep g (cell l e r) (suc k) t s =
    let h : depth_of (g t) + 1 ≤ depth_of (change_child g k r) = changed_deep g r k t s in omega (arith, h)
changed_deep g (operator o) k t s = absurd (none-some t s)
changed_deep g (with_child f c) k t s =
    let n : length (children_of f ++ c ∷ []) ≡ length (children_of f) + 1 = length-append (children_of f) (c ∷ []) in
    let w : k < length (children_of f ++ c ∷ []) = slice_get_within (children_of f ++ c ∷ []) k t s in
    let Low : Bool → Type 0 =
    λ b. depth_of (g t) + 1 ≤ depth_of (cond b (with_child f (g c)) (with_child (change_child g k f) c)) in
    elim (eqb_tells (length (children_of f)) k) [
      | inl q ↦
          let one : c ≡ t =
          some_once c t (slice_get (children_of f ++ c ∷ []) k) (got_next (children_of f) c k q.1) s in
          let same : depth_of (g c) ≡ depth_of (g t) = ap (λ x. depth_of (g x)) one in
          let low : depth_of (g t) + 1 ≤ depth_of (with_child f (g c)) = omega (arith, same) in
          subst Low (sym q.0) low
      | inr q ↦
          let m : k < length (children_of f) = omega (arith, n, w, q.1) in
          let front : slice_get (children_of f) k ≡ Some t = sym (got_front (children_of f) (c ∷ []) k m) ∙ s in
          let deep : depth_of (g t) + 1 ≤ depth_of (change_child g k f) = changed_deep g f k t front in
          let low : depth_of (g t) + 1 ≤ depth_of (with_child (change_child g k f) c) = omega (arith, deep) in
          subst Low (sym q.0) low
    ]
changed_deep g (with_name f n) k t s = changed_deep g f k t s
changed_deep g (with_number f n) k t s = changed_deep g f k t s
changed_deep g (with_text f n) k t s = changed_deep g f k t s
changed_deep g anything k t s = absurd (none-some t s)
changed_deep g (observed f) k t s = changed_deep g f k t s

pub replaced_deep : (new : Fragment) (path : Path) (f node : Fragment) → node_at f path ≡ Some node
    → depth_of new ≤ depth_of (replaced path new f)
replaced_deep new [] f node e = omega arith
replaced_deep new (k ∷ path) f node e =
    let (t, at, further) = step (slice_get (children_of f) k) path node e in
    let inner : depth_of new ≤ depth_of (replaced path new t) = replaced_deep new path t node further in
    let outer : depth_of (replaced path new t) + 1 ≤ depth_of (change_child (change_at (λ old. new) path) k f) =
    changed_deep (change_at (λ old. new) path) f k t at in
    omega (arith, inner, outer)
