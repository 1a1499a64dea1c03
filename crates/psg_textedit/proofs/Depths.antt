-- How deep a tree is with another one in place of a node.
use Rattle.std.proofs.Common.{◌≡◌, inl, inr, Bool, cond, ℕ, zero, suc, ◌+◌, ◌<◌, ◌≤◌, max, [], ◌∷◌, ◌++◌, length, slice_get, Option, Some, refl, ap, sym, ◌∙◌, subst, arith, length-append}
use Rattle.std.proofs.lemmas.Bool.Decides.{eqb_tells}
use Rattle.std.proofs.lemmas.Option.{none-some, slice_get_within}
use Rattle.psg_grammar.specs.declared.types.Definition.{Definition}
use Rattle.psg_grammar.specs.Fragments.{Fragment, hole, ending, cell, operator, with_child, with_name, with_number, with_text, anything, observed, children_of}
use Rattle.psg_grammar.specs.Paths.{Path, node_at, change_at, change_child, replaced}
use Rattle.psg_grammar.specs.Sizes.{depth_of}
use Rattle.psg_grammar.proofs.PathLaws.{got_front, got_next, step}
use Rattle.psg_textedit.specs.Laws.{DepthOfChange}

-- the depth with a child changed is at least that of the child and one, and no more than that or the old depth
pub record Between (low high d : ℕ) : Type 0 where
  pub at_least : low ≤ d
  pub at_most : d ≤ max high low

one_of : (c t : Fragment) (o : Option Fragment) → o ≡ Some c → o ≡ Some t → c ≡ t
one_of c t o e f = let both : Some c ≡ Some t = sym e ∙ f in cc

changed : (g : Fragment → Fragment) (f : Fragment) (k : ℕ) (t : Fragment) → slice_get (children_of f) k ≡ Some t
    → Between (depth_of (g t) + 1) (depth_of f) (depth_of (change_child g k f))
changed g (hole p) k t s = absurd (none-some t s)
changed g (ending l u) k t s = absurd (none-some t s)
changed g (cell l e r) zero t s =
    let same : depth_of (g e) ≡ depth_of (g t) = ap (λ x. depth_of (g x)) (one_of e t (Some e) refl s) in
    record { at_least = omega (arith, same); at_most = omega (arith, same) }
changed g (cell l e r) (suc k) t s =
    let h = changed g r k t s in
    record { at_least = omega (arith, h.at_least); at_most = omega (arith, h.at_most) }
changed g (operator o) k t s = absurd (none-some t s)
changed g (with_child f c) k t s =
    let n : length (children_of f ++ c ∷ []) ≡ length (children_of f) + 1 = length-append (children_of f) (c ∷ []) in
    let w : k < length (children_of f ++ c ∷ []) = slice_get_within (children_of f ++ c ∷ []) k t s in
    let At : Bool → Type 0 =
    λ b. Between (depth_of (g t) + 1) (depth_of (with_child f c))
    (depth_of (cond b (with_child f (g c)) (with_child (change_child g k f) c))) in
    elim (eqb_tells (length (children_of f)) k) [
      | inl q ↦
          let one : c ≡ t = one_of c t (slice_get (children_of f ++ c ∷ []) k) (got_next (children_of f) c k q.1) s in
          let same : depth_of (g c) ≡ depth_of (g t) = ap (λ x. depth_of (g x)) one in
          let is : Between (depth_of (g t) + 1) (depth_of (with_child f c)) (depth_of (with_child f (g c))) =
          record { at_least = omega (arith, same); at_most = omega (arith, same) } in
          subst At (sym q.0) is
      | inr q ↦
          let m : k < length (children_of f) = omega (arith, n, w, q.1) in
          let front : slice_get (children_of f) k ≡ Some t = sym (got_front (children_of f) (c ∷ []) k m) ∙ s in
          let h = changed g f k t front in
          let is : Between (depth_of (g t) + 1) (depth_of (with_child f c)) (depth_of (with_child (change_child g k f) c)) =
          record { at_least = omega (arith, h.at_least); at_most = omega (arith, h.at_most) } in
          subst At (sym q.0) is
    ]
changed g (with_name f n) k t s = changed g f k t s
changed g (with_number f n) k t s = changed g f k t s
changed g (with_text f n) k t s = changed g f k t s
changed g anything k t s = absurd (none-some t s)
changed g (observed f) k t s = changed g f k t s

-- a child is less deep than its parent
pub child_low : (f : Fragment) (k : ℕ) (t : Fragment) → slice_get (children_of f) k ≡ Some t → depth_of t + 1 ≤ depth_of f
child_low (hole p) k t s = absurd (none-some t s)
child_low (ending l u) k t s = absurd (none-some t s)
child_low (cell l e r) zero t s =
    let same : depth_of e ≡ depth_of t = ap depth_of (one_of e t (Some e) refl s) in omega (arith, same)
child_low (cell l e r) (suc k) t s = omega (arith, child_low r k t s)
child_low (operator o) k t s = absurd (none-some t s)
child_low (with_child f c) k t s =
    let n : length (children_of f ++ c ∷ []) ≡ length (children_of f) + 1 = length-append (children_of f) (c ∷ []) in
    let w : k < length (children_of f ++ c ∷ []) = slice_get_within (children_of f ++ c ∷ []) k t s in
    elim (eqb_tells (length (children_of f)) k) [
      | inl q ↦
          let one : c ≡ t = one_of c t (slice_get (children_of f ++ c ∷ []) k) (got_next (children_of f) c k q.1) s in
          let same : depth_of c ≡ depth_of t = ap depth_of one in
          omega (arith, same)
      | inr q ↦
          let m : k < length (children_of f) = omega (arith, n, w, q.1) in
          let front : slice_get (children_of f) k ≡ Some t = sym (got_front (children_of f) (c ∷ []) k m) ∙ s in
          omega (arith, child_low f k t front)
    ]
child_low (with_name f n) k t s = child_low f k t s
child_low (with_number f n) k t s = child_low f k t s
child_low (with_text f n) k t s = child_low f k t s
child_low anything k t s = absurd (none-some t s)
child_low (observed f) k t s = child_low f k t s

above : (whole child inside need path all : ℕ) → child + 1 ≤ whole → inside ≤ max child (path + need)
    → all ≤ max whole (inside + 1) → all ≤ max whole (suc path + need)
above whole child inside need path all a b c = omega (arith, a, b, c)

below : (inside need path all : ℕ) → path + need ≤ inside → inside + 1 ≤ all → suc path + need ≤ all
below inside need path all a b = omega (arith, a, b)

pub deep : (new : Fragment) (path : Path) (f node : Fragment) → node_at f path ≡ Some node
    → Between (length path + depth_of new) (depth_of f) (depth_of (replaced path new f))
deep new [] f node e =
    let same : 0 + depth_of new ≡ depth_of new = omega arith in
    record { at_least = omega (arith, same); at_most = omega (arith, same) }
deep new (k ∷ path) f node e =
    let (t, at, further) = step (slice_get (children_of f) k) path node e in
    let inner = deep new path t node further in
    let outer = changed (change_at (λ old. new) path) f k t at in
    let all : ℕ = depth_of (change_child (change_at (λ old. new) path) k f) in
    record {
      at_least = below (depth_of (replaced path new t)) (depth_of new) (length path) all inner.at_least outer.at_least;
      at_most = above (depth_of f) (depth_of t) (depth_of (replaced path new t)) (depth_of new) (length path) all
          (child_low f k t at) inner.at_most outer.at_most;
    }

within_all : (limit old need all : ℕ) → old ≤ limit → need ≤ all → all ≤ max old need → (all ≤ limit) → (need ≤ limit)
within_all limit old need all a b c h = omega (arith, b, h)

all_within : (limit old need all : ℕ) → old ≤ limit → need ≤ all → all ≤ max old need → (need ≤ limit) → (all ≤ limit)
all_within limit old need all a b c h = omega (arith, a, c, h)

pub depth_of_change : (def : Definition) (f : Fragment) → DepthOfChange def f
depth_of_change def f limit h path t new e =
    let b = deep new path f t e in (
      within_all limit (depth_of f) (length path + depth_of new) (depth_of (replaced path new f)) h b.at_least b.at_most,
      all_within limit (depth_of f) (length path + depth_of new) (depth_of (replaced path new f)) h b.at_least b.at_most,
    )
