-- Changes that add nothing make no tree larger.
use Rattle.std.proofs.Common.{◌≡◌, inl, inr, Bool, cond, ℕ, zero, suc, ◌+◌, ◌<◌, ◌≤◌, [], ◌∷◌, ◌++◌, length, slice_get, Some, refl, sym, ◌∙◌, subst, arith, length-append}
use Rattle.std.proofs.lemmas.Bool.Decides.{eqb_tells}
use Rattle.std.proofs.lemmas.Option.{none-some, slice_get_within}
use Rattle.psg_terms.specs.Relations.{first}
use Rattle.psg_grammar.specs.declared.types.Kind.{Kind}
use Rattle.psg_grammar.specs.declared.types.Kind.TheVariants as kinds
use Rattle.psg_grammar.specs.declared.types.Definition.{Definition}
use Rattle.psg_grammar.specs.Fragments.{Fragment, hole, ending, cell, operator, with_child, with_name, with_number, with_text, anything, observed, children_of}
use Rattle.psg_grammar.specs.Insertion.{blank}
use Rattle.psg_grammar.specs.Paths.{Path, node_at, change_at, change_child, ended, removed, replaced}
use Rattle.psg_grammar.specs.Sizes.{depth_of, longest_of, nodes_of, IsBig, IsDeep}
use Rattle.psg_grammar.specs.Steps.{below_ending, below_hole, IsHeavy, IsWide, of_node}
use Rattle.psg_grammar.proofs.PathLaws.{got_front, got_next, step}
use Rattle.psg_cache.specs.Notes.{IsWithin}
use Rattle.psg_cache.proofs.LongLists.{long_lists}
use Rattle.psg_eval.proofs.Closing.{inside_relation}
use Rattle.psg_eval.proofs.Passing.{step_passes}
use Rattle.psg_session.specs.declared.judging.Trial.{Trial}
use Rattle.psg_session.specs.declared.judging.Trial.TheVariants.{Opens, Grows, Types, Closes, Loosens}
use Rattle.psg_session.specs.Shrinking.{IsNoLarger, IsSizedBy, IsSmallFor}
use Rattle.psg_session.proofs.StepLaws.{some_once}

-- the same, and the node has no more children
record IsLess (old new : Fragment) : Type 0 where
  depth : depth_of new ≤ depth_of old
  nodes : nodes_of new ≤ nodes_of old
  longest : longest_of new ≤ longest_of old
  children : length (children_of new) ≤ length (children_of old)

no_larger : (old new : Fragment) → IsLess old new → IsNoLarger old new
no_larger old new h = record { depth = h.depth; nodes = h.nodes; longest = h.longest }

same_less : (f : Fragment) → IsLess f f
same_less f = record {
  depth = omega arith;
  nodes = omega arith;
  longest = omega arith;
  children = omega arith;
}

-- ---- the changes of a node

-- a tree is no smaller than a leaf
leaf_nodes : (f : Fragment) → 1 ≤ nodes_of f
leaf_nodes (hole p) = omega arith
leaf_nodes (ending l u) = omega arith
leaf_nodes (cell l e r) = omega (arith, leaf_nodes r)
leaf_nodes (operator o) = omega arith
leaf_nodes (with_child f t) = omega (arith, leaf_nodes f)
leaf_nodes (with_name f n) = leaf_nodes f
leaf_nodes (with_number f n) = leaf_nodes f
leaf_nodes (with_text f t) = leaf_nodes f
leaf_nodes anything = omega arith
leaf_nodes (observed f) = leaf_nodes f

leaf_depth : (f : Fragment) → 1 ≤ depth_of f
leaf_depth (hole p) = omega arith
leaf_depth (ending l u) = omega arith
leaf_depth (cell l e r) = omega (arith, leaf_depth r)
leaf_depth (operator o) = omega arith
leaf_depth (with_child f t) = omega (arith, leaf_depth f)
leaf_depth (with_name f n) = leaf_depth f
leaf_depth (with_number f n) = leaf_depth f
leaf_depth (with_text f t) = leaf_depth f
leaf_depth anything = omega arith
leaf_depth (observed f) = leaf_depth f

blank_less : (def : Definition) (kind : Kind) (f : Fragment) → IsLess f (blank def kind)
blank_less def (kinds.Phylum p) f = record {
  depth = leaf_depth f;
  nodes = leaf_nodes f;
  longest = omega arith;
  children = omega arith;
}
blank_less def (kinds.List l) f = record {
  depth = leaf_depth f;
  nodes = leaf_nodes f;
  longest = omega arith;
  children = omega arith;
}

-- a cell with other elements behind it, which are no more
behind_less : (l : ℕ) (e r s : Fragment) → IsLess r s → IsLess (cell l e r) (cell l e s)
behind_less l e r s h = record {
  depth = omega (arith, h.depth);
  nodes = omega (arith, h.nodes);
  longest = omega (arith, h.longest, h.children);
  children = omega (arith, h.children);
}

ended_less : (u : Bool) (f : Fragment) → IsLess f (ended u f)
ended_less u (cell l e r) = behind_less l e r (ended u r) (ended_less u r)
ended_less u (ending l v) = record {
  depth = omega arith;
  nodes = omega arith;
  longest = omega arith;
  children = omega arith;
}
ended_less u (hole p) = same_less (hole p)
ended_less u (operator o) = same_less (operator o)
ended_less u (with_child f t) = same_less (with_child f t)
ended_less u (with_name f n) = same_less (with_name f n)
ended_less u (with_number f n) = same_less (with_number f n)
ended_less u (with_text f t) = same_less (with_text f t)
ended_less u anything = same_less anything
ended_less u (observed f) = same_less (observed f)

removed_less : (k : ℕ) (f : Fragment) → IsLess f (removed k f)
removed_less zero (cell l e r) = record {
  depth = omega arith;
  nodes = omega arith;
  longest = omega arith;
  children = omega arith;
}
removed_less (suc k) (cell l e r) = behind_less l e r (removed k r) (removed_less k r)
removed_less zero f = same_less f
removed_less (suc k) f = same_less f

-- ---- the same, anywhere in a tree

child_less : (g : Fragment → Fragment) (f : Fragment) (k : ℕ) (t : Fragment) → slice_get (children_of f) k ≡ Some t
    → IsLess t (g t) → IsLess f (change_child g k f)
child_less g (hole p) k t s h = absurd (none-some t s)
child_less g (ending l u) k t s h = absurd (none-some t s)
child_less g (cell l e r) zero t s h =
    let here : IsLess e (g e) = subst (λ x. IsLess x (g x)) (sym (some_once e t (Some e) refl s)) h in
    record {
      depth = omega (arith, here.depth);
      nodes = omega (arith, here.nodes);
      longest = omega (arith, here.longest);
      children = omega arith;
    }
child_less g (cell l e r) (suc k) t s h =
    behind_less l e r (change_child g k r) (child_less g r k t s h)
child_less g (operator o) k t s h = absurd (none-some t s)
child_less g (with_child f c) k t s h =
    let n : length (children_of f ++ c ∷ []) ≡ length (children_of f) + 1 = length-append (children_of f) (c ∷ []) in
    let w : k < length (children_of f ++ c ∷ []) = slice_get_within (children_of f ++ c ∷ []) k t s in
    let Low : Bool → Type 0 =
    λ b. IsLess (with_child f c) (cond b (with_child f (g c)) (with_child (change_child g k f) c)) in
    elim (eqb_tells (length (children_of f)) k) [
      | inl q ↦
          let one : c ≡ t =
          some_once c t (slice_get (children_of f ++ c ∷ []) k) (got_next (children_of f) c k q.1) s in
          subst Low (sym q.0) (last_less f c (g c) (subst (λ x. IsLess x (g x)) (sym one) h))
      | inr q ↦
          let m : k < length (children_of f) = omega (arith, n, w, q.1) in
          let front : slice_get (children_of f) k ≡ Some t = sym (got_front (children_of f) (c ∷ []) k m) ∙ s in
          subst Low (sym q.0) (front_less f (change_child g k f) c (child_less g f k t front h))
    ]
  where
    last_less : (f c d : Fragment) → IsLess c d → IsLess (with_child f c) (with_child f d)
    last_less f c d h =
        let a : length (children_of f ++ c ∷ []) ≡ length (children_of f) + 1 = length-append (children_of f) (c ∷ []) in
        let b : length (children_of f ++ d ∷ []) ≡ length (children_of f) + 1 = length-append (children_of f) (d ∷ []) in
        record {
          depth = omega (arith, h.depth);
          nodes = omega (arith, h.nodes);
          longest = omega (arith, h.longest);
          children = omega (arith, a, b);
        }

    front_less : (f g c : Fragment) → IsLess f g → IsLess (with_child f c) (with_child g c)
    front_less f g c h =
        let a : length (children_of f ++ c ∷ []) ≡ length (children_of f) + 1 = length-append (children_of f) (c ∷ []) in
        let b : length (children_of g ++ c ∷ []) ≡ length (children_of g) + 1 = length-append (children_of g) (c ∷ []) in
        record {
          depth = omega (arith, h.depth);
          nodes = omega (arith, h.nodes);
          longest = omega (arith, h.longest);
          children = omega (arith, a, b, h.children);
        }
child_less g (with_name f n) k t s h =
    let i = child_less g f k t s h in
    record { depth = i.depth; nodes = i.nodes; longest = i.longest; children = i.children }
child_less g (with_number f n) k t s h =
    let i = child_less g f k t s h in
    record { depth = i.depth; nodes = i.nodes; longest = i.longest; children = i.children }
child_less g (with_text f n) k t s h =
    let i = child_less g f k t s h in
    record { depth = i.depth; nodes = i.nodes; longest = i.longest; children = i.children }
child_less g anything k t s h = absurd (none-some t s)
child_less g (observed f) k t s h =
    let i = child_less g f k t s h in
    record { depth = i.depth; nodes = i.nodes; longest = i.longest; children = i.children }

changed_less : (g : Fragment → Fragment) (path : Path) (f node : Fragment) → node_at f path ≡ Some node
    → IsLess node (g node) → IsLess f (change_at g path f)
changed_less g [] f node e h =
    subst (λ x. IsLess x (g x)) (sym (some_once f node (Some f) refl e)) h
changed_less g (k ∷ path) f node e h =
    let (t, at, further) = step (slice_get (children_of f) k) path node e in
    child_less (change_at g path) f k t at (changed_less g path t node further h)

-- ---- the changes that add nothing

module _ (f node : Fragment) (path : Path) (at : node_at f path ≡ Some node) where
  -- a new tree in place of a node
  pub cut_smaller : (def : Definition) (kind : Kind) (new : Fragment) → new ≡ blank def kind
      → IsNoLarger f (replaced path new f)
  cut_smaller def kind new is =
      no_larger f (replaced path new f) (changed_less (λ old. new) path f node at
      (subst (IsLess node) (sym is) (blank_less def kind node)))

  -- a list with another end
  pub ended_smaller : (u : Bool) (new : Fragment) → new ≡ ended u node → IsNoLarger f (replaced path new f)
  ended_smaller u new is =
      no_larger f (replaced path new f) (changed_less (λ old. new) path f node at
      (subst (IsLess node) (sym is) (ended_less u node)))

  -- a list without an element
  pub removed_smaller : (k : ℕ) → IsNoLarger f (change_at (removed k) path f)
  removed_smaller k =
      no_larger f (change_at (removed k) path f) (changed_less (removed k) path f node at (removed_less k node))

-- ---- the limits

module _ (def : Definition) (old new : Fragment) (within : IsWithin def old) where
  not_deep : IsNoLarger old new → IsDeep new → ⊥
  not_deep less deep = within.shallow (omega (arith, less.depth, deep))

  not_big : IsNoLarger old new → IsBig new → ⊥
  not_big less (inl many) = within.small (inl (omega (arith, less.nodes, many)))
  not_big less (inr long) =
      let longer : 4096 < longest_of new = (long_lists new).0 long in
      within.small (inr ((long_lists old).1 (omega (arith, less.longest, longer))))

  -- what such a change makes of a tree within the limits passes none of those that are not tested
  pub small_by : (trial : Trial) → IsSizedBy trial old new → IsSmallFor def trial new
  small_by Opens h = absurd h
  small_by Grows h = tt
  small_by Types h = tt
  small_by Closes h = (not_deep h, not_big h)
  small_by Loosens h = (not_deep h, not_big h)

-- ---- new trees

module _ (def : Definition) where
  hole_wide : (p : ℕ) → IsHeavy def (hole p) → IsWide def (hole p)
  hole_wide p (n, of_node m rows below_hole (ss, rel), more) = (
    _,
    first,
    step_passes def (hole p) 0 ss rows (omega arith) (inside_relation def (hole p) ss rows refl rel)
        (inl (omega (arith, more))),
  )

  end_wide : (l : ℕ) (u : Bool) → IsHeavy def (ending l u) → IsWide def (ending l u)
  end_wide l u (n, of_node m rows below_ending (ss, rel), more) = (
    _,
    first,
    step_passes def (ending l u) 0 ss rows (omega arith) (inside_relation def (ending l u) ss rows refl rel)
        (inl (omega (arith, more))),
  )

  pub blank_small : (kind : Kind) → IsSmallFor def Opens (blank def kind)
  blank_small (kinds.Phylum p) =
      ((λ h. omega (arith, h)), elim_leaf, hole_wide p) where
        elim_leaf : IsBig (hole p) → ⊥
        elim_leaf (inl h) = omega (arith, h)
        elim_leaf (inr h) = h
  blank_small (kinds.List l) =
      ((λ h. omega (arith, h)), elim_leaf, end_wide l _) where
        elim_leaf : IsBig (blank def (kinds.List l)) → ⊥
        elim_leaf (inl h) = omega (arith, h)
        elim_leaf (inr h) = h
