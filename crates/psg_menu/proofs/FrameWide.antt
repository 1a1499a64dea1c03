-- A changed child of a node: which step passes the limit.
use Rattle.std.proofs.Common.{◌≡◌, ◌⊎◌, inl, inr, ℕ, zero, suc, ◌+◌, ◌<◌, cond, List, [], ◌∷◌, ◌++◌, length, Some, slice_get, refl, ap, sym, ◌∙◌, subst, arith, length-append}
use Rattle.std.proofs.lemmas.Bool.Decides.{eqb_tells}
use Rattle.std.proofs.lemmas.Option.{slice_get_within, same_Some}
use Rattle.psg_terms.proofs.Lists.{slice_get-end}
use Rattle.psg_grammar.specs.declared.types.Definition.{Definition}
use Rattle.psg_grammar.specs.Fragments.{Fragment, hole, ending, cell, operator, with_child, with_name, with_number, with_text, anything, observed, children_of, top_operator}
use Rattle.psg_grammar.specs.Paths.{Path, change_child}
use Rattle.psg_grammar.specs.Steps.{own_steps, steps_at}
use Rattle.psg_eval.specs.declared.frame.Frame.{Frame}
use Rattle.psg_eval.specs.declared.frame.Frame.TheVariants as frames
use Rattle.psg_eval.specs.declared.summary.SummaryParts.{SummaryParts}
use Rattle.psg_eval.specs.Frames.{IsElement, IsFrame}
use Rattle.psg_eval.proofs.Places.{stands-changed}
use Rattle.psg_menu.proofs.WideTrees.{Passing, passing_either, passing_left, passing_right, own_from, own_to, ListPasses, WideTree, WideBelow, node_parts, node_wide}

got_front : (k : ℕ) (cs ds : List Fragment) → k < length cs → slice_get (cs ++ ds) k ≡ slice_get cs k
got_front k [] ds h = absurd (omega (arith, h))
got_front zero (c ∷ cs) ds h = refl
got_front (suc k) (c ∷ cs) ds h = got_front k cs ds (omega (arith, h))

module _ (def : Definition) where
  node_steps : (path : Path) (k op : ℕ) (u : Fragment) → top_operator u ≡ Some op → steps_at def path k u ≡ own_steps def path u
  node_steps path zero op (operator o) e = refl
  node_steps path zero op (with_child f t) e = refl
  node_steps path zero op (with_name f n) e = refl
  node_steps path zero op (with_number f n) e = refl
  node_steps path zero op (with_text f n) e = refl
  node_steps path zero op (observed f) e = refl
  node_steps path zero op (hole p) e = absurd (cc)
  node_steps path zero op (ending l u) e = absurd (cc)
  node_steps path zero op (cell l h r) e = absurd (cc)
  node_steps path zero op anything e = absurd (cc)
  node_steps path (suc k) op (operator o) e = refl
  node_steps path (suc k) op (with_child f t) e = refl
  node_steps path (suc k) op (with_name f n) e = refl
  node_steps path (suc k) op (with_number f n) e = refl
  node_steps path (suc k) op (with_text f n) e = refl
  node_steps path (suc k) op (observed f) e = refl
  node_steps path (suc k) op (hole p) e = absurd (cc)
  node_steps path (suc k) op (ending l u) e = absurd (cc)
  node_steps path (suc k) op (cell l h r) e = absurd (cc)
  node_steps path (suc k) op anything e = absurd (cc)

  -- ---- a child that is too wide

  below_at : (t : Fragment) (k : ℕ) (u : Fragment) → slice_get (children_of u) k ≡ Some t → WideTree def t → WideBelow def u
  below_at t k (hole p) s w = absurd (cc)
  below_at t k (ending l u) s w = absurd (cc)
  below_at t zero (cell l e r) s w = inl (subst (WideTree def) (sym (same_Some e t s)) w)
  below_at t (suc k) (cell l e r) s w = inr (below_at t k r s w)
  below_at t k (operator o) s w = absurd (cc)
  below_at t k (with_child f c) s w =
      let n : length (children_of f ++ c ∷ []) ≡ length (children_of f) + 1 = length-append (children_of f) (c ∷ []) in
      let l : k < length (children_of f ++ c ∷ []) = slice_get_within (children_of f ++ c ∷ []) k t s in
      elim (eqb_tells (length (children_of f)) k) [
        | inl q ↦
            let d : c ≡ t = same_Some c t (sym (slice_get-end (children_of f) c) ∙ ap (slice_get (children_of f ++ c ∷ [])) q.1 ∙ s) in
            inr (subst (WideTree def) (sym d) w)
        | inr q ↦
            let m : k < length (children_of f) = omega (arith, n, l, q.1) in
            inl (below_at t k f (sym (got_front k (children_of f) (c ∷ []) m) ∙ s) w)
      ]
  below_at t k (with_name f n) s w = below_at t k f s w
  below_at t k (with_number f n) s w = below_at t k f s w
  below_at t k (with_text f c) s w = below_at t k f s w
  below_at t k anything s w = absurd (cc)
  below_at t k (observed f) s w = below_at t k f s w

  -- ---- a changed child

  module _ (g : Fragment → Fragment) (t : Fragment) where
    below_split : (k : ℕ) (u : Fragment) → slice_get (children_of u) k ≡ Some t → WideBelow def (change_child g k u) → WideTree def (g t) ⊎ WideBelow def u
    below_split k (hole p) s w = absurd w
    below_split k (ending l u) s w = absurd w
    below_split zero (cell l e r) s (inl a) = inl (subst (λ z. WideTree def (g z)) (same_Some e t s) a)
    below_split zero (cell l e r) s (inr b) = inr (inr b)
    below_split (suc k) (cell l e r) s (inl a) = inr (inl a)
    below_split (suc k) (cell l e r) s (inr b) = elim (below_split k r s b) [ inl x ↦ inl x | inr y ↦ inr (inr y) ]
    below_split k (operator o) s w = absurd w
    below_split k (with_child f c) s w =
        let n : length (children_of f ++ c ∷ []) ≡ length (children_of f) + 1 = length-append (children_of f) (c ∷ []) in
        let l : k < length (children_of f ++ c ∷ []) = slice_get_within (children_of f ++ c ∷ []) k t s in
        elim (eqb_tells (length (children_of f)) k) [
          | inl q ↦
              let d : c ≡ t = same_Some c t (sym (slice_get-end (children_of f) c) ∙ ap (slice_get (children_of f ++ c ∷ [])) q.1 ∙ s) in
              let v : WideBelow def f ⊎ WideTree def (g c) = subst (λ b. WideBelow def (cond b (with_child f (g c)) (with_child (change_child g k f) c))) q.0 w in
              elim v [ inl x ↦ inr (inl x) | inr y ↦ inl (subst (λ z. WideTree def (g z)) d y) ]
          | inr q ↦
              let m : k < length (children_of f) = omega (arith, n, l, q.1) in
              let v : WideBelow def (change_child g k f) ⊎ WideTree def c = subst (λ b. WideBelow def (cond b (with_child f (g c)) (with_child (change_child g k f) c))) q.0 w in
              elim v [
                | inl x ↦ elim (below_split k f (sym (got_front k (children_of f) (c ∷ []) m) ∙ s) x) [ inl a ↦ inl a | inr b ↦ inr (inl b) ]
                | inr y ↦ inr (inr y)
              ]
        ]
    below_split k (with_name f n) s w = below_split k f s w
    below_split k (with_number f n) s w = below_split k f s w
    below_split k (with_text f c) s w = below_split k f s w
    below_split k anything s w = absurd w
    below_split k (observed f) s w = below_split k f s w

  -- ---- an element of a list

  module _ (l : ℕ) (rest : SummaryParts) (path : Path) where
    -- the cells up to an element, and the list after it
    lists_split : (g : Fragment → Fragment) (t : Fragment) (before : List SummaryParts) (u : Fragment) → IsElement def l before rest u t
        → ListPasses def (change_child g (length before) u) → Passing def (steps_at def path (length before) (change_child g (length before) u)) ⊎ ListPasses def u
    lists_split g t [] (cell m e r) h (inl a) = inr (inl a)
    lists_split g t [] (cell m e r) h (inr b) = inl (own_to def path (cell m (g e) r) b)
    lists_split g t (s ∷ before) (cell m e r) (a, b, c) (inl x) = elim (lists_split g t before r c x) [
      | inl y ↦ inl (passing_left def (steps_at def path (length before) (change_child g (length before) r))
          (own_steps def path (cell m e (change_child g (length before) r))) y)
      | inr z ↦ inr (inl z)
    ]
    lists_split g t (s ∷ before) (cell m e r) (a, b, c) (inr x) =
        inl (passing_right def (steps_at def path (length before) (change_child g (length before) r))
        (own_steps def path (cell m e (change_child g (length before) r))) (own_to def path (cell m e (change_child g (length before) r)) x))
    lists_split g t [] (hole p) h w = absurd h
    lists_split g t [] (ending m u) h w = absurd h
    lists_split g t [] (operator o) h w = absurd h
    lists_split g t [] (with_child f c) h w = absurd h
    lists_split g t [] (with_name f n) h w = absurd h
    lists_split g t [] (with_number f n) h w = absurd h
    lists_split g t [] (with_text f n) h w = absurd h
    lists_split g t [] anything h w = absurd h
    lists_split g t [] (observed f) h w = absurd h
    lists_split g t (s ∷ before) (hole p) h w = absurd h
    lists_split g t (s ∷ before) (ending m u) h w = absurd h
    lists_split g t (s ∷ before) (operator o) h w = absurd h
    lists_split g t (s ∷ before) (with_child f c) h w = absurd h
    lists_split g t (s ∷ before) (with_name f n) h w = absurd h
    lists_split g t (s ∷ before) (with_number f n) h w = absurd h
    lists_split g t (s ∷ before) (with_text f n) h w = absurd h
    lists_split g t (s ∷ before) anything h w = absurd h
    lists_split g t (s ∷ before) (observed f) h w = absurd h

    -- a step of a climb from the element is one of the list's cells
    lists_climb : (t : Fragment) (before : List SummaryParts) (u : Fragment) → IsElement def l before rest u t → Passing def (steps_at def path (length before) u) → ListPasses def u
    lists_climb t [] (cell m e r) h w = inr (own_from def path (cell m e r) w)
    lists_climb t (s ∷ before) (cell m e r) (a, b, c) w =
        elim (passing_either def (steps_at def path (length before) r) (own_steps def path (cell m e r)) w) [
          | inl x ↦ inl (lists_climb t before r c x)
          | inr y ↦ inr (own_from def path (cell m e r) y)
        ]
    lists_climb t [] (hole p) h w = absurd h
    lists_climb t [] (ending m u) h w = absurd h
    lists_climb t [] (operator o) h w = absurd h
    lists_climb t [] (with_child f c) h w = absurd h
    lists_climb t [] (with_name f n) h w = absurd h
    lists_climb t [] (with_number f n) h w = absurd h
    lists_climb t [] (with_text f n) h w = absurd h
    lists_climb t [] anything h w = absurd h
    lists_climb t [] (observed f) h w = absurd h
    lists_climb t (s ∷ before) (hole p) h w = absurd h
    lists_climb t (s ∷ before) (ending m u) h w = absurd h
    lists_climb t (s ∷ before) (operator o) h w = absurd h
    lists_climb t (s ∷ before) (with_child f c) h w = absurd h
    lists_climb t (s ∷ before) (with_name f n) h w = absurd h
    lists_climb t (s ∷ before) (with_number f n) h w = absurd h
    lists_climb t (s ∷ before) (with_text f n) h w = absurd h
    lists_climb t (s ∷ before) anything h w = absurd h
    lists_climb t (s ∷ before) (observed f) h w = absurd h

  -- the tree is a list: a cell, or one with more before it
  abbrev pub IsCell : Fragment → Type 0
  IsCell (cell l e r) = Unit {0}
  IsCell _ = ⊥

  element_cell : (l : ℕ) (before : List SummaryParts) (rest : SummaryParts) (u t : Fragment) → IsElement def l before rest u t → IsCell u
  element_cell l [] rest (cell m e r) t h = tt
  element_cell l (s ∷ before) rest (cell m e r) t h = tt
  element_cell l [] rest (hole p) t h = absurd h
  element_cell l [] rest (ending m u) t h = absurd h
  element_cell l [] rest (operator o) t h = absurd h
  element_cell l [] rest (with_child f c) t h = absurd h
  element_cell l [] rest (with_name f n) t h = absurd h
  element_cell l [] rest (with_number f n) t h = absurd h
  element_cell l [] rest (with_text f n) t h = absurd h
  element_cell l [] rest anything t h = absurd h
  element_cell l [] rest (observed f) t h = absurd h
  element_cell l (s ∷ before) rest (hole p) t h = absurd h
  element_cell l (s ∷ before) rest (ending m u) t h = absurd h
  element_cell l (s ∷ before) rest (operator o) t h = absurd h
  element_cell l (s ∷ before) rest (with_child f c) t h = absurd h
  element_cell l (s ∷ before) rest (with_name f n) t h = absurd h
  element_cell l (s ∷ before) rest (with_number f n) t h = absurd h
  element_cell l (s ∷ before) rest (with_text f n) t h = absurd h
  element_cell l (s ∷ before) rest anything t h = absurd h
  element_cell l (s ∷ before) rest (observed f) t h = absurd h

  cell_parts : (u : Fragment) → IsCell u → WideTree def u → WideBelow def u ⊎ ListPasses def u
  cell_parts (cell l e r) h (inl a) = inl (inl a)
  cell_parts (cell l e r) h (inr (inl b)) = inl (inr b)
  cell_parts (cell l e r) h (inr (inr c)) = inr c
  cell_parts (hole p) h w = absurd h
  cell_parts (ending l u) h w = absurd h
  cell_parts (operator o) h w = absurd h
  cell_parts (with_child f t) h w = absurd h
  cell_parts (with_name f n) h w = absurd h
  cell_parts (with_number f n) h w = absurd h
  cell_parts (with_text f n) h w = absurd h
  cell_parts anything h w = absurd h
  cell_parts (observed f) h w = absurd h

  cell_wide : (u : Fragment) → IsCell u → WideBelow def u ⊎ ListPasses def u → WideTree def u
  cell_wide (cell l e r) h (inl (inl a)) = inl a
  cell_wide (cell l e r) h (inl (inr b)) = inr (inl b)
  cell_wide (cell l e r) h (inr c) = inr (inr c)
  cell_wide (hole p) h w = absurd h
  cell_wide (ending l u) h w = absurd h
  cell_wide (operator o) h w = absurd h
  cell_wide (with_child f t) h w = absurd h
  cell_wide (with_name f n) h w = absurd h
  cell_wide (with_number f n) h w = absurd h
  cell_wide (with_text f n) h w = absurd h
  cell_wide anything h w = absurd h
  cell_wide (observed f) h w = absurd h

  changed_cell : (g : Fragment → Fragment) (k : ℕ) (u : Fragment) → IsCell u → IsCell (change_child g k u)
  changed_cell g zero (cell l e r) h = tt
  changed_cell g (suc k) (cell l e r) h = tt
  changed_cell g k (hole p) h = absurd h
  changed_cell g k (ending l u) h = absurd h
  changed_cell g k (operator o) h = absurd h
  changed_cell g k (with_child f t) h = absurd h
  changed_cell g k (with_name f n) h = absurd h
  changed_cell g k (with_number f n) h = absurd h
  changed_cell g k (with_text f n) h = absurd h
  changed_cell g k anything h = absurd h
  changed_cell g k (observed f) h = absurd h

  element_child : (l : ℕ) (before : List SummaryParts) (rest : SummaryParts) (t u : Fragment) → IsElement def l before rest u t → slice_get (children_of u) (length before) ≡ Some t
  element_child l [] rest t (cell m e r) (a, b, c) = ap Some b
  element_child l (s ∷ before) rest t (cell m e r) (a, b, c) = element_child l before rest t r c
  element_child l [] rest t (hole p) h = absurd h
  element_child l [] rest t (ending m u) h = absurd h
  element_child l [] rest t (operator o) h = absurd h
  element_child l [] rest t (with_child f c) h = absurd h
  element_child l [] rest t (with_name f n) h = absurd h
  element_child l [] rest t (with_number f n) h = absurd h
  element_child l [] rest t (with_text f n) h = absurd h
  element_child l [] rest t anything h = absurd h
  element_child l [] rest t (observed f) h = absurd h
  element_child l (s ∷ before) rest t (hole p) h = absurd h
  element_child l (s ∷ before) rest t (ending m u) h = absurd h
  element_child l (s ∷ before) rest t (operator o) h = absurd h
  element_child l (s ∷ before) rest t (with_child f c) h = absurd h
  element_child l (s ∷ before) rest t (with_name f n) h = absurd h
  element_child l (s ∷ before) rest t (with_number f n) h = absurd h
  element_child l (s ∷ before) rest t (with_text f n) h = absurd h
  element_child l (s ∷ before) rest t anything h = absurd h
  element_child l (s ∷ before) rest t (observed f) h = absurd h

  -- ---- one frame

  same_number : (k j : ℕ) (above : Path) → k ∷ [] ≡ above ++ j ∷ [] → above ≡ [] → j ≡ k
  same_number k j above p e =
      let q : k ∷ [] ≡ j ∷ [] = p ∙ ap (λ (a : Path). a ++ j ∷ []) e in
      cc

  -- the frame is that of the node with another child, too
  pub frame_new : (g : Fragment → Fragment) (frame : Frame) (k : ℕ) (u t : Fragment) → IsFrame def frame k u t → IsFrame def frame k (change_child g k u) (g t)
  frame_new g frame k u t at =
      let (above, j, v, p, is, (none, same)) = stands-changed def g (frame ∷ []) (k ∷ []) u t ([], k, u, refl, at, (refl, refl)) in
      let e : j ≡ k = same_number k j above p none in
      let d : change_child g k u ≡ v = same in
      subst (λ z. IsFrame def frame k z (g t)) (sym d) (subst (λ n. IsFrame def frame n v (g t)) e is)

  -- a wide child makes the node wide
  pub frame_up : (frame : Frame) (k : ℕ) (u t : Fragment) → IsFrame def frame k u t → WideTree def t → WideTree def u
  frame_up (frames.Op op names children hot) k u t (node, at, child, but) w = node_wide def u [] node.parts (inl (below_at t k u child w))
  frame_up (frames.Elem list before rest) k u t (at, element) w =
      cell_wide u (element_cell list before rest u t element) (inl (below_at t (length before) u (element_child list before rest t u element) w))

  -- a step of a climb is one of the node
  pub frame_climb : (path : Path) (frame : Frame) (k : ℕ) (u t : Fragment) → IsFrame def frame k u t → Passing def (steps_at def path k u) → WideTree def u
  frame_climb path (frames.Op op names children hot) k u t (node, at, child, but) w =
      node_wide def u [] node.parts (inr (own_from def path u (subst (Passing def) (node_steps path k op u node.top) w)))
  frame_climb path (frames.Elem list before rest) k u t (at, element) w =
      cell_wide u (element_cell list before rest u t element)
      (inr (lists_climb list rest path t before u element (subst (λ n. Passing def (steps_at def path n u)) at w)))

  -- with another child, a step of the child passes, or one of the climb, or one that was there before
  pub frame_split : (path : Path) (g : Fragment → Fragment) (frame : Frame) (k : ℕ) (u t : Fragment) → IsFrame def frame k u t → WideTree def (change_child g k u)
      → WideTree def (g t) ⊎ (Passing def (steps_at def path k (change_child g k u)) ⊎ WideTree def u)
  frame_split path g (frames.Op op names children hot) k u t (node, at, child, but) w =
      let (new, at2, child2, but2) = frame_new g (frames.Op op names children hot) k u t (node, at, child, but) in
      elim (node_parts def (change_child g k u) [] new.parts w) [
        | inl x ↦ elim (below_split g t k u child x) [ inl a ↦ inl a | inr b ↦ inr (inr (node_wide def u [] node.parts (inl b))) ]
        | inr y ↦ inr (inl (subst (Passing def) (sym (node_steps path k op (change_child g k u) new.top)) (own_to def path (change_child g k u) y)))
      ]
  frame_split path g (frames.Elem list before rest) k u t (at, element) w =
      let v : WideTree def (change_child g (length before) u) = subst (λ n. WideTree def (change_child g n u)) at w in
      let is = element_cell list before rest u t element in
      elim (cell_parts (change_child g (length before) u) (changed_cell g (length before) u is) v) [
        | inl x ↦ elim (below_split g t (length before) u (element_child list before rest t u element) x) [
          | inl a ↦ inl a
          | inr b ↦ inr (inr (cell_wide u is (inl b)))
        ]
        | inr y ↦ elim (lists_split list rest path g t before u element y) [
          | inl a ↦ inr (inl (subst (λ n. Passing def (steps_at def path n (change_child g n u))) (sym at) a))
          | inr b ↦ inr (inr (cell_wide u is (inr b)))
        ]
      ]
