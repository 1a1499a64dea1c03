-- Frames stand for a place, whatever tree is there.
use Rattle.std.proofs.Common.{◌≡◌, inl, inr, ℕ, zero, suc, ◌+◌, ◌<◌, ◌==◌, Bool, true, false, cond, List, [], ◌∷◌, ◌++◌, length, Some, slice_get, refl, ap, sym, ◌∙◌, subst, arith, length-append}
use Rattle.std.proofs.lemmas.Bool.Decides.{eqb_tells}
use Rattle.std.proofs.lemmas.Option.{slice_get_within, same_Some}
use Rattle.psg_terms.proofs.Lists.{slice_get-end}
use Rattle.psg_grammar.specs.declared.types.Item.{Item}
use Rattle.psg_grammar.specs.declared.types.Item.TheVariants as items
use Rattle.psg_grammar.specs.declared.types.Definition.{Definition}
use Rattle.psg_grammar.specs.Fragments.{Fragment, hole, ending, cell, operator, with_child, with_name, with_number, with_text, anything, observed, children_of, top_operator}
use Rattle.psg_grammar.specs.Paths.{Path, change_child, change_at, observe}
use Rattle.psg_eval.specs.declared.frame.Frame.{Frame}
use Rattle.psg_eval.specs.declared.frame.Frame.TheVariants as frames
use Rattle.psg_eval.specs.declared.summary.SummaryParts.{SummaryParts}
use Rattle.psg_eval.specs.Trees.{IsNode, HasParts, own_names}
use Rattle.psg_eval.specs.Frames.{AllSummariesBut, IsElement, IsFrame, StandFor}
use Rattle.psg_eval.proofs.FrameLaws.{frame_child}

-- ---- one child of a node

abbrev put : ℕ → Fragment → List Fragment → List Fragment
put k x [] = []
put zero x (c ∷ cs) = x ∷ cs
put (suc k) x (c ∷ cs) = c ∷ put k x cs

put_last : (x c : Fragment) (cs : List Fragment) → put (length cs) x (cs ++ c ∷ []) ≡ cs ++ x ∷ []
put_last x c [] = refl
put_last x c (d ∷ cs) = ap (λ l. d ∷ l) (put_last x c cs)

put_front : (x : Fragment) (k : ℕ) (cs ds : List Fragment) → k < length cs → put k x (cs ++ ds) ≡ put k x cs ++ ds
put_front x k [] ds h = absurd (omega (arith, h))
put_front x zero (c ∷ cs) ds h = refl
put_front x (suc k) (c ∷ cs) ds h = ap (λ l. c ∷ l) (put_front x k cs ds (omega (arith, h)))

got_put : (x : Fragment) (k : ℕ) (cs : List Fragment) → k < length cs → slice_get (put k x cs) k ≡ Some x
got_put x k [] h = absurd (omega (arith, h))
got_put x zero (c ∷ cs) h = refl
got_put x (suc k) (c ∷ cs) h = got_put x k cs (omega (arith, h))

got_front : (k : ℕ) (cs ds : List Fragment) → k < length cs → slice_get (cs ++ ds) k ≡ slice_get cs k
got_front k [] ds h = absurd (omega (arith, h))
got_front zero (c ∷ cs) ds h = refl
got_front (suc k) (c ∷ cs) ds h = got_front k cs ds (omega (arith, h))

either_way : (P : Fragment → Type 0) (b : Bool) (one other : Fragment) → P one → P other → P (cond b one other)
either_way P true one other p q = p
either_way P false one other p q = q

module _ (g : Fragment → Fragment) where
  -- a change below a node is one of the node
  change_below : (k : ℕ) (above : Path)
      → ◌≡◌ {A = Fragment → Fragment} (λ f. change_at g (above ++ k ∷ []) f) (λ f. change_at (change_child g k) above f)
  change_below k [] = refl
  change_below k (a ∷ above) =
      let up : (Fragment → Fragment) → Fragment → Fragment = λ h f. change_child h a f in
      ap up (change_below k above)

  change_here : (k : ℕ) (above : Path) (f : Fragment) → change_at g (above ++ k ∷ []) f ≡ change_at (change_child g k) above f
  change_here k above f =
      let here : (Fragment → Fragment) → Fragment = λ h. h f in
      ap here (change_below k above)

module _ (def : Definition) (g : Fragment → Fragment) where
  top_new : (k : ℕ) (u : Fragment) → top_operator (change_child g k u) ≡ top_operator u
  top_new k (hole p) = refl
  top_new k (ending l u) = refl
  top_new zero (cell l e r) = refl
  top_new (suc k) (cell l e r) = refl
  top_new k (operator o) = refl
  top_new k (with_child f c) = either_way (λ n. top_operator n ≡ top_operator f) (length (children_of f) == k) (with_child f (g c)) (with_child (change_child g k f) c) refl (top_new k f)
  top_new k (with_name f n) = top_new k f
  top_new k (with_number f n) = top_new k f
  top_new k (with_text f t) = top_new k f
  top_new k anything = refl
  top_new k (observed f) = top_new k f

  names_new : (k : ℕ) (u : Fragment) → own_names (change_child g k u) ≡ own_names u
  names_new k (hole p) = refl
  names_new k (ending l u) = refl
  names_new zero (cell l e r) = refl
  names_new (suc k) (cell l e r) = refl
  names_new k (operator o) = refl
  names_new k (with_child f c) = either_way (λ n. own_names n ≡ own_names f) (length (children_of f) == k) (with_child f (g c)) (with_child (change_child g k f) c) refl (names_new k f)
  names_new k (with_name f n) = ap (λ ns. ns ++ n ∷ []) (names_new k f)
  names_new k (with_number f n) = names_new k f
  names_new k (with_text f t) = names_new k f
  names_new k anything = refl
  names_new k (observed f) = refl

  module _ (t : Fragment) where
    children_new : (k : ℕ) (u : Fragment) → slice_get (children_of u) k ≡ Some t → children_of (change_child g k u) ≡ put k (g t) (children_of u)
    children_new k (hole p) s = absurd (cc)
    children_new k (ending l u) s = absurd (cc)
    children_new zero (cell l e r) s = ap (λ z. g z ∷ children_of r) (same_Some e t s)
    children_new (suc k) (cell l e r) s = ap (λ cs. e ∷ cs) (children_new k r s)
    children_new k (operator o) s = absurd (cc)
    children_new k (with_child f c) s =
        let n : length (children_of f ++ c ∷ []) ≡ length (children_of f) + 1 = length-append (children_of f) (c ∷ []) in
        let w : k < length (children_of f ++ c ∷ []) = slice_get_within (children_of f ++ c ∷ []) k t s in
        elim (eqb_tells (length (children_of f)) k) [
          | inl q ↦
              let d : c ≡ t = same_Some c t (sym (slice_get-end (children_of f) c) ∙ ap (slice_get (children_of f ++ c ∷ [])) q.1 ∙ s) in
              ap (λ b. children_of (cond b (with_child f (g c)) (with_child (change_child g k f) c))) q.0
              ∙ ap (λ z. children_of f ++ g z ∷ []) d ∙ sym (put_last (g t) c (children_of f)) ∙ ap (λ m. put m (g t) (children_of f ++ c ∷ [])) q.1
          | inr q ↦
              let m : k < length (children_of f) = omega (arith, n, w, q.1) in
              ap (λ b. children_of (cond b (with_child f (g c)) (with_child (change_child g k f) c))) q.0
              ∙ ap (λ cs. cs ++ c ∷ []) (children_new k f (sym (got_front k (children_of f) (c ∷ []) m) ∙ s)) ∙ sym (put_front (g t) k (children_of f) (c ∷ []) m)
        ]
    children_new k (with_name f n) s = children_new k f s
    children_new k (with_number f n) s = children_new k f s
    children_new k (with_text f c) s = children_new k f s
    children_new k anything s = absurd (cc)
    children_new k (observed f) s = children_new k f s

    but_new : (x : Fragment) (k : ℕ) (cs : List Fragment) (ss : List SummaryParts) → AllSummariesBut def k cs ss → AllSummariesBut def k (put k x cs) ss
    but_new x k [] ss h = h
    but_new x zero (c ∷ cs) [] h = h
    but_new x zero (c ∷ cs) (s ∷ ss) h = h
    but_new x (suc k) (c ∷ cs) [] h = h
    but_new x (suc k) (c ∷ cs) (s ∷ ss) (one, rest) = (one, but_new x k cs ss rest)

    element_new : (l : ℕ) (before : List SummaryParts) (behind : SummaryParts) (u : Fragment) → IsElement def l before behind u t → IsElement def l before behind (change_child g (length before) u) (g t)
    element_new l [] behind (cell m e r) (a, b, c) = (a, ap g b, c)
    element_new l (s ∷ before) behind (cell m e r) (a, b, c) = (a, b, element_new l before behind r c)
    element_new l [] behind (hole p) h = absurd h
    element_new l [] behind (ending m u) h = absurd h
    element_new l [] behind (operator o) h = absurd h
    element_new l [] behind (with_child f c) h = absurd h
    element_new l [] behind (with_name f n) h = absurd h
    element_new l [] behind (with_number f n) h = absurd h
    element_new l [] behind (with_text f n) h = absurd h
    element_new l [] behind anything h = absurd h
    element_new l [] behind (observed f) h = absurd h
    element_new l (s ∷ before) behind (hole p) h = absurd h
    element_new l (s ∷ before) behind (ending m u) h = absurd h
    element_new l (s ∷ before) behind (operator o) h = absurd h
    element_new l (s ∷ before) behind (with_child f c) h = absurd h
    element_new l (s ∷ before) behind (with_name f n) h = absurd h
    element_new l (s ∷ before) behind (with_number f n) h = absurd h
    element_new l (s ∷ before) behind (with_text f n) h = absurd h
    element_new l (s ∷ before) behind anything h = absurd h
    element_new l (s ∷ before) behind (observed f) h = absurd h

    parts_new : (k : ℕ) (u : Fragment) (more : List Item) → slice_get (children_of u) k ≡ Some t → HasParts def u more → HasParts def (change_child g k u) more
    parts_new k (hole p) more s h = h
    parts_new k (ending l u) more s h = h
    parts_new k (cell l e r) more s h = elim h [ ]
    parts_new k (operator o) more s h = h
    parts_new k (with_child f c) more s (kind, front) =
        let n : length (children_of f ++ c ∷ []) ≡ length (children_of f) + 1 = length-append (children_of f) (c ∷ []) in
        let w : k < length (children_of f ++ c ∷ []) = slice_get_within (children_of f ++ c ∷ []) k t s in
        elim (eqb_tells (length (children_of f)) k) [
          | inl q ↦ subst (λ b. HasParts def (cond b (with_child f (g c)) (with_child (change_child g k f) c)) more) (sym q.0) (kind, front)
          | inr q ↦
              let m : k < length (children_of f) = omega (arith, n, w, q.1) in
              subst (λ b. HasParts def (cond b (with_child f (g c)) (with_child (change_child g k f) c)) more) (sym q.0)
              (kind, parts_new k f (items.Slot kind ∷ more) (sym (got_front k (children_of f) (c ∷ []) m) ∙ s) front)
        ]
    parts_new k (with_name f n) more s (inl (space, h)) = inl (space, parts_new k f (items.Refers space ∷ more) s h)
    parts_new k (with_name f n) more s (inr (space, h)) = inr (space, parts_new k f (items.Declares space ∷ more) s h)
    parts_new k (with_number f n) more s h = parts_new k f (items.Number ∷ more) s h
    parts_new k (with_text f c) more s h = parts_new k f (items.Text ∷ more) s h
    parts_new k anything more s h = h
    parts_new k (observed f) more s h = elim h [ ]

    frame_new : (frame : Frame) (k : ℕ) (u : Fragment) → IsFrame def frame k u t → IsFrame def frame k (change_child g k u) (g t)
    frame_new (frames.Op op names children hot) k u (node, at, child, but) =
        let w : k < length (children_of u) = slice_get_within (children_of u) k t child in
        let cs : children_of (change_child g k u) ≡ put k (g t) (children_of u) = children_new k u child in (
          record { top = top_new k u ∙ node.top; parts = parts_new k u [] child node.parts; own = names_new k u ∙ node.own },
          at,
          ap (λ l. slice_get l k) cs ∙ got_put (g t) k (children_of u) w,
          subst (λ l. AllSummariesBut def k l children) (sym cs) (but_new (g t) k (children_of u) children but),
        )
    frame_new (frames.Elem list before rest) k u (at, element) =
        (at, subst (λ n. IsElement def list before rest (change_child g n u) (g t)) (sym at) (element_new list before rest u element))

-- after a change of the node the frames stand for the same place
pub stands-changed : (def : Definition) (g : Fragment → Fragment) (around : List Frame) (path : Path) (f t : Fragment)
    → StandFor def around path f t → StandFor def around path (change_at g path f) (g t)
stands-changed def g [] path f t (p, e) = (p, ap (λ q. change_at g q f) p ∙ ap g e)
stands-changed def g (frame ∷ more) path f t (above, k, u, p, at, up) =
    let e : change_at g path f ≡ change_at (change_child g k) above f = ap (λ q. change_at g q f) p ∙ change_here g k above f in (
      above,
      k,
      change_child g k u,
      p,
      frame_new def g t frame k u at,
      subst (λ z. StandFor def more above z (change_child g k u)) (sym e)
          (stands-changed def (change_child g k) more above f u up),
    )

pub stands-observed : (def : Definition) (around : List Frame) (path : Path) (f t : Fragment) → StandFor def around path f t → StandFor def around path (observe path f) (observed t)
stands-observed def around path f t h = stands-changed def observed around path f t h
