-- A change of the node at a path, step by step.
use Rattle.std.proofs.Common.{◌≡◌, inl, inr, ℕ, zero, suc, ◌+◌, ◌-◌, ◌<◌, ◌≤◌, cond, List, [], ◌∷◌, ◌++◌, length, take, drop, get_or, slice_get, option_and_then, Some, refl, ap, sym, ◌∙◌, subst, arith, length-append}
use Rattle.std.proofs.lemmas.Bool.Decides.{eqb_tells}
use Rattle.std.proofs.lemmas.List.{nil_from_length}
use Rattle.std.proofs.lemmas.Option.{slice_get_within, same_Some}
use Rattle.std.proofs.lemmas.Slice.{first_rest}
use Rattle.psg_grammar.proofs.PathLaws.{step}
use Rattle.psg_terms.proofs.Lists.{slice_get-end}
use Rattle.psg_grammar.specs.Fragments.{Fragment, hole, ending, cell, operator, with_child, with_name, with_number, with_text, anything, observed, children_of}
use Rattle.psg_grammar.specs.Paths.{Path, node_at, change_child, put_child, change_at}
use Rattle.psg_tree.specs.Faults.{IsReplaced}

got_front : (xs ys : List Fragment) (k : ℕ) → k < length xs → slice_get (xs ++ ys) k ≡ slice_get xs k
got_front [] ys k h = absurd (omega (arith, h))
got_front (x ∷ xs) ys zero h = refl
got_front (x ∷ xs) ys (suc k) h = got_front xs ys k (omega (arith, h))

-- changes that agree at the child
pub change_child-agree : (g h : Fragment → Fragment) (k : ℕ) (f t : Fragment) → slice_get (children_of f) k ≡ Some t → g t ≡ h t → change_child g k f ≡ change_child h k f
change_child-agree g h k (hole p) t s e = refl
change_child-agree g h k (ending l u) t s e = refl
change_child-agree g h zero (cell l c r) t s e = let d = same_Some c t s in ap (λ x. cell l x r) (ap g d ∙ e ∙ ap h (sym d))
change_child-agree g h (suc k) (cell l c r) t s e = ap (λ x. cell l c x) (change_child-agree g h k r t s e)
change_child-agree g h k (operator o) t s e = refl
change_child-agree g h k (with_child f c) t s e =
    let n : length (children_of f ++ c ∷ []) ≡ length (children_of f) + 1 = length-append (children_of f) (c ∷ []) in
    let w : k < length (children_of f ++ c ∷ []) = slice_get_within (children_of f ++ c ∷ []) k t s in
    elim (eqb_tells (length (children_of f)) k) [
      | inl q ↦
          let d = same_Some c t (sym (slice_get-end (children_of f) c) ∙ ap (slice_get (children_of f ++ c ∷ [])) q.1 ∙ s) in
          ap (λ b. cond b (with_child f (g c)) (with_child (change_child g k f) c)) q.0
          ∙ ap (λ x. with_child f x) (ap g d ∙ e ∙ ap h (sym d))
          ∙ ap (λ b. cond b (with_child f (h c)) (with_child (change_child h k f) c)) (sym q.0)
      | inr q ↦
          let m : k < length (children_of f) = omega (arith, n, w, q.1) in
          ap (λ b. cond b (with_child f (g c)) (with_child (change_child g k f) c)) q.0
          ∙ ap (λ x. with_child x c) (change_child-agree g h k f t (sym (got_front (children_of f) (c ∷ []) k m) ∙ s) e)
          ∙ ap (λ b. cond b (with_child f (h c)) (with_child (change_child h k f) c)) (sym q.0)
    ]
change_child-agree g h k (with_name f n) t s e = ap (λ x. with_name x n) (change_child-agree g h k f t s e)
change_child-agree g h k (with_number f n) t s e = ap (λ x. with_number x n) (change_child-agree g h k f t s e)
change_child-agree g h k (with_text f n) t s e = ap (λ x. with_text x n) (change_child-agree g h k f t s e)
change_child-agree g h k anything t s e = refl
change_child-agree g h k (observed f) t s e = ap observed (change_child-agree g h k f t s e)

-- changes that agree at the node
pub change_at-agree : (g h : Fragment → Fragment) (path : Path) (f x : Fragment) → node_at f path ≡ Some x → g x ≡ h x → change_at g path f ≡ change_at h path f
change_at-agree g h [] f x s e = let d = same_Some f x s in ap g d ∙ e ∙ ap h (sym d)
change_at-agree g h (k ∷ path) f x s e =
    let c = step (slice_get (children_of f) k) path x s in
    change_child-agree (change_at g path) (change_at h path) k f c.0 c.1 (change_at-agree g h path c.0 x c.2 e)

-- no step is left
pub replaced_here : (f new made : Fragment) (steps : List ℕ) → length steps < 1 → made ≡ new → IsReplaced f steps new made
replaced_here f new made steps h e =
    let n : steps ≡ [] = nil_from_length steps (omega arith) in
    subst (λ p. IsReplaced f p new made) (sym n) ((f, refl), e)

-- one step more
pub replaced_more : (f inner new changed made : Fragment) (steps : List ℕ) → 1 ≤ length steps
    → Some inner ≡ slice_get (children_of f) (get_or steps 0 0)
    → IsReplaced inner (take (length steps - 1) (drop 1 steps)) new changed
    → made ≡ put_child changed (get_or steps 0 0) f → IsReplaced f steps new made
replaced_more f inner new changed made steps h s b m =
    let rest : List ℕ = take (length steps - 1) (drop 1 steps) in
    let e : steps ≡ get_or steps 0 0 ∷ take (length steps - 1) (drop 1 steps) = first_rest steps 0 (omega arith) in
    subst (λ p. IsReplaced f p new made) (sym e)
    ((b.0.0, ap (option_and_then (λ t. node_at t rest)) (sym s) ∙ b.0.1), m ∙ change_child-agree (λ old. changed) (change_at (λ old. new) rest) (get_or steps 0 0) f inner (sym s) b.1)
