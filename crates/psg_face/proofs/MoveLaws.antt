-- The last step of a path, and how far a path leads.
use Rattle.std.proofs.Common.{◌≡◌, ℕ, suc, ◌+◌, ◌-◌, ◌==◌, ◌&&◌, Bool, true, false, cond, List, [], ◌∷◌, ◌++◌, length, take}
use Rattle.std.proofs.Common.{Some, None, slice_get, refl, ap, ap₂, sym, ◌∙◌, arith}
use Rattle.psg_grammar.specs.Fragments.{Fragment, children_of}
use Rattle.psg_grammar.specs.Paths.{Path, node_at}
use Rattle.psg_tree.specs.declared.tree.Shape.{Shape}
use Rattle.psg_tree.specs.declared.tree.Shape.TheVariants.{Op, List as ListOf, Hole}
use Rattle.psg_tree.specs.declared.tree.Part.{Part}
use Rattle.psg_tree.specs.declared.tree.Part.TheVariants.{Sub, Name, Number, Text}
use Rattle.psg_tree.specs.Shapes.{list_of, tree_of, with_part, with_parts}
use Rattle.psg_grammar.specs.Fragments.{operator}
use Rattle.psg_face.specs.Moves.{is_open_list, is_end, is_end_at, is_dots, parent_of, last_step, with_last}
use Rattle.psg_face.specs.Moves.{after, led_to, to_next, to_previous, far_by, as_far}

-- ---- the last step

pub parent_push : (front : Path) (k : ℕ) → parent_of (front ++ k ∷ []) ≡ front
parent_push [] k = refl
parent_push (l ∷ []) k = refl
parent_push (l ∷ (m ∷ front)) k = ap (λ p. l ∷ p) (parent_push (m ∷ front) k)

last_push : (l : ℕ) (front : Path) (k : ℕ) → last_step l (front ++ k ∷ []) ≡ k
last_push l [] k = refl
last_push l (m ∷ front) k = last_push m front k

pub parent_is : (path front : Path) (k : ℕ) → path ≡ front ++ k ∷ [] → front ≡ parent_of path
parent_is path front k e = sym (parent_push front k) ∙ ap parent_of (sym e)

pub dots_push : (f : Fragment) (front : Path) (k : ℕ) → is_dots f (front ++ k ∷ []) ≡ is_end_at (node_at f front) k
dots_push f [] k = refl
dots_push f (l ∷ front) k =
    ap₂ (λ p m. is_end_at (node_at f p) m) (parent_push (l ∷ front) k) (last_push l front k)

pub dots_is : (f : Fragment) (path front : Path) (k : ℕ) (r : Bool) → path ≡ front ++ k ∷ []
    → r ≡ is_end_at (node_at f front) k → r ≡ is_dots f path
dots_is f path front k r e h = h ∙ sym (dots_push f front k) ∙ ap (is_dots f) (sym e)

pub with_last_push : (g : ℕ → ℕ) (front : Path) (k : ℕ) → with_last g (front ++ k ∷ []) ≡ front ++ g k ∷ []
with_last_push g [] k = refl
with_last_push g (l ∷ front) k =
    ap₂ (λ p m. p ++ g m ∷ []) (parent_push (l ∷ front) k) (last_push l front k)

-- ---- the end of a list

open_list : (l : ℕ) (es : List Fragment) (u : Bool) → is_open_list (list_of l es u) ≡ u
open_list l [] u = refl
open_list l (e ∷ es) u = open_list l es u

count_list : (l : ℕ) (es : List Fragment) (u : Bool) → length (children_of (list_of l es u)) ≡ length es
count_list l [] u = refl
count_list l (e ∷ es) u = ap suc (count_list l es u)

no_list : (f : Fragment) (ps : List Part) → is_open_list f ≡ false → is_open_list (with_parts f ps) ≡ false
no_list f [] e = e
no_list f (Sub t ∷ ps) e = no_list (with_part f (Sub t)) ps refl
no_list f (Name x ∷ ps) e = no_list (with_part f (Name x)) ps refl
no_list f (Number x ∷ ps) e = no_list (with_part f (Number x)) ps refl
no_list f (Text x ∷ ps) e = no_list (with_part f (Text x)) ps refl

pub end_of_list : (s : Shape) (l : ℕ) (es : List Fragment) (u : Bool) (f : Fragment) (k : ℕ) → s ≡ ListOf l es u
    → tree_of s ≡ f → (u && (length es == k)) ≡ is_end f k
end_of_list s l es u f k is e =
    sym (ap₂ (λ b n. b && (n == k)) (open_list l es u) (count_list l es u)) ∙ ap (λ t. is_end t k) (ap tree_of (sym is) ∙ e)

pub end_of_op : (s : Shape) (o : ℕ) (ps : List Part) (f : Fragment) (k : ℕ) → s ≡ Op o ps → tree_of s ≡ f
    → false ≡ is_end f k
end_of_op s o ps f k is e =
    sym (ap (λ b. b && (length (children_of (with_parts (operator o) ps)) == k)) (no_list (operator o) ps refl))
    ∙ ap (λ t. is_end t k) (ap tree_of (sym is) ∙ e)

pub end_of_hole : (s : Shape) (p : ℕ) (f : Fragment) (k : ℕ) → s ≡ Hole p → tree_of s ≡ f → false ≡ is_end f k
end_of_hole s p f k is e = ap (λ t. is_end t k) (ap tree_of (sym is) ∙ e)

-- ---- where arrows lead

pub next_is : (f : Fragment) (path front : Path) (k step : ℕ) (other led : Path) → path ≡ front ++ k ∷ [] → step ≡ after k
    → other ≡ front ++ step ∷ [] → led ≡ led_to f path other → led ≡ to_next f path
next_is f path front k step other led p s o l =
    l ∙ ap₂ (led_to f) p (o ∙ ap (λ m. front ++ m ∷ []) s) ∙ pushed front ∙ ap (to_next f) (sym p)
  where
    pushed : (front : Path) → led_to f (front ++ k ∷ []) (front ++ after k ∷ []) ≡ to_next f (front ++ k ∷ [])
    pushed [] = refl
    pushed (l ∷ front) = ap (led_to f (l ∷ (front ++ k ∷ []))) (sym (with_last_push after (l ∷ front) k))

pub previous_is : (path front : Path) (k step : ℕ) (led : Path) → path ≡ front ++ k ∷ [] → step ≡ k - 1
    → led ≡ front ++ step ∷ [] → led ≡ to_previous path
previous_is path front k step led p s l =
    l ∙ ap (λ m. front ++ m ∷ []) s ∙ sym (with_last_push (λ m. m - 1) front k) ∙ ap to_previous (sym p)

pub far_on : (f next : Fragment) (k : ℕ) (steps rest : Path) (r : ℕ) → steps ≡ k ∷ rest
    → Some next ≡ slice_get (children_of f) k → take r rest ≡ as_far next rest → take (r + 1) steps ≡ as_far f steps
far_on f next k steps rest r e c h =
    let z : r + 1 ≡ suc r = omega arith in
    ap₂ take z e ∙ ap (λ p. k ∷ p) h ∙ ap (far_by f k (λ child. as_far child rest)) c ∙ ap (as_far f) (sym e)

pub far_end : (f : Fragment) (k : ℕ) (steps rest : Path) (so : Bool) (r : ℕ) → steps ≡ k ∷ rest
    → None ≡ slice_get (children_of f) k → so ≡ is_end f k → r ≡ cond so 1 0 → take r steps ≡ as_far f steps
far_end f k steps rest so r e c s h =
    ap₂ take (h ∙ ap (λ b. cond b 1 0) s) e ∙ by_end (is_end f k) ∙ ap (far_by f k (λ child. as_far child rest)) c
    ∙ ap (as_far f) (sym e)
  where
    by_end : (b : Bool) → take (cond b 1 0) (k ∷ rest) ≡ cond b (k ∷ []) []
    by_end true = refl
    by_end false = refl
