-- The sizes of a node, part by part and element by element.
use Rattle.std.proofs.Common.{◌≡◌, ℕ, ◌+◌, ◌-◌, ◌^◌, ◌<◌, ◌≤◌, min, max, Bool, false, List, [], ◌∷◌, ◌++◌, length, take, get_or, refl, ap, sym, subst, ◌∙◌, arith}
use Rattle.std.proofs.lemmas.List.{take_more, take_all}
use Rattle.psg_grammar.specs.Fragments.{Fragment, operator, children_of}
use Rattle.psg_grammar.specs.Sizes.{nodes_of, depth_of, longest_of}
use Rattle.psg_tree.specs.declared.sizes.Sizes.{Sizes}
use Rattle.psg_tree.specs.declared.tree.Part.{Part}
use Rattle.psg_tree.specs.Shapes.{with_part, with_parts, list_of}
use Rattle.psg_tree.specs.TreeSizes.{AreSizesOf, IsMore}
use Rattle.psg_tree.proofs.Children.{children-list}
use Rattle.psg_tree.proofs.Texts.{with_parts-push}

-- ---- numbers up to m

sum-capped : (m a b x y z : ℕ) → x ≡ min a m → y ≡ min b m → z ≡ min (x + y) m → z ≡ min (a + b) m
sum-capped m a b x y z h k l = omega (arith, h, k, l)

below-capped : (m a b x y z : ℕ) → x ≡ min a m → y ≡ min b m → z ≡ max x (min (y + 1) m) → z ≡ min (max a (b + 1)) m
below-capped m a b x y z h k l = omega (arith, h, k, l)

most-capped : (m a b x y z : ℕ) → x ≡ min a m → y ≡ min b m → z ≡ max x y → z ≡ min (max a b) m
most-capped m a b x y z h k l = omega (arith, h, k, l)

-- ---- parts

-- one more part
pub part_next : (ps : List Part) (i : ℕ) (p : Part) (s whole : Sizes) → i < length ps → p ≡ get_or ps i p
    → ((f : Fragment) → AreSizesOf f s → AreSizesOf (with_part f p) whole)
    → ((o : ℕ) → AreSizesOf (with_parts (operator o) (take i ps)) s)
    → (o : ℕ) → AreSizesOf (with_parts (operator o) (take (i + 1) ps)) whole
part_next ps i p s whole h e more before o =
    let t : take (i + 1) ps ≡ take i ps ++ p ∷ [] = take_more ps i p h ∙ ap (λ x. take i ps ++ x ∷ []) (sym e) in
    let made : with_parts (operator o) (take (i + 1) ps) ≡ with_part (with_parts (operator o) (take i ps)) p =
    ap (with_parts (operator o)) t ∙ with_parts-push (operator o) (take i ps) p in
    subst (λ f. AreSizesOf f whole) (sym made) (more (with_parts (operator o) (take i ps)) (before o))

-- ---- elements

-- the longest list in one of the trees
abbrev pub longest_in : List Fragment → ℕ
longest_in [] = 0
longest_in (e ∷ es) = max (longest_of e) (longest_in es)

-- the sizes of a list of the elements, but for their number
pub record AreBelow (es : List Fragment) (s : Sizes) : Type 0 where
  pub nodes_below : s.nodes ≡ min (nodes_of (list_of 0 es false)) (2 ^ 64 - 1)
  pub depth_below : s.depth ≡ min (depth_of (list_of 0 es false)) (2 ^ 64 - 1)
  pub longest_below : s.longest ≡ min (longest_in es) (2 ^ 64 - 1)

nodes-push : (es : List Fragment) (e : Fragment)
    → nodes_of (list_of 0 es false) + nodes_of e ≡ nodes_of (list_of 0 (es ++ e ∷ []) false)
nodes-push [] e = omega arith
nodes-push (x ∷ es) e = omega (arith, nodes-push es e)

depth-push : (es : List Fragment) (e : Fragment)
    → max (depth_of (list_of 0 es false)) (depth_of e + 1) ≡ depth_of (list_of 0 (es ++ e ∷ []) false)
depth-push [] e = omega arith
depth-push (x ∷ es) e = omega (arith, depth-push es e)

longest-push : (es : List Fragment) (e : Fragment) → max (longest_in es) (longest_of e) ≡ longest_in (es ++ e ∷ [])
longest-push [] e = omega arith
longest-push (x ∷ es) e = omega (arith, longest-push es e)

-- one more element
pub element_next : (es : List Fragment) (i : ℕ) (e : Fragment) (s child whole : Sizes) → i < length es → e ≡ get_or es i e
    → AreSizesOf e child → IsMore s child whole → AreBelow (take i es) s → AreBelow (take (i + 1) es) whole
element_next es i e s child whole h at k more before =
    let t : take (i + 1) es ≡ take i es ++ e ∷ [] = take_more es i e h ∙ ap (λ x. take i es ++ x ∷ []) (sym at) in
    subst (λ x. AreBelow x whole) (sym t) (record {
      nodes_below = sum-capped _ _ _ _ _ _ before.nodes_below k.nodes_right more.nodes_more
          ∙ ap (λ n. min n (2 ^ 64 - 1)) (nodes-push (take i es) e);
      depth_below = below-capped _ _ _ _ _ _ before.depth_below k.depth_right more.depth_more
          ∙ ap (λ n. min n (2 ^ 64 - 1)) (depth-push (take i es) e);
      longest_below = most-capped _ _ _ _ _ _ before.longest_below k.longest_right more.longest_more
          ∙ ap (λ n. min n (2 ^ 64 - 1)) (longest-push (take i es) e);
    })

-- the kind of a list and its end don't count
nodes-list_of : (l : ℕ) (es : List Fragment) (u : Bool) → nodes_of (list_of 0 es false) ≡ nodes_of (list_of l es u)
nodes-list_of l [] u = refl
nodes-list_of l (e ∷ es) u = ap (λ n. nodes_of e + n) (nodes-list_of l es u)

depth-list_of : (l : ℕ) (es : List Fragment) (u : Bool) → depth_of (list_of 0 es false) ≡ depth_of (list_of l es u)
depth-list_of l [] u = refl
depth-list_of l (e ∷ es) u = ap (λ n. max (depth_of e + 1) n) (depth-list_of l es u)

-- a list is as long as it has elements, or as the longest in them
longest-list_of : (l : ℕ) (es : List Fragment) (u : Bool) → max (longest_in es) (length es) ≡ longest_of (list_of l es u)
longest-list_of l [] u = omega arith
longest-list_of l (e ∷ es) u =
    let n : length (children_of (list_of l es u)) ≡ length es = ap length (children-list l es u) in
    omega (arith, n, longest-list_of l es u)

-- all elements, and how many they are
pub all_elements : (es : List Fragment) (i : ℕ) (s whole : Sizes) → length es ≤ i → length es < 2 ^ 64
    → AreBelow (take i es) s → whole.nodes ≡ s.nodes → whole.depth ≡ s.depth → whole.longest ≡ max s.longest (length es)
    → (l : ℕ) (u : Bool) → AreSizesOf (list_of l es u) whole
all_elements es i s whole past few h n d k l u =
    let b : AreBelow es s = subst (λ x. AreBelow x s) (take_all i es past) h in
    record {
      nodes_right = n ∙ b.nodes_below ∙ ap (λ x. min x (2 ^ 64 - 1)) (nodes-list_of l es u);
      depth_right = d ∙ b.depth_below ∙ ap (λ x. min x (2 ^ 64 - 1)) (depth-list_of l es u);
      longest_right =
          most-capped (2 ^ 64 - 1) (longest_in es) (length es) s.longest (length es) whole.longest b.longest_below
          (omega (arith, few)) k
          ∙ ap (λ x. min x (2 ^ 64 - 1)) (longest-list_of l es u);
    }
