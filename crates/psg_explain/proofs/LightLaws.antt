-- No step of a node passes the limit, where none of the whole tree does.
use Rattle.std.proofs.Common.{◌≡◌, ◌⊎◌, inl, inr, ℕ, zero, suc, ◌+◌, ◌-◌, ◌≤◌, Bool, true, false, List, [], ◌∷◌, ◌++◌, length, Option, Some, None, slice_get, option_and_then, refl, ap, sym, subst, arith}
use Rattle.std.specs.List.{AllByRecursion}
use Rattle.psg_terms.specs.Relations.{IsIn, first}
use Rattle.psg_terms.proofs.Lists.{in_left, in_right}
use Rattle.psg_grammar.specs.declared.types.Definition.{Definition}
use Rattle.psg_grammar.specs.Fragments.{Fragment, hole, ending, cell, operator, with_child, with_name, with_number, with_text, anything, observed, children_of}
use Rattle.psg_grammar.specs.Lookups.{is_scope}
use Rattle.psg_grammar.specs.Paths.{Path, node_at}
use Rattle.psg_grammar.specs.Steps.{AreWithin, IsWide, Place, last_step, list_steps, own_steps, steps_below, steps_of, steps_up_to}
use Rattle.psg_eval.specs.Summaries.{StaysWithin}
use Rattle.psg_cache.proofs.Each.{each_append}
use Rattle.psg_explain.specs.Plans.{Below, Done, Step, adding, closing, listing, making, planned, planned_below}
use Rattle.psg_explain.proofs.PlanLaws.{IsFront, IsRest, IsWalked}

module _ (def : Definition) where
  abbrev IsLight : Fragment → Type 0
  IsLight f = StaysWithin def f

  abbrev AreLight : List Step → Type 0
  AreLight steps = AllByRecursion (λ (s : Step). StaysWithin def s.part) steps

  -- ---- own steps

  abbrev own_place : Path → Fragment → ℕ → Place
  own_place path f k = record { path = path; part = f; step = k }

  own_in : (path : Path) (f : Fragment) (n k : ℕ) → k ≤ n → IsIn (own_place path f k) (steps_up_to path f n)
  own_in path f zero k le =
      let e : k ≡ 0 = omega (arith, le) in
      let here : IsIn (own_place path f 0) (own_place path f 0 ∷ []) = first in
      subst (λ (m : ℕ). IsIn (own_place path f m) (own_place path f 0 ∷ [])) (sym e) here
  own_in path f (suc n) k le = elim (up_to n k le) [
    | inl less ↦ in_left (own_place path f k) (steps_up_to path f n) (own_place path f (suc n) ∷ []) (own_in path f n k less)
    | inr e ↦
        let here : IsIn (own_place path f (suc n)) (own_place path f (suc n) ∷ []) = first in
        in_right (own_place path f k) (steps_up_to path f n) (own_place path f (suc n) ∷ [])
        (subst (λ (m : ℕ). IsIn (own_place path f m) (own_place path f (suc n) ∷ [])) (sym e) here)
  ]
    where
      up_to : (n k : ℕ) → k ≤ suc n → (k ≤ n) ⊎ (k ≡ suc n)
      up_to n zero l = inl (omega arith)
      up_to zero (suc k) l = let e : suc k ≡ suc zero = omega (arith, l) in inr e
      up_to (suc n) (suc k) l = elim (up_to n k (omega (arith, l))) [ inl a ↦ inl (omega (arith, a)) | inr b ↦ inr (ap suc b) ]

  own_light : (path : Path) (f : Fragment) → AreWithin def (own_steps def path f) → IsLight f
  own_light path f h k le = h (own_place path f k) (own_in path f (last_step def f) k le)

  left_within : (xs ys : List Place) → AreWithin def (xs ++ ys) → AreWithin def xs
  left_within xs ys h place at = h place (in_left place xs ys at)

  right_within : (xs ys : List Place) → AreWithin def (xs ++ ys) → AreWithin def ys
  right_within xs ys h place at = h place (in_right place xs ys at)

  -- ---- each node and each rest of a list

  abbrev mutual
    IsLightTree : Fragment → Type 0
    IsLightTree (hole p) = IsLight (hole p)
    IsLightTree (ending l u) = IsLight (ending l u)
    IsLightTree (cell l e r) = IsLightTree e × AreLightBelow r × (IsLightList r × IsLight (cell l e r))
    IsLightTree (operator o) = IsLight (operator o)
    IsLightTree (with_child f t) = AreLightBelow f × IsLightTree t × IsLight (with_child f t)
    IsLightTree (with_name f n) = AreLightBelow f × IsLight (with_name f n)
    IsLightTree (with_number f n) = AreLightBelow f × IsLight (with_number f n)
    IsLightTree (with_text f n) = AreLightBelow f × IsLight (with_text f n)
    IsLightTree anything = Unit {0}
    IsLightTree (observed f) = IsLightTree f

    AreLightBelow : Fragment → Type 0
    AreLightBelow (cell l e r) = IsLightTree e × AreLightBelow r
    AreLightBelow (with_child f t) = AreLightBelow f × IsLightTree t
    AreLightBelow (with_name f n) = AreLightBelow f
    AreLightBelow (with_number f n) = AreLightBelow f
    AreLightBelow (with_text f n) = AreLightBelow f
    AreLightBelow (hole p) = Unit {0}
    AreLightBelow (ending l u) = Unit {0}
    AreLightBelow (operator o) = Unit {0}
    AreLightBelow anything = Unit {0}
    AreLightBelow (observed f) = AreLightBelow f

    IsLightList : Fragment → Type 0
    IsLightList (cell l e r) = IsLightList r × IsLight (cell l e r)
    IsLightList (ending l u) = IsLight (ending l u)
    IsLightList (hole p) = Unit {0}
    IsLightList (operator o) = Unit {0}
    IsLightList (with_child f t) = Unit {0}
    IsLightList (with_name f n) = Unit {0}
    IsLightList (with_number f n) = Unit {0}
    IsLightList (with_text f n) = Unit {0}
    IsLightList anything = Unit {0}
    IsLightList (observed f) = Unit {0}

  list_light : (path : Path) (f : Fragment) → AreWithin def (list_steps def path f) → IsLightList f
  list_light path (cell l e r) h =
      (list_light path r (left_within (list_steps def path r) (own_steps def path (cell l e r)) h), own_light path (cell l e r) (right_within (list_steps def path r) (own_steps def path (cell l e r)) h))
  list_light path (ending l u) h = own_light path (ending l u) h
  list_light path (hole p) h = tt
  list_light path (operator o) h = tt
  list_light path (with_child f t) h = tt
  list_light path (with_name f n) h = tt
  list_light path (with_number f n) h = tt
  list_light path (with_text f n) h = tt
  list_light path anything h = tt
  list_light path (observed f) h = tt

  mutual
    tree_light : (path : Path) (f : Fragment) → AreWithin def (steps_of def path f) → IsLightTree f
    tree_light path (hole p) h = own_light path (hole p) h
    tree_light path (ending l u) h = own_light path (ending l u) h
    tree_light path (cell l e r) h =
        let one : List Place = steps_of def (path ++ 0 ∷ []) e in
        let two : List Place = steps_below def path 1 r in
        let three : List Place = list_steps def path (cell l e r) in
        let front = left_within (one ++ two) three h in
        (tree_light (path ++ 0 ∷ []) e (left_within one two front), below_light path 1 r (right_within one two front), list_light path (cell l e r) (right_within (one ++ two) three h))
    tree_light path (operator o) h = own_light path (operator o) h
    tree_light path (with_child f t) h =
        let one : List Place = steps_below def path 0 f in
        let two : List Place = steps_of def (path ++ length (children_of f) ∷ []) t in
        let three : List Place = own_steps def path (with_child f t) in
        let front = left_within (one ++ two) three h in
        (below_light path 0 f (left_within one two front), tree_light (path ++ length (children_of f) ∷ []) t (right_within one two front), own_light path (with_child f t) (right_within (one ++ two) three h))
    tree_light path (with_name f n) h =
        let one : List Place = steps_below def path 0 f in
        let two : List Place = own_steps def path (with_name f n) in
        (below_light path 0 f (left_within one two h), own_light path (with_name f n) (right_within one two h))
    tree_light path (with_number f n) h =
        let one : List Place = steps_below def path 0 f in
        let two : List Place = own_steps def path (with_number f n) in
        (below_light path 0 f (left_within one two h), own_light path (with_number f n) (right_within one two h))
    tree_light path (with_text f n) h =
        let one : List Place = steps_below def path 0 f in
        let two : List Place = own_steps def path (with_text f n) in
        (below_light path 0 f (left_within one two h), own_light path (with_text f n) (right_within one two h))
    tree_light path anything h = tt
    tree_light path (observed f) h = tree_light path f h

    below_light : (path : Path) (n : ℕ) (f : Fragment) → AreWithin def (steps_below def path n f) → AreLightBelow f
    below_light path n (cell l e r) h =
        let one : List Place = steps_of def (path ++ n ∷ []) e in
        let two : List Place = steps_below def path (n + 1) r in
        (tree_light (path ++ n ∷ []) e (left_within one two h), below_light path (n + 1) r (right_within one two h))
    below_light path n (with_child f t) h =
        let one : List Place = steps_below def path n f in
        let two : List Place = steps_of def (path ++ length (children_of f) ∷ []) t in
        (below_light path n f (left_within one two h), tree_light (path ++ length (children_of f) ∷ []) t (right_within one two h))
    below_light path n (with_name f m) h = below_light path n f h
    below_light path n (with_number f m) h = below_light path n f h
    below_light path n (with_text f m) h = below_light path n f h
    below_light path n (hole p) h = tt
    below_light path n (ending l u) h = tt
    below_light path n (operator o) h = tt
    below_light path n anything h = tt
    below_light path n (observed f) h = below_light path n f h

  -- ---- a node of the tree

  push_light : (xs : List Fragment) (t : Fragment) → AllByRecursion IsLightTree xs → IsLightTree t → AllByRecursion IsLightTree (xs ++ t ∷ [])
  push_light [] t h k = (k, tt)
  push_light (x ∷ xs) t (h, hs) k = (h, push_light xs t hs k)

  children_light : (f : Fragment) → AreLightBelow f → AllByRecursion IsLightTree (children_of f)
  children_light (cell l e r) (h, k) = (h, children_light r k)
  children_light (with_child f t) (h, k) = push_light (children_of f) t (children_light f h) k
  children_light (with_name f n) h = children_light f h
  children_light (with_number f n) h = children_light f h
  children_light (with_text f n) h = children_light f h
  children_light (hole p) h = tt
  children_light (ending l u) h = tt
  children_light (operator o) h = tt
  children_light anything h = tt
  children_light (observed f) h = children_light f h

  trees_below : (f : Fragment) → IsLightTree f → AllByRecursion IsLightTree (children_of f)
  trees_below (hole p) h = tt
  trees_below (ending l u) h = tt
  trees_below (cell l e r) (he, hr, hl) = (he, children_light r hr)
  trees_below (operator o) h = tt
  trees_below (with_child f t) (hf, ht, h) = push_light (children_of f) t (children_light f hf) ht
  trees_below (with_name f n) (hf, h) = children_light f hf
  trees_below (with_number f n) (hf, h) = children_light f hf
  trees_below (with_text f n) (hf, h) = children_light f hf
  trees_below anything h = tt
  trees_below (observed f) h = trees_below f h

  light_among : (ts : List Fragment) (k : ℕ) (t : Fragment) → AllByRecursion IsLightTree ts → slice_get ts k ≡ Some t → IsLightTree t
  light_among [] k t h e = absurd (cc)
  light_among (x ∷ ts) zero t (h, hs) e = let d : x ≡ t = cc in subst IsLightTree d h
  light_among (x ∷ ts) (suc k) t (h, hs) e = light_among ts k t hs e

  light_at : (path : Path) (f node : Fragment) → IsLightTree f → node_at f path ≡ Some node → IsLightTree node
  light_at [] f node h e = let d : f ≡ node = cc in subst IsLightTree d h
  light_at (k ∷ path) f node h e = under (slice_get (children_of f) k) refl (λ c hc ec. light_at path c node hc ec) e
    where
      under : (o : Option Fragment) → slice_get (children_of f) k ≡ o → ((c : Fragment) → IsLightTree c → node_at c path ≡ Some node → IsLightTree node) → option_and_then (λ (t : Fragment). node_at t path) o ≡ Some node → IsLightTree node
      under None d more e = absurd (cc)
      under (Some c) d more e = more c (light_among (children_of f) k c (trees_below f h) d) e

  -- ---- the steps of a plan

  abbrev IsLightStep : Step → Type 0
  IsLightStep s = StaysWithin def s.part

  closing_light : (b : Bool) (path : Path) (c : Option ℕ) (f : Fragment) (n before : ℕ) → IsLight f → AreLight (closing def b path c f n before)
  closing_light true path c f n before h = (h, tt)
  closing_light false path c f n before h = tt

  adding_light : (path : Path) (c : Option ℕ) (f : Fragment) (n before : ℕ) (ds : List Done) → IsLight f → AreLight (adding def path c f n before ds)
  adding_light path c f n before [] h = closing_light (is_scope def f) path c f n before h
  adding_light path c f n before (d ∷ ds) h = (h, adding_light path c f (n + 1) (before + 1) ds h)

  making_light : (base : ℕ) (path : Path) (c : Option ℕ) (f : Fragment) (ds : List Done) → IsLight f → AreLight (making def base path c f ds)
  making_light base path c f ds h = (h, adding_light path c f 0 base ds h)

  listing_light : (base : ℕ) (path : Path) (n : ℕ) (f : Fragment) (ds : List Done) → IsRest f → IsLightList f → AreLight (listing def base path n f ds)
  listing_light base path n (ending l u) ds w h = making_light base path (Some n) (ending l u) [] h
  listing_light base path n (cell l e r) [] w h = tt
  listing_light base path n (cell l e r) (d ∷ ds) (we, wr) (hr, h) =
      let front : List Step = listing def base path (n + 1) r ds in
      let both : List Done = d ∷ record { tree = r; place = base + length front - 1 } ∷ [] in
      each_append IsLightStep front (making def (base + length front) path (Some n) (cell l e r) both) (listing_light base path (n + 1) r ds wr hr) (making_light (base + length front) path (Some n) (cell l e r) both h)
  listing_light base path n (hole p) ds w h = absurd w
  listing_light base path n (operator o) ds w h = absurd w
  listing_light base path n (with_child f t) ds w h = absurd w
  listing_light base path n (with_name f m) ds w h = absurd w
  listing_light base path n (with_number f m) ds w h = absurd w
  listing_light base path n (with_text f m) ds w h = absurd w
  listing_light base path n anything ds w h = absurd w
  listing_light base path n (observed f) ds w h = absurd w

  node_made : (base : ℕ) (path : Path) (f : Fragment) (b : Below) → AreLight b.steps → IsLight f → AreLight (b.steps ++ making def (base + length b.steps) path None f b.children)
  node_made base path f b h k = each_append IsLightStep b.steps (making def (base + length b.steps) path None f b.children) h (making_light (base + length b.steps) path None f b.children k)

  mutual
    pub planned_light : (base : ℕ) (path : Path) (f : Fragment) → IsWalked f → IsLightTree f → AreLight (planned def base path f)
    planned_light base path (hole p) w h = making_light base path None (hole p) [] h
    planned_light base path (ending l u) w h = making_light base path (Some 0) (ending l u) [] h
    planned_light base path (cell l e r) (we, wr) (he, hr, hl) =
        let one : List Step = planned def base (path ++ 0 ∷ []) e in
        let b : Below = planned_below def (base + length one) path 1 r in
        let ds : List Done = record { tree = e; place = base + length one - 1 } ∷ b.children in
        let front = each_append IsLightStep one b.steps (planned_light base (path ++ 0 ∷ []) e we he) (rest_lightly (base + length one) path 1 r wr hr) in
        each_append IsLightStep (one ++ b.steps) (listing def (base + length (one ++ b.steps)) path 0 (cell l e r) ds) front (listing_light (base + length (one ++ b.steps)) path 0 (cell l e r) ds (we, wr) hl)
    planned_light base path (operator o) w h = making_light base path None (operator o) [] h
    planned_light base path (with_child f t) (wf, wt) (hf, ht, h) =
        let b : Below = planned_below def base path 0 f in
        let steps = each_append IsLightStep b.steps (planned def (base + length b.steps) (path ++ length (children_of f) ∷ []) t) (front_lightly base path 0 f wf hf)
        (planned_light (base + length b.steps) (path ++ length (children_of f) ∷ []) t wt ht) in
        node_made base path (with_child f t) (planned_below def base path 0 (with_child f t)) steps h
    planned_light base path (with_name f m) w (hf, h) = node_made base path (with_name f m) (planned_below def base path 0 f) (front_lightly base path 0 f w hf) h
    planned_light base path (with_number f m) w (hf, h) = node_made base path (with_number f m) (planned_below def base path 0 f) (front_lightly base path 0 f w hf) h
    planned_light base path (with_text f m) w (hf, h) = node_made base path (with_text f m) (planned_below def base path 0 f) (front_lightly base path 0 f w hf) h
    planned_light base path anything w h = absurd w
    planned_light base path (observed f) w h = absurd w

    front_lightly : (base : ℕ) (path : Path) (n : ℕ) (f : Fragment) → IsFront f → AreLightBelow f → AreLight (planned_below def base path n f).steps
    front_lightly base path n (operator o) w h = tt
    front_lightly base path n (with_child f t) (wf, wt) (hf, ht) =
        let b : Below = planned_below def base path n f in
        each_append IsLightStep b.steps (planned def (base + length b.steps) (path ++ length (children_of f) ∷ []) t) (front_lightly base path n f wf hf)
        (planned_light (base + length b.steps) (path ++ length (children_of f) ∷ []) t wt ht)
    front_lightly base path n (with_name f m) w h = front_lightly base path n f w h
    front_lightly base path n (with_number f m) w h = front_lightly base path n f w h
    front_lightly base path n (with_text f m) w h = front_lightly base path n f w h
    front_lightly base path n (hole p) w h = absurd w
    front_lightly base path n (ending l u) w h = absurd w
    front_lightly base path n (cell l e r) w h = absurd w
    front_lightly base path n anything w h = absurd w
    front_lightly base path n (observed f) w h = absurd w

    rest_lightly : (base : ℕ) (path : Path) (n : ℕ) (f : Fragment) → IsRest f → AreLightBelow f → AreLight (planned_below def base path n f).steps
    rest_lightly base path n (ending l u) w h = tt
    rest_lightly base path n (cell l e r) (we, wr) (he, hr) =
        let one : List Step = planned def base (path ++ n ∷ []) e in
        each_append IsLightStep one (planned_below def (base + length one) path (n + 1) r).steps (planned_light base (path ++ n ∷ []) e we he) (rest_lightly (base + length one) path (n + 1) r wr hr)
    rest_lightly base path n (hole p) w h = absurd w
    rest_lightly base path n (operator o) w h = absurd w
    rest_lightly base path n (with_child f t) w h = absurd w
    rest_lightly base path n (with_name f m) w h = absurd w
    rest_lightly base path n (with_number f m) w h = absurd w
    rest_lightly base path n (with_text f m) w h = absurd w
    rest_lightly base path n anything w h = absurd w
    rest_lightly base path n (observed f) w h = absurd w

  -- of the node at the path, where no step of the tree passes the limit
  pub light_steps : (root : Fragment) (path : Path) (node : Fragment) → (IsWide def root → ⊥) → node_at root path ≡ Some node → IsWalked node → AllByRecursion (λ (s : Step). StaysWithin def s.part) (planned def 0 path node)
  light_steps root path node narrow there w = planned_light 0 path node w (light_at path root node (tree_light [] root (λ place at passes. narrow (place, at, passes))) there)
