-- No part of a plan declares a key twice, where the tree declares none twice.
use Rattle.std.proofs.Common.{◌≡◌, ℕ, ◌+◌, ◌-◌, ◌||◌, Bool, true, false, cond, List, [], ◌∷◌, ◌++◌, length, Option, Some, None, refl, sym, ◌∙◌}
use Rattle.std.specs.List.{AllByRecursion}
use Rattle.psg_terms.specs.Names.{has_twice}
use Rattle.psg_terms.proofs.Variables.{true_false}
use Rattle.psg_grammar.specs.declared.types.Definition.{Definition}
use Rattle.psg_grammar.specs.Fragments.{Fragment, hole, ending, cell, operator, with_child, with_name, with_number, with_text, anything, observed, children_of}
use Rattle.psg_grammar.specs.Keys.{Key}
use Rattle.psg_grammar.specs.Lookups.{is_declares, is_scope, key_at, next_item}
use Rattle.psg_grammar.specs.Paths.{Path}
use Rattle.psg_grammar.specs.Regions.{AreDistinct, DistinctBelow, IsDistinct, declared_inside}
use Rattle.psg_scope.proofs.MergeLaws.{has_twice-append, meets}
use Rattle.psg_cache.proofs.Each.{each_append, each_back, each_front}
use Rattle.psg_explain.specs.Plans.{Below, Done, Step, adding, closing, listing, making, planned, planned_below}
use Rattle.psg_explain.proofs.PlanLaws.{IsFront, IsRest, IsWalked}

first_two : (a b c : Bool) → ((a || b) || c) ≡ false → (a ≡ false) × (b ≡ false)
first_two false false c e = (refl, refl)
first_two false true c e = absurd (true_false e)
first_two true b c e = absurd (true_false e)

both_once : (xs ys : List Key) → has_twice (xs ++ ys) ≡ false → (has_twice xs ≡ false) × (has_twice ys ≡ false)
both_once xs ys e = first_two (has_twice xs) (has_twice ys) (meets xs ys) (sym (has_twice-append xs ys) ∙ e)

module _ (def : Definition) where
  abbrev IsOnce : Fragment → Type 0
  IsOnce f = has_twice (declared_inside def f) ≡ false

  -- the keys of a child that pass outward
  abbrev child_keys : Fragment → List Key
  child_keys t = cond (is_scope def t) [] (declared_inside def t)

  abbrev own_key : Fragment → List ℕ → List Key
  own_key f m = cond (is_declares (next_item def f)) (key_at def f m ∷ []) []

  child_once : (t : Fragment) → has_twice (child_keys t) ≡ false → AreDistinct (is_scope def t) (declared_inside def t) → IsOnce t
  child_once t = by (is_scope def t)
    where
      by : (b : Bool) → has_twice (cond b [] (declared_inside def t)) ≡ false → AreDistinct b (declared_inside def t) → has_twice (declared_inside def t) ≡ false
      by true e own = own refl
      by false e own = e

  -- ---- the steps of a plan

  abbrev IsOnceStep : Step → Type 0
  IsOnceStep s = has_twice (declared_inside def s.part) ≡ false

  abbrev pub AreOnce : List Step → Type 0
  AreOnce steps = AllByRecursion (λ (s : Step). has_twice (declared_inside def s.part) ≡ false) steps

  closing_once : (b : Bool) (path : Path) (c : Option ℕ) (f : Fragment) (n before : ℕ) → IsOnce f → AreOnce (closing def b path c f n before)
  closing_once true path c f n before h = (h, tt)
  closing_once false path c f n before h = tt

  adding_once : (path : Path) (c : Option ℕ) (f : Fragment) (n before : ℕ) (ds : List Done) → IsOnce f → AreOnce (adding def path c f n before ds)
  adding_once path c f n before [] h = closing_once (is_scope def f) path c f n before h
  adding_once path c f n before (d ∷ ds) h = (h, adding_once path c f (n + 1) (before + 1) ds h)

  making_once : (base : ℕ) (path : Path) (c : Option ℕ) (f : Fragment) (ds : List Done) → IsOnce f → AreOnce (making def base path c f ds)
  making_once base path c f ds h = (h, adding_once path c f 0 base ds h)

  listing_once : (base : ℕ) (path : Path) (n : ℕ) (f : Fragment) (ds : List Done) → IsRest f → IsOnce f → AreOnce (listing def base path n f ds)
  listing_once base path n (ending l u) ds w h = making_once base path (Some n) (ending l u) [] h
  listing_once base path n (cell l e r) [] w h = tt
  listing_once base path n (cell l e r) (d ∷ ds) (we, wr) h =
      let (one, more) = both_once (child_keys e) (declared_inside def r) h in
      let front : List Step = listing def base path (n + 1) r ds in
      let both : List Done = d ∷ record { tree = r; place = base + length front - 1 } ∷ [] in
      each_append IsOnceStep front (making def (base + length front) path (Some n) (cell l e r) both) (listing_once base path (n + 1) r ds wr more) (making_once (base + length front) path (Some n) (cell l e r) both h)
  listing_once base path n (hole p) ds w h = absurd w
  listing_once base path n (operator o) ds w h = absurd w
  listing_once base path n (with_child f t) ds w h = absurd w
  listing_once base path n (with_name f m) ds w h = absurd w
  listing_once base path n (with_number f m) ds w h = absurd w
  listing_once base path n (with_text f m) ds w h = absurd w
  listing_once base path n anything ds w h = absurd w
  listing_once base path n (observed f) ds w h = absurd w

  node_made : (base : ℕ) (path : Path) (f : Fragment) (b : Below) → AreOnce b.steps → IsOnce f → AreOnce (b.steps ++ making def (base + length b.steps) path None f b.children)
  node_made base path f b h k = each_append IsOnceStep b.steps (making def (base + length b.steps) path None f b.children) h (making_once (base + length b.steps) path None f b.children k)

  mutual
    pub planned_once : (base : ℕ) (path : Path) (f : Fragment) → IsWalked f → has_twice (declared_inside def f) ≡ false → DistinctBelow def f → AreOnce (planned def base path f)
    planned_once base path (hole p) w h b = making_once base path None (hole p) [] h
    planned_once base path (ending l u) w h b = making_once base path (Some 0) (ending l u) [] h
    planned_once base path (cell l e r) (we, wr) h (be, ae, br) =
        let (first, more) = both_once (child_keys e) (declared_inside def r) h in
        let one : List Step = planned def base (path ++ 0 ∷ []) e in
        let b : Below = planned_below def (base + length one) path 1 r in
        let ds : List Done = record { tree = e; place = base + length one - 1 } ∷ b.children in
        let front = each_append IsOnceStep one b.steps (planned_once base (path ++ 0 ∷ []) e we (child_once e first ae) be) (rest_once (base + length one) path 1 r wr more br) in
        each_append IsOnceStep (one ++ b.steps) (listing def (base + length (one ++ b.steps)) path 0 (cell l e r) ds) front (listing_once (base + length (one ++ b.steps)) path 0 (cell l e r) ds (we, wr) h)
    planned_once base path (operator o) w h b = making_once base path None (operator o) [] h
    planned_once base path (with_child f t) (wf, wt) h (bf, bt, at) =
        let (front, last) = both_once (declared_inside def f) (child_keys t) h in
        let b : Below = planned_below def base path 0 f in
        let steps = each_append IsOnceStep b.steps (planned def (base + length b.steps) (path ++ length (children_of f) ∷ []) t) (front_once base path 0 f wf front bf)
        (planned_once (base + length b.steps) (path ++ length (children_of f) ∷ []) t wt (child_once t last at) bt) in
        node_made base path (with_child f t) (planned_below def base path 0 (with_child f t)) steps h
    planned_once base path (with_name f m) w h b = node_made base path (with_name f m) (planned_below def base path 0 f) (front_once base path 0 f w (both_once (declared_inside def f) (own_key f m) h).0 b) h
    planned_once base path (with_number f m) w h b = node_made base path (with_number f m) (planned_below def base path 0 f) (front_once base path 0 f w h b) h
    planned_once base path (with_text f m) w h b = node_made base path (with_text f m) (planned_below def base path 0 f) (front_once base path 0 f w h b) h
    planned_once base path anything w h b = absurd w
    planned_once base path (observed f) w h b = absurd w

    front_once : (base : ℕ) (path : Path) (n : ℕ) (f : Fragment) → IsFront f → has_twice (declared_inside def f) ≡ false → DistinctBelow def f → AreOnce (planned_below def base path n f).steps
    front_once base path n (operator o) w h b = tt
    front_once base path n (with_child f t) (wf, wt) h (bf, bt, at) =
        let (front, last) = both_once (declared_inside def f) (child_keys t) h in
        let b : Below = planned_below def base path n f in
        each_append IsOnceStep b.steps (planned def (base + length b.steps) (path ++ length (children_of f) ∷ []) t) (front_once base path n f wf front bf)
        (planned_once (base + length b.steps) (path ++ length (children_of f) ∷ []) t wt (child_once t last at) bt)
    front_once base path n (with_name f m) w h b = front_once base path n f w (both_once (declared_inside def f) (own_key f m) h).0 b
    front_once base path n (with_number f m) w h b = front_once base path n f w h b
    front_once base path n (with_text f m) w h b = front_once base path n f w h b
    front_once base path n (hole p) w h b = absurd w
    front_once base path n (ending l u) w h b = absurd w
    front_once base path n (cell l e r) w h b = absurd w
    front_once base path n anything w h b = absurd w
    front_once base path n (observed f) w h b = absurd w

    rest_once : (base : ℕ) (path : Path) (n : ℕ) (f : Fragment) → IsRest f → has_twice (declared_inside def f) ≡ false → DistinctBelow def f → AreOnce (planned_below def base path n f).steps
    rest_once base path n (ending l u) w h b = tt
    rest_once base path n (cell l e r) (we, wr) h (be, ae, br) =
        let (first, more) = both_once (child_keys e) (declared_inside def r) h in
        let one : List Step = planned def base (path ++ n ∷ []) e in
        each_append IsOnceStep one (planned_below def (base + length one) path (n + 1) r).steps (planned_once base (path ++ n ∷ []) e we (child_once e first ae) be) (rest_once (base + length one) path (n + 1) r wr more br)
    rest_once base path n (hole p) w h b = absurd w
    rest_once base path n (operator o) w h b = absurd w
    rest_once base path n (with_child f t) w h b = absurd w
    rest_once base path n (with_name f m) w h b = absurd w
    rest_once base path n (with_number f m) w h b = absurd w
    rest_once base path n (with_text f m) w h b = absurd w
    rest_once base path n anything w h b = absurd w
    rest_once base path n (observed f) w h b = absurd w

  -- a node's subtree declares no key twice below its top, where the children's subtrees declare none twice
  pub below_distinct : (f : Fragment) → AllByRecursion (IsDistinct def) (children_of f) → DistinctBelow def f
  below_distinct (hole p) h = tt
  below_distinct (ending l u) h = tt
  below_distinct (cell l e r) (one, h) = (one.1, (λ s. one.0), below_distinct r h)
  below_distinct (operator o) h = tt
  below_distinct (with_child f t) h =
      let last = each_back (IsDistinct def) (children_of f) (t ∷ []) h in
      (below_distinct f (each_front (IsDistinct def) (children_of f) (t ∷ []) h), last.0.1, (λ s. last.0.0))
  below_distinct (with_name f n) h = below_distinct f h
  below_distinct (with_number f n) h = below_distinct f h
  below_distinct (with_text f n) h = below_distinct f h
  below_distinct anything h = tt
  below_distinct (observed f) h = below_distinct f h
