-- A node of a tree is in the tree of the kept places where its path there leads.
use Rattle.std.proofs.Common.{◌≡◌, ◌⊎◌, inl, inr, ℕ, zero, suc, ◌+◌, ◌-◌, ◌<◌, ◌≤◌, ◌&&◌, ◌||◌, not, Bool, true, false, cond, List, [], ◌∷◌, ◌++◌, length, Some, slice_get, refl, ap, ap₂, sym, ◌∙◌, subst, arith, true≢false, append_assoc, append-nil}
use Rattle.std.specs.Prelude.{nat_eq}
use Rattle.std.specs.Cmp.Lexicographic.{pointwise}
use Rattle.std.specs.List.{list_any}
use Rattle.std.proofs.lemmas.Bool.{lt-ltb}
use Rattle.std.proofs.lemmas.List.Folds.{list_any-append}
use Rattle.std.proofs.lemmas.Option.{same_Some, slice_get_within}
use Rattle.psg_terms.specs.Names.{Name as Word}
use Rattle.psg_terms.proofs.Lists.{eqb-refl}
use Rattle.psg_grammar.specs.declared.types.Definition.{Definition}
use Rattle.psg_grammar.specs.Fragments.{Fragment, hole, ending, cell, operator, with_child, with_name, with_number}
use Rattle.psg_grammar.specs.Fragments.{with_text, anything, observed, children_of}
use Rattle.psg_grammar.specs.Paths.{Path}
use Rattle.psg_places.specs.declared.place.Place.{Place}
use Rattle.psg_places.specs.declared.place.Place.TheVariants.{Node, Element, End}
use Rattle.psg_places.specs.Blame.{kept_in}
use Rattle.psg_places.specs.Leading.{is_node, is_opened_at}
use Rattle.psg_places.specs.Listings.{opened_among}
use Rattle.psg_places.specs.Opened.{contents, opened_child, opened_element}
use Rattle.psg_places.specs.Places.{below, child_places, content_count, content_places, declared_count, declared_places}
use Rattle.psg_places.specs.Places.{element_places, element_size, has_no_placeholder, is_hole, may_go_on, phylum_of}
use Rattle.psg_places.specs.Ways.{earlier, goes_before}
use Rattle.psg_places.proofs.CountLaws.{content_length, declared_length, element_length}
use Rattle.psg_places.proofs.ListingLaws.{opened_both}
use Rattle.psg_places.proofs.InsideLaws.{Any, Deep, Each, From, Inside, IsChain, IsSmall, Only, Quiet, child_deep, child_here}
use Rattle.psg_places.proofs.InsideLaws.{contents_inside, deep_count, each_map, each_opened, each_cond, inside_more, inner_deep, inner_here, is_element, is_out, later_count}
use Rattle.psg_places.proofs.InsideLaws.{list_from, names_small, not_itself, quiet_beside, quiet_small}

-- ---- tests over places one after the other

earlier_both : (xs ys : List Place) (path : Path) (m : ℕ) → earlier (xs ++ ys) path m ≡ earlier xs path m + earlier ys path m
earlier_both [] ys path m = omega arith
earlier_both (x ∷ xs) ys path m = let e = earlier_both xs ys path m in omega (arith, e)

or_false : (b : Bool) → (b || false) ≡ b
or_false true = refl
or_false false = refl

pub or_parts_false : (s t : Bool) → (s || t) ≡ false → (s ≡ false) × (t ≡ false)
or_parts_false true t e = absurd (true≢false e)
or_parts_false false t e = (refl, e)

any_before : (test : Place → Bool) (xs ys : List Place) → list_any test xs ≡ false → list_any test (xs ++ ys) ≡ list_any test ys
any_before test xs ys e = list_any-append test xs ys ∙ ap (λ b. b || list_any test ys) e

any_after : (test : Place → Bool) (xs ys : List Place) → list_any test ys ≡ false → list_any test (xs ++ ys) ≡ list_any test xs
any_after test xs ys e = list_any-append test xs ys ∙ ap (λ b. list_any test xs || b) e ∙ or_false (list_any test xs)

-- The places that are read below the path are those of the other list.
pub record Reads (xs ys : List Place) (p : Path) : Type 0 where
  pub node : (j : ℕ) (s : Path) → is_opened_at xs (p ++ j ∷ s) ≡ is_opened_at ys (p ++ j ∷ s)
  pub element : (j : ℕ) (s : Path) → is_out xs (p ++ j ∷ s) ≡ is_out ys (p ++ j ∷ s)
  pub count : (s : Path) (m : ℕ) → earlier xs (p ++ s) m ≡ earlier ys (p ++ s) m

reads_same : (xs : List Place) (p : Path) → Reads xs xs p
reads_same xs p = record { node = λ j s. refl; element = λ j s. refl; count = λ s m. refl }

reads_then : (xs ys zs : List Place) (p : Path) → Reads xs ys p → Reads ys zs p → Reads xs zs p
reads_then xs ys zs p h k = record {
  node = λ j s. h.node j s ∙ k.node j s;
  element = λ j s. h.element j s ∙ k.element j s;
  count = λ s m. h.count s m ∙ k.count s m;
}

pub reads_below : (xs ys : List Place) (p : Path) (i : ℕ) → Reads xs ys p → Reads xs ys (below p i)
reads_below xs ys p i h = record {
  node = λ j s.
      ap (is_opened_at xs) (append_assoc p (i ∷ []) (j ∷ s)) ∙ h.node i (j ∷ s)
      ∙ ap (is_opened_at ys) (sym (append_assoc p (i ∷ []) (j ∷ s)));
  element = λ j s.
      ap (is_out xs) (append_assoc p (i ∷ []) (j ∷ s)) ∙ h.element i (j ∷ s)
      ∙ ap (is_out ys) (sym (append_assoc p (i ∷ []) (j ∷ s)));
  count = λ s m.
      ap (λ q. earlier xs q m) (append_assoc p (i ∷ []) s) ∙ h.count (i ∷ s) m
      ∙ ap (λ q. earlier ys q m) (sym (append_assoc p (i ∷ []) s));
}

reads_before : (xs ys : List Place) (p : Path) → Quiet xs p → Reads (xs ++ ys) ys p
reads_before xs ys p q = record {
  node = λ j s. any_before (is_node (p ++ j ∷ s)) xs ys (q.node (j ∷ s));
  element = λ j s. any_before (is_element (p ++ j ∷ s)) xs ys (q.element (j ∷ s));
  count = λ s m.
      let z = q.count s m in
      let e : earlier xs (p ++ s) m + earlier ys (p ++ s) m ≡ earlier ys (p ++ s) m = omega (arith, z) in
      earlier_both xs ys (p ++ s) m ∙ e;
}

reads_after : (xs ys : List Place) (p : Path) → Quiet ys p → Reads (xs ++ ys) xs p
reads_after xs ys p q = record {
  node = λ j s. any_after (is_node (p ++ j ∷ s)) xs ys (q.node (j ∷ s));
  element = λ j s. any_after (is_element (p ++ j ∷ s)) xs ys (q.element (j ∷ s));
  count = λ s m.
      let z = q.count s m in
      let e : earlier xs (p ++ s) m + earlier ys (p ++ s) m ≡ earlier xs (p ++ s) m = omega (arith, z) in
      earlier_both xs ys (p ++ s) m ∙ e;
}

pub quiet_both : (xs ys : List Place) (p : Path) → Quiet xs p → Quiet ys p → Quiet (xs ++ ys) p
quiet_both xs ys p a b = record {
  node = λ s. any_before (is_node (p ++ s)) xs ys (a.node s) ∙ b.node s;
  element = λ s. any_before (is_element (p ++ s)) xs ys (a.element s) ∙ b.element s;
  count = λ s m.
      let x = a.count s m in
      let y = b.count s m in
      let e : earlier xs (p ++ s) m + earlier ys (p ++ s) m ≡ 0 = omega (arith, x, y) in
      earlier_both xs ys (p ++ s) m ∙ e;
}

quiet_at : (xs : List Place) (p : Path) → Quiet xs p → is_opened_at xs p ≡ false
quiet_at xs p q = ap (is_opened_at xs) (sym (append-nil p)) ∙ q.node []

quiet_out : (xs : List Place) (p : Path) → Quiet xs p → is_out xs p ≡ false
quiet_out xs p q = ap (is_out xs) (sym (append-nil p)) ∙ q.element []

pub path_own : (p : Path) → pointwise nat_eq p p ≡ true
path_own [] = refl
path_own (k ∷ p) = ap₂ (λ a b. a && b) (eqb-refl k) (path_own p)

own_before : (p : Path) (k m : ℕ) → k < m → goes_before m p (p ++ k ∷ []) ≡ true
own_before [] k m lt = lt-ltb k m lt
own_before (j ∷ p) k m lt = ap₂ (λ a b. a && b) (eqb-refl j) (own_before p k m lt)

module _ (def : Definition) (kept : List Bool) (fresh : ℕ → Word) where
  abbrev keep : ℕ → Bool
  keep n = kept_in kept n

  abbrev inner : ℕ → ℕ → Fragment → Fragment
  inner d n t = contents def keep fresh d n t

  abbrev own : Path → Fragment → List Place
  own p t = content_places def p 0 t

  abbrev gone : ℕ → List Place → List Place
  gone n ps = opened_among kept n ps

  -- the node with what is below it opened, where the list is read as its places
  pub record IsOpen (xs : List Place) (p : Path) (t u : Fragment) : Type 0 where
    pub d : ℕ
    pub n : ℕ
    pub is : u ≡ inner d n t
    pub reads : Reads xs (gone n (own p t)) p

  -- what becomes of the node at the path
  abbrev pub There : List Place → Path → Fragment → Fragment → Type 0
  There xs p t u = ((is_opened_at xs p ≡ true) × (u ≡ hole (phylum_of def t)))
      ⊎ ((is_opened_at xs p ≡ false) × IsOpen xs p t u)

  pub there_by : (xs ys : List Place) (p : Path) (t u : Fragment) → is_opened_at xs p ≡ is_opened_at ys p → Reads xs ys p
      → There ys p t u → There xs p t u
  there_by xs ys p t u e r (inl h) = inl (e ∙ h.0, h.1)
  there_by xs ys p t u e r (inr h) =
      inr (e ∙ h.0, record { d = h.1.d; n = h.1.n; is = h.1.is; reads = reads_then xs ys (gone h.1.n (own p t)) p r h.1.reads })

  pub there_before : (xs ys : List Place) (p : Path) (t u : Fragment) → Quiet xs p → There ys p t u → There (xs ++ ys) p t u
  there_before xs ys p t u q h =
      there_by (xs ++ ys) ys p t u (any_before (is_node p) xs ys (quiet_at xs p q)) (reads_before xs ys p q) h

  pub there_after : (xs ys : List Place) (p : Path) (t u : Fragment) → Quiet ys p → There xs p t u → There (xs ++ ys) p t u
  there_after xs ys p t u q h =
      there_by (xs ++ ys) xs p t u (any_after (is_node p) xs ys (quiet_at ys p q)) (reads_after xs ys p q) h

  -- ---- a node by itself

  abbrev names : Path → Fragment → List Place
  names p t = declared_places def p 0 t

  itself : (p : Path) (d n : ℕ) (t : Fragment) → There (gone n (own p t)) p t (inner d n t)
  itself p d n t = inr (
    not_itself p Any (gone n (own p t)) (each_opened (Inside p Any) kept n (own p t) (contents_inside def p 0 t)),
    record { d = d; n = n; is = refl; reads = reads_same (gone n (own p t)) p },
  )

  -- after the names that it declares
  with_names : (p : Path) (n m : ℕ) (t : Fragment) → m ≡ n + declared_count def t
      → There (gone n (names p t ++ own p t)) p t (inner n m t)
  with_names p n m t e =
      let long : n + length (names p t) ≡ m = ap (λ k. n + k) (declared_length def p 0 t) ∙ sym e in
      let split : gone n (names p t ++ own p t) ≡ gone n (names p t) ++ gone m (own p t) =
      opened_both kept n (names p t) (own p t) ∙ ap (λ k. gone n (names p t) ++ gone k (own p t)) long in
      subst (λ xs. There xs p t (inner n m t)) (sym split)
      (there_before (gone n (names p t)) (gone m (own p t)) p t (inner n m t)
      (quiet_small p (gone n (names p t)) (each_opened IsSmall kept n (names p t) (names_small def p 0 t)))
      (itself p n m t))

  hole_whole : (p : Path) (d n : ℕ) (t : Fragment) → is_hole t ≡ true → (t ≡ inner d n t) × (own p t ≡ [])
  hole_whole p d n (hole q) e = (refl, refl)
  hole_whole p d n (ending l u) e = absurd (true≢false (sym e))
  hole_whole p d n (cell l x r) e = absurd (true≢false (sym e))
  hole_whole p d n (operator o) e = absurd (true≢false (sym e))
  hole_whole p d n (with_child f t) e = absurd (true≢false (sym e))
  hole_whole p d n (with_name f x) e = absurd (true≢false (sym e))
  hole_whole p d n (with_number f x) e = absurd (true≢false (sym e))
  hole_whole p d n (with_text f x) e = absurd (true≢false (sym e))
  hole_whole p d n anything e = absurd (true≢false (sym e))
  hole_whole p d n (observed f) e = absurd (true≢false (sym e))

  abbrev as_node : ℕ → Fragment → Fragment
  as_node n t = inner (n + 1) (n + 1 + declared_count def t) t

  -- a node whose operator is a place
  node_there : (p : Path) (n : ℕ) (t : Fragment)
      → There (gone n (Node p ∷ (names p t ++ own p t))) p t (cond (keep n) (as_node n t) (hole (phylum_of def t)))
  node_there p n t = by_test (keep n)
    where
      next : suc n ≡ n + 1
      next = omega arith

      by_test : (b : Bool)
          → There (cond (not b) (Node p ∷ []) [] ++ gone (suc n) (names p t ++ own p t)) p t
          (cond b (as_node n t) (hole (phylum_of def t)))
      by_test true =
          subst (λ k. There (gone k (names p t ++ own p t)) p t (as_node n t)) (sym next)
          (with_names p (n + 1) (n + 1 + declared_count def t) t refl)
      by_test false =
          inl (ap (λ b. b || is_opened_at (gone (suc n) (names p t ++ own p t)) p) (path_own p), refl)

  pub child_there : (p : Path) (d n : ℕ) (t : Fragment)
      → There (gone n (child_places def p t (own p t))) p t (opened_child def keep fresh n t (inner d n t) (as_node n t))
  child_there p d n t = by_tests (has_no_placeholder def t) (is_hole t) refl
    where
      by_tests : (a b : Bool) → is_hole t ≡ b
          → There (gone n (cond a (own p t) (cond b [] (Node p ∷ (names p t ++ own p t))))) p t
          (cond a (inner d n t) (cond b t (cond (keep n) (as_node n t) (hole (phylum_of def t)))))
      by_tests true b e = itself p d n t
      by_tests false true e =
          let (same, none) = hole_whole p d n t e in
          subst (λ u. There [] p t u) (sym same) (subst (λ ps. There (gone n ps) p t (inner d n t)) none (itself p d n t))
      by_tests false false e = node_there p n t

  -- an element that is kept, and a whole tree
  pub inner_there : (p : Path) (n : ℕ) (t : Fragment)
      → There (gone n (cond (has_no_placeholder def t) (names p t ++ own p t) (child_places def p t (own p t)))) p t
      (opened_element def keep fresh t (inner n (n + declared_count def t) t)
      (opened_child def keep fresh n t (inner 0 n t) (as_node n t)))
  inner_there p n t = by_test (has_no_placeholder def t)
    where
      by_test : (a : Bool)
          → There (gone n (cond a (names p t ++ own p t) (child_places def p t (own p t)))) p t
          (cond a (inner n (n + declared_count def t) t) (opened_child def keep fresh n t (inner 0 n t) (as_node n t)))
      by_test true = with_names p n (n + declared_count def t) t refl
      by_test false = child_there p 0 n t

  -- ---- the elements of a list

  -- the element i of a list, with the number m among all, is among these children if it is not left out
  pub record HasElement (xs : List Place) (p : Path) (made : List Fragment) (i m : ℕ) (c : Fragment) : Type 0 where
    pub few : earlier xs p m ≤ i
    pub node : Fragment
    pub at : slice_get made (i - earlier xs p m) ≡ Some node
    pub there : There xs (below p m) c node

  first_element : (xs ys : List Place) (p : Path) (k : ℕ) (made : List Fragment) (e u : Fragment) → earlier xs p k ≡ 0
      → There xs (below p k) e u → Each (Inside p (From (suc k))) ys → HasElement (xs ++ ys) p (u ∷ made) 0 k e
  first_element xs ys p k made e u none h late =
      let now = each_map (Inside p (From (suc k))) (Inside p (From k)) ys
      (inside_more p (From (suc k)) (From k) (λ i e. let z : suc k ≤ i = e in omega (arith, z))) late in
      let others : earlier ys p k ≡ 0 = later_count p k ys now in
      let sum = earlier_both xs ys p k in
      let all : earlier (xs ++ ys) p k ≡ 0 = omega (arith, sum, none, others) in
      let place : 0 - earlier (xs ++ ys) p k ≡ 0 = omega (arith, all) in
      record {
        few = omega (arith, all);
        node = u;
        at = ap (λ j. slice_get (u ∷ made) j) place;
        there =
            there_after xs ys (below p k) e u (quiet_beside p k (From (suc k)) ys (λ le. let z : suc k ≤ k = le in omega (arith, z)) late) h;
      }

  -- after an element that is kept
  next_element : (xs ys : List Place) (p : Path) (j m : ℕ) (made : List Fragment) (u c : Fragment) → earlier xs p m ≡ 0
      → Quiet xs (below p m) → HasElement ys p made j m c → HasElement (xs ++ ys) p (u ∷ made) (suc j) m c
  next_element xs ys p j m made u c none q h =
      let sum = earlier_both xs ys p m in
      let few = h.few in
      let place : suc j - earlier (xs ++ ys) p m ≡ suc (j - earlier ys p m) = omega (arith, sum, none, few) in
      record {
        few = omega (arith, sum, none, few);
        node = h.node;
        at = ap (λ i. slice_get (u ∷ made) i) place ∙ h.at;
        there = there_before xs ys (below p m) c h.node q h.there;
      }

  -- after an element that is left out
  later_element : (xs ys : List Place) (p : Path) (j m : ℕ) (made : List Fragment) (c : Fragment) → earlier xs p m ≡ 1
      → Quiet xs (below p m) → HasElement ys p made j m c → HasElement (xs ++ ys) p made (suc j) m c
  later_element xs ys p j m made c one q h =
      let sum = earlier_both xs ys p m in
      let few = h.few in
      let place : suc j - earlier (xs ++ ys) p m ≡ j - earlier ys p m = omega (arith, sum, one, few) in
      record {
        few = omega (arith, sum, one, few);
        node = h.node;
        at = ap (λ i. slice_get made i) place ∙ h.at;
        there = there_before xs ys (below p m) c h.node q h.there;
      }

  -- the first element of a list, and what is after it
  module _ (p : Path) (k d n l : ℕ) (e r : Fragment) where
    abbrev q : Path
    q = below p k

    abbrev below_it : List Place
    below_it = own q e

    abbrev kept_places : List Place
    kept_places = cond (has_no_placeholder def e) (names q e ++ below_it) (child_places def q e below_it)

    abbrev all_places : Bool → List Place
    all_places b = cond b (Element q ∷ kept_places) (child_places def q e below_it)

    abbrev as_free : Fragment
    as_free = opened_element def keep fresh e (inner (n + 1) (n + 1 + declared_count def e) e)
        (opened_child def keep fresh (n + 1) e (inner 0 (n + 1) e) (as_node (n + 1) e))

    abbrev as_child : Fragment
    as_child = opened_child def keep fresh n e (inner d n e) (as_node n e)

    abbrev rest_at : ℕ → Fragment
    rest_at d = inner d (n + element_size def l e (content_count def e)) r

    abbrev after_it : ℕ
    after_it = d + cond (has_no_placeholder def e) (declared_count def e) 0

    abbrev whole : Bool → Fragment
    whole b = cond b (cond (keep n) (cell l as_free (rest_at d)) (rest_at d)) (cell l as_child (rest_at after_it))

    inside_it : Each (Inside q Any) below_it
    inside_it = contents_inside def q 0 e

    free_there : There (gone (suc n) kept_places) q e as_free
    free_there =
        let next : suc n ≡ n + 1 = omega arith in
        subst (λ k. There (gone k kept_places) q e as_free) (sym next) (inner_there q (n + 1) e)

    first_there : (ys : List Place) (b : Bool) → Each (Inside p (From (suc k))) ys → is_out (gone n (all_places b) ++ ys) q ≡ false
        → HasElement (gone n (all_places b) ++ ys) p (children_of (whole b)) 0 k e
    first_there ys true late out = by_test (keep n) out
      where
        by_test : (b : Bool) → is_out ((cond (not b) (Element q ∷ []) [] ++ gone (suc n) kept_places) ++ ys) q ≡ false
            → HasElement ((cond (not b) (Element q ∷ []) [] ++ gone (suc n) kept_places) ++ ys) p
            (children_of (cond b (cell l as_free (rest_at d)) (rest_at d))) 0 k e
        by_test true out =
            first_element (gone (suc n) kept_places) ys p k (children_of (rest_at d)) e as_free
            (deep_count p k (gone (suc n) kept_places)
            (each_opened (Deep p) kept (suc n) kept_places (inner_deep def p k e below_it inside_it)))
            free_there late
        by_test false out =
            let is : is_out ((Element q ∷ gone (suc n) kept_places) ++ ys) q ≡ true =
            ap (λ b. b || is_out (gone (suc n) kept_places ++ ys) q) (path_own q) in
            absurd (true≢false (sym is ∙ out))
    first_there ys false late out =
        first_element (gone n (child_places def q e below_it)) ys p k (children_of (rest_at after_it)) e as_child
        (deep_count p k (gone n (child_places def q e below_it))
        (each_opened (Deep p) kept n (child_places def q e below_it) (child_deep def p k e below_it inside_it)))
        (child_there q d n e) late

    quiet_now : (m : ℕ) (ps : List Place) (x : ℕ) → k < m → Each (Inside p (Only k)) ps → Quiet (gone x ps) (below p m)
    quiet_now m ps x lt h =
        quiet_beside p m (Only k) (gone x ps) (λ e. let z : m ≡ k = e in omega (arith, z, lt)) (each_opened (Inside p (Only k)) kept x ps h)

    next_there : (ys : List Place) (b : Bool) (j m : ℕ) (c : Fragment) → k < m
        → HasElement ys p (children_of (rest_at d)) j m c → HasElement ys p (children_of (rest_at after_it)) j m c
        → HasElement (gone n (all_places b) ++ ys) p (children_of (whole b)) (suc j) m c
    next_there ys true j m c lt h g = by_test (keep n)
      where
        deep : earlier (gone (suc n) kept_places) p m ≡ 0
        deep =
            deep_count p m (gone (suc n) kept_places)
            (each_opened (Deep p) kept (suc n) kept_places (inner_deep def p k e below_it inside_it))

        quiet : Quiet (gone (suc n) kept_places) (below p m)
        quiet = quiet_now m kept_places (suc n) lt (inner_here def p k e below_it inside_it)

        element : Quiet (Element q ∷ []) (below p m)
        element = quiet_beside p m (Only k) (Element q ∷ []) (λ e. let z : m ≡ k = e in omega (arith, z, lt)) ((k, [], refl, refl), tt)

        by_test : (b : Bool) → HasElement ((cond (not b) (Element q ∷ []) [] ++ gone (suc n) kept_places) ++ ys) p
            (children_of (cond b (cell l as_free (rest_at d)) (rest_at d))) (suc j) m c
        by_test true =
            next_element (gone (suc n) kept_places) ys p j m (children_of (rest_at d)) as_free c deep quiet h
        by_test false =
            let here : earlier (Element q ∷ gone (suc n) kept_places) p m ≡ 1 =
            ap₂ (λ b x. cond b 1 0 + x) (own_before p k m lt) deep in
            later_element (Element q ∷ gone (suc n) kept_places) ys p j m (children_of (rest_at d)) c here
            (quiet_both (Element q ∷ []) (gone (suc n) kept_places) (below p m) element quiet) h
    next_there ys false j m c lt h g =
        next_element (gone n (child_places def q e below_it)) ys p j m (children_of (rest_at after_it)) as_child c
        (deep_count p m (gone n (child_places def q e below_it))
        (each_opened (Deep p) kept n (child_places def q e below_it) (child_deep def p k e below_it inside_it)))
        (quiet_now m (child_places def q e below_it) n lt (child_here def p k e below_it inside_it)) g

    -- how many there are
    count_there : (ys : List Place) (b : Bool) (m long : ℕ) → k < m
        → length (children_of (rest_at d)) + earlier ys p m ≡ long
        → length (children_of (rest_at after_it)) + earlier ys p m ≡ long
        → length (children_of (whole b)) + earlier (gone n (all_places b) ++ ys) p m ≡ suc long
    count_there ys true m long lt h g = by_test (keep n)
      where
        deep : earlier (gone (suc n) kept_places) p m ≡ 0
        deep =
            deep_count p m (gone (suc n) kept_places)
            (each_opened (Deep p) kept (suc n) kept_places (inner_deep def p k e below_it inside_it))

        by_test : (b : Bool) → length (children_of (cond b (cell l as_free (rest_at d)) (rest_at d)))
            + earlier ((cond (not b) (Element q ∷ []) [] ++ gone (suc n) kept_places) ++ ys) p m ≡ suc long
        by_test true =
            let sum = earlier_both (gone (suc n) kept_places) ys p m in
            omega (arith, sum, deep, h)
        by_test false =
            let here : earlier (Element q ∷ gone (suc n) kept_places) p m ≡ 1 =
            ap₂ (λ b x. cond b 1 0 + x) (own_before p k m lt) deep in
            let sum = earlier_both (Element q ∷ gone (suc n) kept_places) ys p m in
            omega (arith, sum, here, h)
    count_there ys false m long lt h g =
        let deep = deep_count p m (gone n (child_places def q e below_it))
        (each_opened (Deep p) kept n (child_places def q e below_it) (child_deep def p k e below_it inside_it)) in
        let sum = earlier_both (gone n (child_places def q e below_it)) ys p m in
        omega (arith, sum, deep, g)

    abbrev first_places : List Place
    first_places = gone n (all_places (may_go_on def l))

    abbrev rest_places : List Place
    rest_places = gone (n + element_size def l e (content_count def e)) (content_places def p (suc k) r)

    place_step : (m i : ℕ) (c : Fragment) → m ≡ k + i → slice_get (e ∷ children_of r) i ≡ Some c
        → is_out (first_places ++ rest_places) (below p m) ≡ false → Each (Inside p (From (suc k))) rest_places
        → ((j x : ℕ) → m ≡ suc k + j → slice_get (children_of r) j ≡ Some c → is_out rest_places (below p m) ≡ false
        → HasElement rest_places p (children_of (rest_at x)) j m c)
        → HasElement (first_places ++ rest_places) p (children_of (whole (may_go_on def l))) i m c
    place_step m zero c is at out late more =
        let same : k ≡ m = omega (arith, is) in
        let free : is_out (first_places ++ rest_places) (below p k) ≡ false =
        ap (λ x. is_out (first_places ++ rest_places) (below p x)) same ∙ out in
        let done = first_there rest_places (may_go_on def l) late free in
        subst (λ x. HasElement (first_places ++ rest_places) p (children_of (whole (may_go_on def l))) 0 x c) same
        (subst (λ x. HasElement (first_places ++ rest_places) p (children_of (whole (may_go_on def l))) 0 k x)
        (same_Some e c at) done)
    place_step m (suc j) c is at out late more =
        let parts = or_parts_false (is_out first_places (below p m)) (is_out rest_places (below p m))
        (sym (list_any-append (is_element (below p m)) first_places rest_places) ∙ out) in
        let next : m ≡ suc k + j = omega (arith, is) in
        next_there rest_places (may_go_on def l) j m c (omega (arith, is)) (more j d next at parts.1)
        (more j after_it next at parts.1)

  pub list_step : (p : Path) (t : Fragment) (k i m d n : ℕ) (c : Fragment) → IsChain t → m ≡ k + i
      → slice_get (children_of t) i ≡ Some c → is_out (gone n (content_places def p k t)) (below p m) ≡ false
      → HasElement (gone n (content_places def p k t)) p (children_of (inner d n t)) i m c
  list_step p (ending l u) k i m d n c chain e at out = absurd (let lt = slice_get_within [] i c at in omega (arith, lt))
  list_step p (cell l e r) k i m d n c chain is at out =
      let size = element_size def l e (content_count def e) in
      let here = element_places def l (below p k) e (own (below p k) e) in
      let rest = content_places def p (suc k) r in
      let long : length here ≡ size =
      element_length def l (below p k) e (own (below p k) e) (content_count def e) (declared_length def (below p k) 0 e)
      (content_length def (below p k) 0 e) in
      let split : gone n (here ++ rest) ≡ gone n here ++ gone (n + size) rest =
      opened_both kept n here rest ∙ ap (λ x. gone n here ++ gone (n + x) rest) long in
      let now : is_out (gone n here ++ gone (n + size) rest) (below p m) ≡ false =
      ap (λ xs. is_out xs (below p m)) (sym split) ∙ out in
      let late = each_opened (Inside p (From (suc k))) kept (n + size) rest (list_from def p (suc k) r chain) in
      let made = children_of (inner d n (cell l e r)) in
      subst (λ xs. HasElement xs p made i m c) (sym split)
      (place_step p k d n l e r m i c is at now late (λ j d e f g. list_step p r (suc k) j m d (n + size) c chain e f g))
  list_step p (hole x) k i m d n c chain e at out = absurd chain
  list_step p (operator o) k i m d n c chain e at out = absurd chain
  list_step p (with_child f t) k i m d n c chain e at out = absurd chain
  list_step p (with_name f x) k i m d n c chain e at out = absurd chain
  list_step p (with_number f x) k i m d n c chain e at out = absurd chain
  list_step p (with_text f x) k i m d n c chain e at out = absurd chain
  list_step p anything k i m d n c chain e at out = absurd chain
  list_step p (observed f) k i m d n c chain e at out = absurd chain

  -- the elements of a list are those that are there and those that are left out
  pub list_count : (p : Path) (t : Fragment) (k m d n : ℕ) → IsChain t → k + length (children_of t) ≤ m
      → length (children_of (inner d n t)) + earlier (gone n (content_places def p k t)) p m ≡ length (children_of t)
  list_count p (ending l u) k m d n chain le =
      let ps = content_places def p k (ending l u) in
      let deep : earlier (gone n ps) p m ≡ 0 =
      deep_count p m (gone n ps)
      (each_opened (Deep p) kept n ps (each_cond (Deep p) (may_go_on def l && not u) (End p ∷ []) [] (tt, tt) tt)) in
      omega (arith, deep)
  list_count p (cell l e r) k m d n chain le =
      let size = element_size def l e (content_count def e) in
      let here = element_places def l (below p k) e (own (below p k) e) in
      let rest = content_places def p (suc k) r in
      let long : length here ≡ size =
      element_length def l (below p k) e (own (below p k) e) (content_count def e) (declared_length def (below p k) 0 e)
      (content_length def (below p k) 0 e) in
      let split : gone n (here ++ rest) ≡ gone n here ++ gone (n + size) rest =
      opened_both kept n here rest ∙ ap (λ x. gone n here ++ gone (n + x) rest) long in
      let made = length (children_of (inner d n (cell l e r))) in
      let fewer : suc k + length (children_of r) ≤ m = omega (arith, le) in
      let one = list_count p r (suc k) m d (n + size) chain fewer in
      let two = list_count p r (suc k) m (d + cond (has_no_placeholder def e) (declared_count def e) 0) (n + size) chain fewer in
      ap (λ xs. made + earlier xs p m) split
      ∙ count_there p k d n l e r (gone (n + size) rest) (may_go_on def l) m (length (children_of r)) (omega (arith, le)) one two
  list_count p (hole x) k m d n chain le = absurd chain
  list_count p (operator o) k m d n chain le = absurd chain
  list_count p (with_child f t) k m d n chain le = absurd chain
  list_count p (with_name f x) k m d n chain le = absurd chain
  list_count p (with_number f x) k m d n chain le = absurd chain
  list_count p (with_text f x) k m d n chain le = absurd chain
  list_count p anything k m d n chain le = absurd chain
  list_count p (observed f) k m d n chain le = absurd chain
