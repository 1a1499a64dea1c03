-- Each node and each element is one place alone.
use Rattle.std.proofs.Common.{◌≡◌, ℕ, zero, suc, ◌<◌, ◌≤◌, ◌&&◌, not, Bool, true, false, cond, List, [], ◌∷◌, ◌++◌, length, Some, slice_get, refl, ap, sym, ◌∙◌, subst, arith}
use Rattle.std.proofs.lemmas.Option.{none-some}
use Rattle.psg_grammar.specs.declared.types.Definition.{Definition}
use Rattle.psg_grammar.specs.Fragments.{Fragment, hole, ending, cell, operator, with_child, with_name, with_number}
use Rattle.psg_grammar.specs.Fragments.{with_text, anything, observed, children_of}
use Rattle.psg_grammar.specs.Lookups.{is_declares, next_item}
use Rattle.psg_grammar.specs.Paths.{Path}
use Rattle.psg_cache.specs.Notes.{IsFormed}
use Rattle.psg_places.specs.declared.place.Place.{Place}
use Rattle.psg_places.specs.declared.place.Place.TheVariants.{Node, Element, End, Name}
use Rattle.psg_places.specs.Places.{below, child_places, content_places, declared_places, element_places, has_no_placeholder}
use Rattle.psg_places.specs.Places.{is_hole, may_go_on, names_before, places_of}
use Rattle.psg_places.proofs.InsideLaws.{Any, Deep, Each, From, Inside, IsSmall, Only, Under, child_here, contents_inside, each_both}
use Rattle.psg_places.proofs.InsideLaws.{each_cond, each_map, element_all, inner_deep, list_from, names_small, parts_under}
use Rattle.psg_places.proofs.WalkLaws.{IsShaped, shaped}

-- ---- places that differ

abbrev IsNoNode : Path → Place → Type 0
IsNoNode p (Node q) = p ≡ q → ⊥
IsNoNode p (Element q) = Unit {0}
IsNoNode p (End q) = Unit {0}
IsNoNode p (Name q k) = Unit {0}

abbrev IsNoElement : Path → Place → Type 0
IsNoElement p (Node q) = Unit {0}
IsNoElement p (Element q) = p ≡ q → ⊥
IsNoElement p (End q) = Unit {0}
IsNoElement p (Name q k) = Unit {0}

-- they are not the same node and not the same element
abbrev pub AreApart : Place → Place → Type 0
AreApart (Node p) y = IsNoNode p y
AreApart (Element p) y = IsNoElement p y
AreApart (End p) y = Unit {0}
AreApart (Name p k) y = Unit {0}

small_node : (p : Path) (y : Place) → IsSmall y → IsNoNode p y
small_node p (Node q) h = absurd h
small_node p (Element q) h = tt
small_node p (End q) h = tt
small_node p (Name q k) h = tt

small_element : (p : Path) (y : Place) → IsSmall y → IsNoElement p y
small_element p (Node q) h = tt
small_element p (Element q) h = absurd h
small_element p (End q) h = tt
small_element p (Name q k) h = tt

after_small : (x y : Place) → IsSmall y → AreApart x y
after_small (Node p) y h = small_node p y h
after_small (Element p) y h = small_element p y h
after_small (End p) y h = tt
after_small (Name p k) y h = tt

before_small : (x y : Place) → IsSmall x → AreApart x y
before_small (Node p) y h = absurd h
before_small (Element p) y h = absurd h
before_small (End p) y h = tt
before_small (Name p k) y h = tt

-- ---- paths that differ

abbrev first_of : Path → ℕ
first_of [] = 0
first_of (k ∷ p) = k

abbrev rest_of : Path → Path
rest_of [] = []
rest_of (k ∷ p) = p

steps_differ : (p s t : Path) (i j : ℕ) → (i ≡ j → ⊥) → p ++ i ∷ s ≡ p ++ j ∷ t → ⊥
steps_differ [] s t i j never e = never (ap first_of e)
steps_differ (k ∷ p) s t i j never e = steps_differ p s t i j never (ap rest_of e)

not_longer : (p s : Path) (i : ℕ) → p ≡ p ++ i ∷ s → ⊥
not_longer [] s i e = none (length s) (ap length e) where
  none : (n : ℕ) → 0 ≡ suc n → ⊥
  none n e = omega (arith, e)
not_longer (k ∷ p) s i e = not_longer p s i (ap rest_of e)

not_deeper : (p s : Path) (k i j : ℕ) → p ++ k ∷ [] ≡ p ++ i ∷ (j ∷ s) → ⊥
not_deeper [] s k i j e = not_longer [] s j (ap rest_of e)
not_deeper (m ∷ p) s k i j e = not_deeper p s k i j (ap rest_of e)

module _ (p : Path) (P Q : ℕ → Type 0) (never : (i j : ℕ) → P i → Q j → i ≡ j → ⊥) where
  beside_node : (a : Path) (y : Place) → Inside p P (Node a) → Inside p Q y → IsNoNode a y
  beside_node a (Node b) h k =
      λ e. steps_differ p h.1 k.1 h.0 k.0 (never h.0 k.0 h.3 k.3) (sym h.2 ∙ e ∙ k.2)
  beside_node a (Element b) h k = tt
  beside_node a (End b) h k = tt
  beside_node a (Name b n) h k = tt

  beside_element : (a : Path) (y : Place) → Inside p P (Element a) → Inside p Q y → IsNoElement a y
  beside_element a (Node b) h k = tt
  beside_element a (Element b) h k =
      λ e. steps_differ p h.1 k.1 h.0 k.0 (never h.0 k.0 h.3 k.3) (sym h.2 ∙ e ∙ k.2)
  beside_element a (End b) h k = tt
  beside_element a (Name b n) h k = tt

  beside : (x y : Place) → Inside p P x → Inside p Q y → AreApart x y
  beside (Node a) y h k = beside_node a y h k
  beside (Element a) y h k = beside_element a y h k
  beside (End a) y h k = tt
  beside (Name a n) y h k = tt

node_above : (q : Path) (y : Place) → Inside q Any y → AreApart (Node q) y
node_above q (Node b) k = λ e. not_longer q k.1 k.0 (e ∙ k.2)
node_above q (Element b) k = tt
node_above q (End b) k = tt
node_above q (Name b n) k = tt

element_above : (p : Path) (k : ℕ) (y : Place) → Deep p y → AreApart (Element (below p k)) y
element_above p k (Node b) h = tt
element_above p k (Element b) h = λ e. not_deeper p h.2 k h.0 h.1 (e ∙ h.3)
element_above p k (End b) h = tt
element_above p k (Name b n) h = tt

-- ---- lists of places

abbrev pub AreOnce : List Place → Type 0
AreOnce [] = Unit {0}
AreOnce (x ∷ xs) = Each (AreApart x) xs × AreOnce xs

once_both : (xs ys : List Place) → AreOnce xs → AreOnce ys → Each (λ x. Each (AreApart x) ys) xs → AreOnce (xs ++ ys)
once_both [] ys h k c = k
once_both (x ∷ xs) ys h k c = (each_both (AreApart x) xs ys h.0 c.0, once_both xs ys h.1 k c.1)

once_cond : (b : Bool) (xs ys : List Place) → AreOnce xs → AreOnce ys → AreOnce (cond b xs ys)
once_cond true xs ys h k = h
once_cond false xs ys h k = k

crossed : (P Q : Place → Type 0) (xs ys : List Place) → ((x y : Place) → P x → Q y → AreApart x y) → Each P xs → Each Q ys
    → Each (λ x. Each (AreApart x) ys) xs
crossed P Q xs ys f h k =
    each_map P (λ x. Each (AreApart x) ys) xs (λ x p. each_map Q (AreApart x) ys (λ y q. f x y p q) k) h

abbrev IsPlace : Place → Type 0
IsPlace x = Unit {0}

each_place : (xs : List Place) → Each IsPlace xs
each_place [] = tt
each_place (x ∷ xs) = (tt, each_place xs)

small_after : (xs ys : List Place) → Each IsSmall ys → Each (λ x. Each (AreApart x) ys) xs
small_after xs ys h = crossed IsPlace IsSmall xs ys (λ x y p q. after_small x y q) (each_place xs) h

small_before : (xs ys : List Place) → Each IsSmall xs → Each (λ x. Each (AreApart x) ys) xs
small_before xs ys h = crossed IsSmall IsPlace xs ys (λ x y p q. before_small x y p) h (each_place ys)

once_small : (xs : List Place) → Each IsSmall xs → AreOnce xs
once_small [] h = tt
once_small (x ∷ xs) h = (each_map IsSmall (AreApart x) xs (λ y q. after_small x y q) h.1, once_small xs h.1)

module _ (def : Definition) where
  -- the names of a node and the places below it
  once_names : (q : Path) (t : Fragment) (own : List Place) → AreOnce own → AreOnce (declared_places def q 0 t ++ own)
  once_names q t own h =
      once_both (declared_places def q 0 t) own (once_small (declared_places def q 0 t) (names_small def q 0 t)) h
      (small_before (declared_places def q 0 t) own (names_small def q 0 t))

  once_child : (q : Path) (t : Fragment) (own : List Place) → AreOnce own → Each (Inside q Any) own → AreOnce (child_places def q t own)
  once_child q t own h inside =
      once_cond (has_no_placeholder def t) own _ h
      (once_cond (is_hole t) [] _ tt (
        each_both (AreApart (Node q)) (declared_places def q 0 t) own
            (each_map IsSmall (AreApart (Node q)) (declared_places def q 0 t) (λ y s. after_small (Node q) y s) (names_small def q 0 t))
            (each_map (Inside q Any) (AreApart (Node q)) own (node_above q) inside),
        once_names q t own h,
      ))

  once_contents : (path : Path) (k : ℕ) (f : Fragment) → IsShaped f → AreOnce (content_places def path k f)
  once_contents path k (hole p) s = tt
  once_contents path k (ending l u) s = once_cond (may_go_on def l && not u) (End path ∷ []) [] (tt, tt) tt
  once_contents path k (cell l e r) s =
      let q = below path k in
      let own = content_places def q 0 e in
      let here = element_places def l q e own in
      let inside = contents_inside def q 0 e in
      let rest = content_places def path (suc k) r in
      let once = once_contents q 0 e s.0 in
      let child = once_child q e own once inside in
      once_both here rest
      (once_cond (may_go_on def l) _ _ (
        each_map (Deep path) (AreApart (Element q)) _ (element_above path k) (inner_deep def path k e own inside),
        once_cond (has_no_placeholder def e) _ _ (once_names q e own once) child,
      )
      child)
      (once_contents path (suc k) r s.1.0)
      (crossed (Inside path (Only k)) (Inside path (From (suc k))) here rest
      (beside path (Only k) (From (suc k)) (λ i j p z e. let a : i ≡ k = p in let b : suc k ≤ j = z in omega (arith, a, b, e)))
      (element_all def path k e own inside l) (list_from def path (suc k) r s.1.1))
  once_contents path k (operator o) s = tt
  once_contents path k (with_child f t) s =
      let c = length (children_of f) in
      let q = below path c in
      let own = content_places def q 0 t in
      let inside = contents_inside def q 0 t in
      let here = child_places def q t own in
      once_both (content_places def path k f) here (once_contents path k f s.0.0)
      (once_child q t own (once_contents q 0 t s.1) inside)
      (crossed (Inside path (Under c)) (Inside path (Only c)) (content_places def path k f) here
      (beside path (Under c) (Only c) (λ i j p z e. let a : i < c = p in let b : j ≡ c = z in omega (arith, a, b, e)))
      (parts_under def path k f s.0.1) (child_here def path c t own inside))
  once_contents path k (with_name f x) s =
      let more = cond (is_declares (next_item def f)) [] (Name path (names_before f) ∷ []) in
      let small : Each IsSmall more = each_cond IsSmall (is_declares (next_item def f)) [] _ tt (tt, tt) in
      once_both (content_places def path k f) more (once_contents path k f s.0) (once_small more small)
      (small_after (content_places def path k f) more small)
  once_contents path k (with_number f x) s = once_contents path k f s.0
  once_contents path k (with_text f x) s = once_contents path k f s.0
  once_contents path k anything s = absurd s
  once_contents path k (observed f) s = absurd s

  pub all_once : (f : Fragment) → IsFormed def f → AreOnce (places_of def f)
  all_once f (kind, (fits, plain)) =
      let s = (shaped def f [] kind fits plain).0 in
      let own = once_contents [] 0 f s in
      once_cond (has_no_placeholder def f) _ _ (once_names [] f (content_places def [] 0 f) own)
      (once_child [] f (content_places def [] 0 f) own (contents_inside def [] 0 f))

-- a node or an element
abbrev pub IsLarge : Place → Type 0
IsLarge x = AreApart x x → ⊥

same_place : (a b : Place) → Some a ≡ Some b → a ≡ b
same_place a b s = cc

apart_at : (x : Place) (xs : List Place) (n : ℕ) → Each (AreApart x) xs → slice_get xs n ≡ Some x → AreApart x x
apart_at x [] n h e = absurd (none-some x e)
apart_at x (y ∷ xs) zero h e = subst (AreApart x) (same_place y x e) h.0
apart_at x (y ∷ xs) (suc n) h e = apart_at x xs n h.1 e

pub once_at : (x : Place) (xs : List Place) (n m : ℕ) → IsLarge x → AreOnce xs → slice_get xs n ≡ Some x → slice_get xs m ≡ Some x → n ≡ m
once_at x [] n m large h a b = absurd (none-some x a)
once_at x (y ∷ xs) zero zero large h a b = refl
once_at x (y ∷ xs) zero (suc m) large h a b =
    absurd (large (apart_at x xs m (subst (λ z. Each (AreApart z) xs) (same_place y x a) h.0) b))
once_at x (y ∷ xs) (suc n) zero large h a b =
    absurd (large (apart_at x xs n (subst (λ z. Each (AreApart z) xs) (same_place y x b) h.0) a))
once_at x (y ∷ xs) (suc n) (suc m) large h a b = ap suc (once_at x xs n m large h.1 a b)
