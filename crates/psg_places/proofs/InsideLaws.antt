-- Where the places of a part of a tree are: below the path of the part.
use Rattle.std.proofs.Common.{◌≡◌, ℕ, suc, ◌+◌, ◌<◌, ◌≤◌, ◌&&◌, ◌||◌, not, Bool, true, false, cond, List, [], ◌∷◌, ◌++◌, length, refl, ap, ap₂, ◌∙◌, subst, arith, append_assoc, length-append}
use Rattle.std.specs.Prelude.{nat_eq, nat_lt}
use Rattle.std.specs.Cmp.Lexicographic.{pointwise}
use Rattle.std.specs.List.{list_any}
use Rattle.std.proofs.lemmas.Bool.{eqb-true, ltb-true}
use Rattle.psg_grammar.specs.declared.types.Definition.{Definition}
use Rattle.psg_grammar.specs.Fragments.{Fragment, hole, ending, cell, operator, with_child, with_name, with_number}
use Rattle.psg_grammar.specs.Fragments.{with_text, anything, observed, children_of}
use Rattle.psg_grammar.specs.Lookups.{is_declares, next_item}
use Rattle.psg_grammar.specs.Paths.{Path}
use Rattle.psg_places.specs.declared.place.Place.{Place}
use Rattle.psg_places.specs.declared.place.Place.TheVariants.{Node, Element, End, Name}
use Rattle.psg_places.specs.Blame.{kept_in}
use Rattle.psg_places.specs.Leading.{is_node, is_opened_at}
use Rattle.psg_places.specs.Listings.{opened_among}
use Rattle.psg_places.specs.Places.{below, child_places, content_places, declared_places, element_places, has_no_placeholder}
use Rattle.psg_places.specs.Places.{is_hole, may_go_on}
use Rattle.psg_places.specs.Ways.{earlier, goes_before, is_earlier}

-- ---- what holds of each place

abbrev pub Each : (Place → Type 0) → List Place → Type 0
Each P [] = Unit {0}
Each P (x ∷ xs) = P x × Each P xs

pub each_both : (P : Place → Type 0) (xs ys : List Place) → Each P xs → Each P ys → Each P (xs ++ ys)
each_both P [] ys h k = k
each_both P (x ∷ xs) ys h k = (h.0, each_both P xs ys h.1 k)

pub each_cond : (P : Place → Type 0) (b : Bool) (xs ys : List Place) → Each P xs → Each P ys → Each P (cond b xs ys)
each_cond P true xs ys h k = h
each_cond P false xs ys h k = k

pub each_map : (P Q : Place → Type 0) (xs : List Place) → ((x : Place) → P x → Q x) → Each P xs → Each Q xs
each_map P Q [] f h = tt
each_map P Q (x ∷ xs) f h = (f x h.0, each_map P Q xs f h.1)

pub each_opened : (P : Place → Type 0) (kept : List Bool) (n : ℕ) (xs : List Place) → Each P xs → Each P (opened_among kept n xs)
each_opened P kept n [] h = tt
each_opened P kept n (x ∷ xs) h =
    each_both P (cond (not (kept_in kept n)) (x ∷ []) []) (opened_among kept (suc n) xs)
    (each_cond P (not (kept_in kept n)) (x ∷ []) [] (h.0, tt) tt) (each_opened P kept (suc n) xs h.1)

-- ---- places below a path

-- A node or an element is below the path, and the first step after the path is one of these.
abbrev pub Inside : Path → (ℕ → Type 0) → Place → Type 0
Inside p P (Node at) = (i : ℕ) × (s : Path) × (at ≡ p ++ i ∷ s) × P i
Inside p P (Element at) = (i : ℕ) × (s : Path) × (at ≡ p ++ i ∷ s) × P i
Inside p P (End at) = Unit {0}
Inside p P (Name at n) = Unit {0}

abbrev pub Any : ℕ → Type 0
Any i = Unit {0}

abbrev pub Only : ℕ → ℕ → Type 0
Only k i = i ≡ k

abbrev pub From : ℕ → ℕ → Type 0
From k i = k ≤ i

abbrev pub Under : ℕ → ℕ → Type 0
Under k i = i < k

-- An element is two steps below the path at least.
abbrev pub Deep : Path → Place → Type 0
Deep p (Node at) = Unit {0}
Deep p (Element at) = (i j : ℕ) × (s : Path) × (at ≡ p ++ i ∷ (j ∷ s))
Deep p (End at) = Unit {0}
Deep p (Name at n) = Unit {0}

-- no node and no element
abbrev pub IsSmall : Place → Type 0
IsSmall (Node at) = ⊥
IsSmall (Element at) = ⊥
IsSmall (End at) = Unit {0}
IsSmall (Name at n) = Unit {0}

pub inside_small : (p : Path) (P : ℕ → Type 0) (x : Place) → IsSmall x → Inside p P x
inside_small p P (Node at) h = absurd h
inside_small p P (Element at) h = absurd h
inside_small p P (End at) h = tt
inside_small p P (Name at n) h = tt

pub deep_small : (p : Path) (x : Place) → IsSmall x → Deep p x
deep_small p (Node at) h = absurd h
deep_small p (Element at) h = absurd h
deep_small p (End at) h = tt
deep_small p (Name at n) h = tt

pub inside_more : (p : Path) (P Q : ℕ → Type 0) → ((i : ℕ) → P i → Q i) → (x : Place) → Inside p P x → Inside p Q x
inside_more p P Q f (Node at) h = (h.0, h.1, h.2, f h.0 h.3)
inside_more p P Q f (Element at) h = (h.0, h.1, h.2, f h.0 h.3)
inside_more p P Q f (End at) h = tt
inside_more p P Q f (Name at n) h = tt

pub inside_up : (p : Path) (k : ℕ) (P : ℕ → Type 0) (x : Place) → Inside (below p k) P x → Inside p (Only k) x
inside_up p k P (Node at) h = (k, h.0 ∷ h.1, h.2 ∙ append_assoc p (k ∷ []) (h.0 ∷ h.1), refl)
inside_up p k P (Element at) h = (k, h.0 ∷ h.1, h.2 ∙ append_assoc p (k ∷ []) (h.0 ∷ h.1), refl)
inside_up p k P (End at) h = tt
inside_up p k P (Name at n) h = tt

pub deep_up : (p : Path) (k : ℕ) (P : ℕ → Type 0) (x : Place) → Inside (below p k) P x → Deep p x
deep_up p k P (Node at) h = tt
deep_up p k P (Element at) h = (k, h.0, h.1, h.2 ∙ append_assoc p (k ∷ []) (h.0 ∷ h.1))
deep_up p k P (End at) h = tt
deep_up p k P (Name at n) h = tt

module _ (def : Definition) where
  pub names_small : (path : Path) (k : ℕ) (f : Fragment) → Each IsSmall (declared_places def path k f)
  names_small path k (hole p) = tt
  names_small path k (ending l u) = tt
  names_small path k (cell l e r) =
      each_both IsSmall _ _
      (each_cond IsSmall (may_go_on def l) [] _ tt
      (each_cond IsSmall (has_no_placeholder def e) _ [] (names_small (below path k) 0 e) tt))
      (names_small path (suc k) r)
  names_small path k (operator o) = tt
  names_small path k (with_child f t) =
      each_both IsSmall _ _ (names_small path k f)
      (each_cond IsSmall (has_no_placeholder def t) _ [] (names_small (below path (length (children_of f))) 0 t) tt)
  names_small path k (with_name f x) =
      each_both IsSmall _ _ (names_small path k f) (each_cond IsSmall (is_declares (next_item def f)) _ [] (tt, tt) tt)
  names_small path k (with_number f x) = names_small path k f
  names_small path k (with_text f x) = names_small path k f
  names_small path k anything = tt
  names_small path k (observed f) = tt

  -- the places of the child k of the node at the path, from those below it
  module _ (path : Path) (k : ℕ) (t : Fragment) (own : List Place) where
    abbrev names : List Place
    names = declared_places def (below path k) 0 t

    node_here : Inside path (Only k) (Node (below path k))
    node_here = (k, [], refl, refl)

    element_here : Inside path (Only k) (Element (below path k))
    element_here = (k, [], refl, refl)

    names_here : Each (Inside path (Only k)) names
    names_here = each_map IsSmall (Inside path (Only k)) names (inside_small path (Only k)) (names_small (below path k) 0 t)

    names_deep : Each (Deep path) names
    names_deep = each_map IsSmall (Deep path) names (deep_small path) (names_small (below path k) 0 t)

    module _ (h : Each (Inside (below path k) Any) own) where
      own_here : Each (Inside path (Only k)) own
      own_here = each_map (Inside (below path k) Any) (Inside path (Only k)) own (inside_up path k Any) h

      own_deep : Each (Deep path) own
      own_deep = each_map (Inside (below path k) Any) (Deep path) own (deep_up path k Any) h

      pub child_here : Each (Inside path (Only k)) (child_places def (below path k) t own)
      child_here =
          each_cond (Inside path (Only k)) (has_no_placeholder def t) own _ own_here
          (each_cond (Inside path (Only k)) (is_hole t) [] _ tt
          (node_here, each_both (Inside path (Only k)) names own names_here own_here))

      pub child_deep : Each (Deep path) (child_places def (below path k) t own)
      child_deep =
          each_cond (Deep path) (has_no_placeholder def t) own _ own_deep
          (each_cond (Deep path) (is_hole t) [] _ tt (tt, each_both (Deep path) names own names_deep own_deep))

      -- the same of a kept element, without its own place
      abbrev pub inner : List Place
      inner = cond (has_no_placeholder def t) (names ++ own) (child_places def (below path k) t own)

      pub inner_here : Each (Inside path (Only k)) inner
      inner_here =
          each_cond (Inside path (Only k)) (has_no_placeholder def t) (names ++ own) _
          (each_both (Inside path (Only k)) names own names_here own_here) child_here

      pub inner_deep : Each (Deep path) inner
      inner_deep =
          each_cond (Deep path) (has_no_placeholder def t) (names ++ own) _
          (each_both (Deep path) names own names_deep own_deep) child_deep

      pub element_all : (l : ℕ) → Each (Inside path (Only k)) (element_places def l (below path k) t own)
      element_all l = each_cond (Inside path (Only k)) (may_go_on def l) _ _ (element_here, inner_here) child_here

  only_any : (path : Path) (k : ℕ) (xs : List Place) → Each (Inside path (Only k)) xs → Each (Inside path Any) xs
  only_any path k xs h = each_map (Inside path (Only k)) (Inside path Any) xs (inside_more path (Only k) Any (λ i e. tt)) h

  pub contents_inside : (path : Path) (k : ℕ) (f : Fragment) → Each (Inside path Any) (content_places def path k f)
  contents_inside path k (hole p) = tt
  contents_inside path k (ending l u) = each_cond (Inside path Any) (may_go_on def l && not u) _ [] (tt, tt) tt
  contents_inside path k (cell l e r) =
      let own = content_places def (below path k) 0 e in
      each_both (Inside path Any) (element_places def l (below path k) e own) (content_places def path (suc k) r)
      (only_any path k (element_places def l (below path k) e own)
      (element_all path k e own (contents_inside (below path k) 0 e) l))
      (contents_inside path (suc k) r)
  contents_inside path k (operator o) = tt
  contents_inside path k (with_child f t) =
      let c = length (children_of f) in
      let own = content_places def (below path c) 0 t in
      each_both (Inside path Any) (content_places def path k f) (child_places def (below path c) t own)
      (contents_inside path k f)
      (only_any path c (child_places def (below path c) t own) (child_here path c t own (contents_inside (below path c) 0 t)))
  contents_inside path k (with_name f x) =
      each_both (Inside path Any) (content_places def path k f) _ (contents_inside path k f)
      (each_cond (Inside path Any) (is_declares (next_item def f)) [] _ tt (tt, tt))
  contents_inside path k (with_number f x) = contents_inside path k f
  contents_inside path k (with_text f x) = contents_inside path k f
  contents_inside path k anything = tt
  contents_inside path k (observed f) = tt

-- ---- lists and operators

-- a list whose rest is a list again, to its end
abbrev pub IsChain : Fragment → Type 0
IsChain (ending l u) = Unit {0}
IsChain (cell l e r) = IsChain r
IsChain _ = ⊥

-- an operator with its parts
abbrev pub IsParts : Fragment → Type 0
IsParts (operator o) = Unit {0}
IsParts (with_child f t) = IsParts f
IsParts (with_name f x) = IsParts f
IsParts (with_number f x) = IsParts f
IsParts (with_text f x) = IsParts f
IsParts _ = ⊥

module _ (def : Definition) where
  pub list_from : (path : Path) (k : ℕ) (f : Fragment) → IsChain f → Each (Inside path (From k)) (content_places def path k f)
  list_from path k (ending l u) h = each_cond (Inside path (From k)) (may_go_on def l && not u) _ [] (tt, tt) tt
  list_from path k (cell l e r) h =
      let own = content_places def (below path k) 0 e in
      let here = element_places def l (below path k) e own in
      each_both (Inside path (From k)) here (content_places def path (suc k) r)
      (each_map (Inside path (Only k)) (Inside path (From k)) here
      (inside_more path (Only k) (From k) (λ i e. let z : i ≡ k = e in omega (arith, z)))
      (element_all def path k e own (contents_inside def (below path k) 0 e) l))
      (each_map (Inside path (From (suc k))) (Inside path (From k)) (content_places def path (suc k) r)
      (inside_more path (From (suc k)) (From k) (λ i e. let z : suc k ≤ i = e in omega (arith, z))) (list_from path (suc k) r h))
  list_from path k (hole p) h = absurd h
  list_from path k (operator o) h = absurd h
  list_from path k (with_child f t) h = absurd h
  list_from path k (with_name f x) h = absurd h
  list_from path k (with_number f x) h = absurd h
  list_from path k (with_text f x) h = absurd h
  list_from path k anything h = absurd h
  list_from path k (observed f) h = absurd h

  pub parts_under : (path : Path) (k : ℕ) (f : Fragment) → IsParts f
      → Each (Inside path (Under (length (children_of f)))) (content_places def path k f)
  parts_under path k (operator o) h = tt
  parts_under path k (with_child f t) h =
      let c = length (children_of f) in
      let all = length (children_of f ++ t ∷ []) in
      let more : all ≡ c + 1 = length-append (children_of f) (t ∷ []) in
      let own = content_places def (below path c) 0 t in
      each_both (Inside path (Under all)) (content_places def path k f) (child_places def (below path c) t own)
      (each_map (Inside path (Under c)) (Inside path (Under all)) (content_places def path k f)
      (inside_more path (Under c) (Under all) (λ i e. let z : i < c = e in omega (arith, z, more))) (parts_under path k f h))
      (each_map (Inside path (Only c)) (Inside path (Under all)) (child_places def (below path c) t own)
      (inside_more path (Only c) (Under all) (λ i e. let z : i ≡ c = e in omega (arith, z, more)))
      (child_here def path c t own (contents_inside def (below path c) 0 t)))
  parts_under path k (with_name f x) h =
      each_both (Inside path (Under (length (children_of f)))) (content_places def path k f) _ (parts_under path k f h)
      (each_cond (Inside path (Under (length (children_of f)))) (is_declares (next_item def f)) [] _ tt (tt, tt))
  parts_under path k (with_number f x) h = parts_under path k f h
  parts_under path k (with_text f x) h = parts_under path k f h
  parts_under path k (hole p) h = absurd h
  parts_under path k (ending l u) h = absurd h
  parts_under path k (cell l e r) h = absurd h
  parts_under path k anything h = absurd h
  parts_under path k (observed f) h = absurd h

  pub parts_deep : (path : Path) (k : ℕ) (f : Fragment) → IsParts f → Each (Deep path) (content_places def path k f)
  parts_deep path k (operator o) h = tt
  parts_deep path k (with_child f t) h =
      let c = length (children_of f) in
      let own = content_places def (below path c) 0 t in
      each_both (Deep path) (content_places def path k f) (child_places def (below path c) t own) (parts_deep path k f h)
      (child_deep def path c t own (contents_inside def (below path c) 0 t))
  parts_deep path k (with_name f x) h =
      each_both (Deep path) (content_places def path k f) _ (parts_deep path k f h)
      (each_cond (Deep path) (is_declares (next_item def f)) [] _ tt (tt, tt))
  parts_deep path k (with_number f x) h = parts_deep path k f h
  parts_deep path k (with_text f x) h = parts_deep path k f h
  parts_deep path k (hole p) h = absurd h
  parts_deep path k (ending l u) h = absurd h
  parts_deep path k (cell l e r) h = absurd h
  parts_deep path k anything h = absurd h
  parts_deep path k (observed f) h = absurd h

-- ---- tests of places that are elsewhere

and_false : (b : Bool) → (b && false) ≡ false
and_false true = refl
and_false false = refl

pub other : (i k : ℕ) → (i ≡ k → ⊥) → nat_eq i k ≡ false
other i k h = by_test (nat_eq i k) refl
  where
    by_test : (t : Bool) → nat_eq i k ≡ t → t ≡ false
    by_test true e = absurd (h (eqb-true i k e))
    by_test false e = refl

apart : (p s t : Path) (i k : ℕ) → (i ≡ k → ⊥) → pointwise nat_eq (p ++ i ∷ s) ((p ++ k ∷ []) ++ t) ≡ false
apart [] s t i k h = ap (λ b. b && pointwise nat_eq s t) (other i k h)
apart (j ∷ p) s t i k h = ap (λ b. nat_eq j j && b) (apart p s t i k h) ∙ and_false (nat_eq j j)

apart_before : (p s t : Path) (i k m : ℕ) → (i ≡ k → ⊥) → goes_before m ((p ++ k ∷ []) ++ t) (p ++ i ∷ s) ≡ false
apart_before [] s t i k m h = ap (λ b. b && goes_before m t s) (other i k h)
apart_before (j ∷ p) s t i k m h = ap (λ b. nat_eq j j && b) (apart_before p s t i k m h) ∙ and_false (nat_eq j j)

inside_not : (p s : Path) (i : ℕ) → pointwise nat_eq (p ++ i ∷ s) p ≡ false
inside_not [] s i = refl
inside_not (j ∷ p) s i = ap (λ b. nat_eq j j && b) (inside_not p s i) ∙ and_false (nat_eq j j)

deep_before : (p s : Path) (i j m : ℕ) → goes_before m p (p ++ i ∷ (j ∷ s)) ≡ false
deep_before [] s i j m = refl
deep_before (k ∷ p) s i j m = ap (λ b. nat_eq k k && b) (deep_before p s i j m) ∙ and_false (nat_eq k k)

later_before : (p s : Path) (i m : ℕ) → m ≤ i → goes_before m p (p ++ i ∷ s) ≡ false
later_before [] [] i m le = by_test (nat_lt i m) refl
  where
    by_test : (t : Bool) → nat_lt i m ≡ t → t ≡ false
    by_test true e = let lt : i < m = ltb-true i m e in absurd (omega (arith, lt, le))
    by_test false e = refl
later_before [] (j ∷ s) i m le = refl
later_before (k ∷ p) s i m le = ap (λ b. nat_eq k k && b) (later_before p s i m le) ∙ and_false (nat_eq k k)

-- the place is the element at the path
abbrev pub is_element : Path → Place → Bool
is_element path (Node at) = false
is_element path (Element at) = pointwise nat_eq at path
is_element path (End at) = false
is_element path (Name at n) = false

abbrev pub is_out : List Place → Path → Bool
is_out xs path = list_any (is_element path) xs

-- The places say nothing of the path and of those below it.
pub record Quiet (xs : List Place) (p : Path) : Type 0 where
  pub node : (s : Path) → is_opened_at xs (p ++ s) ≡ false
  pub element : (s : Path) → is_out xs (p ++ s) ≡ false
  pub count : (s : Path) (m : ℕ) → earlier xs (p ++ s) m ≡ 0

none_then : (test : Place → Bool) (P : Place → Type 0) (xs : List Place) → ((x : Place) → P x → test x ≡ false) → Each P xs
    → list_any test xs ≡ false
none_then test P [] f h = refl
none_then test P (x ∷ xs) f h = ap₂ (λ a b. a || b) (f x h.0) (none_then test P xs f h.1)

no_count : (path : Path) (m : ℕ) (P : Place → Type 0) (xs : List Place) → ((x : Place) → P x → is_earlier path m x ≡ false)
    → Each P xs → earlier xs path m ≡ 0
no_count path m P [] f h = refl
no_count path m P (x ∷ xs) f h =
    let rest : earlier xs path m ≡ 0 = no_count path m P xs f h.1 in
    ap₂ (λ b n. cond b 1 0 + n) (f x h.0) rest

pub quiet_beside : (p : Path) (k : ℕ) (P : ℕ → Type 0) (xs : List Place) → (P k → ⊥) → Each (Inside p P) xs → Quiet xs (below p k)
quiet_beside p k P xs never h = record {
  node = λ s. none_then (is_node (below p k ++ s)) (Inside p P) xs (by_node s) h;
  element = λ s. none_then (is_element (below p k ++ s)) (Inside p P) xs (by_element s) h;
  count = λ s m. no_count (below p k ++ s) m (Inside p P) xs (by_count s m) h;
}
  where
    differs : (i : ℕ) → P i → i ≡ k → ⊥
    differs i h e = never (subst P e h)

    by_node : (s : Path) (x : Place) → Inside p P x → is_node (below p k ++ s) x ≡ false
    by_node s (Node at) h = ap (λ a. pointwise nat_eq a (below p k ++ s)) h.2 ∙ apart p h.1 s h.0 k (differs h.0 h.3)
    by_node s (Element at) h = refl
    by_node s (End at) h = refl
    by_node s (Name at n) h = refl

    by_element : (s : Path) (x : Place) → Inside p P x → is_element (below p k ++ s) x ≡ false
    by_element s (Node at) h = refl
    by_element s (Element at) h = ap (λ a. pointwise nat_eq a (below p k ++ s)) h.2 ∙ apart p h.1 s h.0 k (differs h.0 h.3)
    by_element s (End at) h = refl
    by_element s (Name at n) h = refl

    by_count : (s : Path) (m : ℕ) (x : Place) → Inside p P x → is_earlier (below p k ++ s) m x ≡ false
    by_count s m (Node at) h = refl
    by_count s m (Element at) h = ap (goes_before m (below p k ++ s)) h.2 ∙ apart_before p h.1 s h.0 k m (differs h.0 h.3)
    by_count s m (End at) h = refl
    by_count s m (Name at n) h = refl

pub quiet_small : (p : Path) (xs : List Place) → Each IsSmall xs → Quiet xs p
quiet_small p xs h = record {
  node = λ s. none_then (is_node (p ++ s)) IsSmall xs (by_node s) h;
  element = λ s. none_then (is_element (p ++ s)) IsSmall xs (by_element s) h;
  count = λ s m. no_count (p ++ s) m IsSmall xs (by_count s m) h;
}
  where
    by_node : (s : Path) (x : Place) → IsSmall x → is_node (p ++ s) x ≡ false
    by_node s (Node at) h = absurd h
    by_node s (Element at) h = refl
    by_node s (End at) h = refl
    by_node s (Name at n) h = refl

    by_element : (s : Path) (x : Place) → IsSmall x → is_element (p ++ s) x ≡ false
    by_element s (Node at) h = refl
    by_element s (Element at) h = absurd h
    by_element s (End at) h = refl
    by_element s (Name at n) h = refl

    by_count : (s : Path) (m : ℕ) (x : Place) → IsSmall x → is_earlier (p ++ s) m x ≡ false
    by_count s m (Node at) h = refl
    by_count s m (Element at) h = absurd h
    by_count s m (End at) h = refl
    by_count s m (Name at n) h = refl

pub not_itself : (p : Path) (P : ℕ → Type 0) (xs : List Place) → Each (Inside p P) xs → is_opened_at xs p ≡ false
not_itself p P xs h = none_then (is_node p) (Inside p P) xs by_node h
  where
    by_node : (x : Place) → Inside p P x → is_node p x ≡ false
    by_node (Node at) h = ap (λ a. pointwise nat_eq a p) h.2 ∙ inside_not p h.1 h.0
    by_node (Element at) h = refl
    by_node (End at) h = refl
    by_node (Name at n) h = refl

pub deep_count : (p : Path) (m : ℕ) (xs : List Place) → Each (Deep p) xs → earlier xs p m ≡ 0
deep_count p m xs h = no_count p m (Deep p) xs by_place h
  where
    by_place : (x : Place) → Deep p x → is_earlier p m x ≡ false
    by_place (Node at) h = refl
    by_place (Element at) h = ap (goes_before m p) h.3 ∙ deep_before p h.2 h.0 h.1 m
    by_place (End at) h = refl
    by_place (Name at n) h = refl

pub later_count : (p : Path) (k : ℕ) (xs : List Place) → Each (Inside p (From k)) xs → earlier xs p k ≡ 0
later_count p k xs h = no_count p k (Inside p (From k)) xs by_place h
  where
    by_place : (x : Place) → Inside p (From k) x → is_earlier p k x ≡ false
    by_place (Node at) h = refl
    by_place (Element at) h = ap (goes_before k p) h.2 ∙ later_before p h.1 h.0 k h.3
    by_place (End at) h = refl
    by_place (Name at n) h = refl
