-- What is left of lists and of operators without lost elements.
use Rattle.std.proofs.Common.{◌≡◌, ℕ, zero, suc, ◌+◌, ◌<◌, ◌≤◌, ◌||◌, Bool, true, false, cond, List, [], ◌∷◌, ◌++◌, length, drop, take, get_or, map, Option, Some, None, refl, ap, sym, ◌∙◌, subst, append_assoc, append-nil, true≢false, arith}
use Rattle.std.specs.List.{list_any}
use Rattle.std.proofs.lemmas.List.{drop_all, map-append}
use Rattle.psg_terms.proofs.Lists.{drop_item, take_item}
use Rattle.psg_grammar.specs.declared.types.Definition.{Definition}
use Rattle.psg_grammar.specs.Fragments.{Fragment, hole, ending, cell, operator, with_child, with_name, with_number, with_text, children_of}
use Rattle.psg_grammar.specs.Paths.{Path, ended}
use Rattle.psg_tree.specs.declared.tree.Part.{Part}
use Rattle.psg_tree.specs.declared.tree.Part.TheVariants.{Sub, Name, Number, Text}
use Rattle.psg_tree.specs.declared.tree.Shape.{Shape}
use Rattle.psg_tree.specs.declared.tree.Shape.TheVariants.{Op, List as ListOf, Hole}
use Rattle.psg_tree.specs.Shapes.{list_of, tree_of, with_parts}
use Rattle.psg_tree.proofs.Children.{children-list}
use Rattle.psg_places.specs.Places.{is_list}
use Rattle.psg_recover.specs.Lost.{child_of, element_back, is_lost, left_elements, left_out, left_part, number_back, path_back, step_back}

ended_list : (l : ℕ) (es : List Fragment) (u : Bool) → ended true (list_of l es u) ≡ list_of l es true
ended_list l [] u = refl
ended_list l (e ∷ es) u = ap (λ r. cell l e r) (ended_list l es u)

or_true : (u : Bool) → (u || true) ≡ true
or_true true = refl
or_true false = refl

or_none : (u : Bool) → (u || false) ≡ u
or_none true = refl
or_none false = refl

next_left : (l : ℕ) (b : Bool) (x r : Fragment) (ks : List Fragment) (u c : Bool) → r ≡ list_of l ks (u || c)
    → cond b (ended true r) (cell l x r) ≡ list_of l (cond b ks (x ∷ ks)) (u || (b || c))
next_left l true x r ks u c e = ap (ended true) e ∙ ended_list l ks (u || c) ∙ ap (list_of l ks) (sym (or_true u))
next_left l false x r ks u c e = ap (λ s. cell l x s) e

add_left : (b : Bool) (y : Fragment) (ys : List Fragment) → cond b ys (y ∷ ys) ≡ cond b [] (y ∷ []) ++ ys
add_left true y ys = refl
add_left false y ys = refl

none_is_list : (f : Fragment) (ps : List Part) → is_list f ≡ false → is_list (with_parts f ps) ≡ false
none_is_list f [] e = e
none_is_list f (Sub t ∷ ps) e = none_is_list (with_child f t) ps refl
none_is_list f (Name x ∷ ps) e = none_is_list (with_name f x) ps refl
none_is_list f (Number x ∷ ps) e = none_is_list (with_number f x) ps refl
none_is_list f (Text x ∷ ps) e = none_is_list (with_text f x) ps refl

lists_are : (l : ℕ) (es : List Fragment) (u : Bool) → is_list (list_of l es u) ≡ true
lists_are l [] u = refl
lists_are l (e ∷ es) u = refl

module _ (def : Definition) where
  pub list_left : (l : ℕ) (es : List Fragment) (u : Bool)
      → left_out def (list_of l es u) ≡ list_of l (left_elements def es) (u || list_any (is_lost def) es)
  list_left l [] u = ap (ending l) (sym (or_none u))
  list_left l (e ∷ es) u =
      next_left l (is_lost def e) (left_out def e) (left_out def (list_of l es u)) (left_elements def es) u
      (list_any (is_lost def) es) (list_left l es u)

  pub parts_left : (f : Fragment) (ps : List Part)
      → left_out def (with_parts f ps) ≡ with_parts (left_out def f) (map (left_part def) ps)
  parts_left f [] = refl
  parts_left f (Sub t ∷ ps) = parts_left (with_child f t) ps
  parts_left f (Name x ∷ ps) = parts_left (with_name f x) ps
  parts_left f (Number x ∷ ps) = parts_left (with_number f x) ps
  parts_left f (Text x ∷ ps) = parts_left (with_text f x) ps

  pub parts_next : (ps : List Part) (i : ℕ) (x own : Part) (made new : List Part) → i < length ps → x ≡ get_or ps i x
      → made ≡ map (left_part def) (take i ps) → own ≡ left_part def x → new ≡ made ++ own ∷ []
      → new ≡ map (left_part def) (take (i + 1) ps)
  parts_next ps i x own made new lt at so_far is step =
      step ∙ ap (λ l. l ++ own ∷ []) so_far ∙ ap (λ y. map (left_part def) (take i ps) ++ y ∷ []) is
      ∙ sym (map-append (left_part def) (take i ps) (x ∷ [])) ∙ ap (map (left_part def)) (sym (take_item ps i x lt at))

  -- ---- what is lost

  kept_parts : (f : Fragment) (ps : List Part) → is_lost def f ≡ false → is_lost def (with_parts f ps) ≡ false
  kept_parts f [] e = e
  kept_parts f (Sub t ∷ ps) e = kept_parts (with_child f t) ps refl
  kept_parts f (Name x ∷ ps) e = kept_parts (with_name f x) ps refl
  kept_parts f (Number x ∷ ps) e = kept_parts (with_number f x) ps refl
  kept_parts f (Text x ∷ ps) e = kept_parts (with_text f x) ps refl

  pub op_is_kept : (s : Shape) (op : ℕ) (ps : List Part) (f : Fragment) → s ≡ Op op ps → tree_of s ≡ f
      → false ≡ is_lost def f
  op_is_kept s op ps f is at =
      sym (kept_parts (operator op) ps refl) ∙ ap (is_lost def) (sym (ap tree_of is) ∙ at)

  kept_list : (l : ℕ) (es : List Fragment) (u : Bool) → false ≡ is_lost def (list_of l es u)
  kept_list l [] u = refl
  kept_list l (e ∷ es) u = refl

  pub list_is_kept : (s : Shape) (l : ℕ) (es : List Fragment) (u : Bool) (f : Fragment) → s ≡ ListOf l es u
      → tree_of s ≡ f → false ≡ is_lost def f
  list_is_kept s l es u f is at = kept_list l es u ∙ ap (is_lost def) (sym (ap tree_of is) ∙ at)

  pub hole_lost : (s : Shape) (p : ℕ) (f : Fragment) → s ≡ Hole p → tree_of s ≡ f → is_lost def (hole p) ≡ is_lost def f
  hole_lost s p f is at = ap (is_lost def) (sym (ap tree_of is) ∙ at)

  -- ---- elements, one by one

  or_here : (a b : Bool) → a ≡ true → true ≡ (a || b)
  or_here true b e = refl
  or_here false b e = absurd (true≢false (sym e))

  or_next : (a b : Bool) → a ≡ false → b ≡ (a || b)
  or_next true b e = absurd (true≢false e)
  or_next false b e = refl

  pub any_here : (es : List Fragment) (i : ℕ) (x : Fragment) (all : Bool) → i < length es → x ≡ get_or es i x
      → is_lost def x ≡ true → list_any (is_lost def) (drop i es) ≡ all → true ≡ all
  any_here es i x all lt at lost so_far =
      or_here (is_lost def x) (list_any (is_lost def) (drop (i + 1) es)) lost
      ∙ ap (list_any (is_lost def)) (sym (drop_item es i x lt at)) ∙ so_far

  pub any_next : (es : List Fragment) (i : ℕ) (x : Fragment) (all : Bool) → i < length es → x ≡ get_or es i x
      → is_lost def x ≡ false → list_any (is_lost def) (drop i es) ≡ all
      → list_any (is_lost def) (drop (i + 1) es) ≡ all
  any_next es i x all lt at kept so_far =
      or_next (is_lost def x) (list_any (is_lost def) (drop (i + 1) es)) kept
      ∙ ap (list_any (is_lost def)) (sym (drop_item es i x lt at)) ∙ so_far

  pub any_end : (es : List Fragment) (i : ℕ) (all : Bool) → length es ≤ i
      → list_any (is_lost def) (drop i es) ≡ all → false ≡ all
  any_end es i all le so_far = ap (list_any (is_lost def)) (sym (drop_all i es le)) ∙ so_far

  left_one : (x : Fragment) (xs : List Fragment) → left_elements def (x ∷ xs) ≡ left_elements def (x ∷ []) ++ left_elements def xs
  left_one x xs = add_left (is_lost def x) (left_out def x) (left_elements def xs)

  pub push_none : (e : Fragment) (made : List Fragment) → is_lost def e ≡ true → made ≡ made ++ left_elements def (e ∷ [])
  push_none e made lost =
      sym (append-nil made) ∙ ap (λ b. made ++ cond b [] (left_out def e ∷ [])) (sym lost)

  pub push_one : (e own : Fragment) (made new : List Fragment) → is_lost def e ≡ false → own ≡ left_out def e
      → new ≡ made ++ own ∷ [] → new ≡ made ++ left_elements def (e ∷ [])
  push_one e own made new kept is step =
      step ∙ ap (λ x. made ++ x ∷ []) is ∙ ap (λ b. made ++ cond b [] (left_out def e ∷ [])) (sym kept)

  pub left_next : (es : List Fragment) (i : ℕ) (x : Fragment) (made new all : List Fragment) → i < length es
      → x ≡ get_or es i x → made ++ left_elements def (drop i es) ≡ all → new ≡ made ++ left_elements def (x ∷ [])
      → new ++ left_elements def (drop (i + 1) es) ≡ all
  left_next es i x made new all lt at so_far step =
      let rest = drop (i + 1) es in
      ap (λ l. l ++ left_elements def rest) step
      ∙ append_assoc made (left_elements def (x ∷ [])) (left_elements def rest)
      ∙ ap (λ l. made ++ l) (sym (left_one x rest))
      ∙ ap (λ l. made ++ left_elements def l) (sym (drop_item es i x lt at))
      ∙ so_far

  pub left_done : (es : List Fragment) (i : ℕ) (made all : List Fragment) → length es ≤ i
      → made ++ left_elements def (drop i es) ≡ all → made ≡ all
  left_done es i made all le so_far =
      sym (append-nil made) ∙ ap (λ l. made ++ left_elements def l) (sym (drop_all i es le)) ∙ so_far

  -- ---- of the node at the top

  pub op_left : (s : Shape) (op : ℕ) (ps made : List Part) (f : Fragment) → s ≡ Op op ps → tree_of s ≡ f
      → made ≡ map (left_part def) ps → with_parts (operator op) made ≡ left_out def f
  op_left s op ps made f is at m =
      ap (with_parts (operator op)) m ∙ sym (parts_left (operator op) ps) ∙ ap (left_out def) (sym (ap tree_of is) ∙ at)

  pub list_left_at : (s : Shape) (l : ℕ) (es ks : List Fragment) (u w : Bool) (f : Fragment) → s ≡ ListOf l es u
      → tree_of s ≡ f → ks ≡ left_elements def es → w ≡ (u || list_any (is_lost def) es)
      → list_of l ks w ≡ left_out def f
  list_left_at s l es ks u w f is at k e =
      ap (λ x. list_of l x w) k ∙ ap (list_of l (left_elements def es)) e ∙ sym (list_left l es u)
      ∙ ap (left_out def) (sym (ap tree_of is) ∙ at)

  pub hole_left : (s : Shape) (p : ℕ) (f : Fragment) → s ≡ Hole p → tree_of s ≡ f → hole p ≡ left_out def f
  hole_left s p f is at = ap (left_out def) (sym (ap tree_of is) ∙ at)

  -- ---- numbers and paths

  -- an element that is lost is passed over
  pub back_over : (es : List Fragment) (i k all : ℕ) (x : Fragment) → i < length es → x ≡ get_or es i x
      → is_lost def x ≡ true → i + element_back def k (drop i es) ≡ all → (i + 1) + element_back def k (drop (i + 1) es) ≡ all
  back_over es i k all x lt at lost so_far =
      let e : element_back def k (drop i es) ≡ suc (element_back def k (drop (i + 1) es)) =
      ap (element_back def k) (drop_item es i x lt at) ∙ over k x (drop (i + 1) es) lost in
      omega (arith, e, so_far)
    where
      over : (n : ℕ) (y : Fragment) (ys : List Fragment) → is_lost def y ≡ true → element_back def n (y ∷ ys) ≡ suc (element_back def n ys)
      over zero y ys e = ap (λ b. cond b (suc (element_back def zero ys)) 0) e
      over (suc n) y ys e = ap (λ b. suc (cond b (element_back def (suc n) ys) (element_back def n ys))) e

  pub back_here : (es : List Fragment) (i all : ℕ) (x : Fragment) → i < length es → x ≡ get_or es i x
      → is_lost def x ≡ false → i + element_back def 0 (drop i es) ≡ all → i ≡ all
  back_here es i all x lt at kept so_far =
      let e : element_back def 0 (drop i es) ≡ 0 =
      ap (element_back def 0) (drop_item es i x lt at) ∙ ap (λ b. cond b (suc (element_back def 0 (drop (i + 1) es))) 0) kept in
      omega (arith, e, so_far)

  pub back_next : (es : List Fragment) (i k less all : ℕ) (x : Fragment) → i < length es → x ≡ get_or es i x
      → is_lost def x ≡ false → k ≡ less + 1 → i + element_back def k (drop i es) ≡ all
      → (i + 1) + element_back def less (drop (i + 1) es) ≡ all
  back_next es i k less all x lt at kept one so_far =
      let n : k ≡ suc less = omega (arith, one) in
      let e : element_back def k (drop i es) ≡ suc (element_back def less (drop (i + 1) es)) =
      ap (λ m. element_back def m (drop i es)) n ∙ ap (element_back def (suc less)) (drop_item es i x lt at)
      ∙ ap (λ b. suc (cond b (element_back def (suc less) (drop (i + 1) es)) (element_back def less (drop (i + 1) es)))) kept in
      omega (arith, e, so_far)

  pub back_end : (es : List Fragment) (i k all : ℕ) → length es ≤ i → i ≤ length es → i + element_back def k (drop i es) ≡ all → length es ≡ all
  back_end es i k all le ge so_far =
      let e : element_back def k (drop i es) ≡ 0 = ap (element_back def k) (drop_all i es le) ∙ none k in
      omega (arith, e, so_far, le, ge)
    where
      none : (n : ℕ) → element_back def n [] ≡ 0
      none zero = refl
      none (suc n) = refl

  pub list_back : (s : Shape) (l : ℕ) (es : List Fragment) (u : Bool) (f : Fragment) (k : ℕ) → s ≡ ListOf l es u
      → tree_of s ≡ f → element_back def k es ≡ number_back def k f
  list_back s l es u f k is at =
      sym (ap (element_back def k) (children-list l es u))
      ∙ sym (ap (λ b. cond b (element_back def k (children_of (list_of l es u))) k) (lists_are l es u))
      ∙ ap (number_back def k) (sym (ap tree_of is) ∙ at)

  pub op_back : (s : Shape) (op : ℕ) (ps : List Part) (f : Fragment) (k : ℕ) → s ≡ Op op ps
      → tree_of s ≡ f → k ≡ number_back def k f
  op_back s op ps f k is at =
      sym (ap (λ b. cond b (element_back def k (children_of (with_parts (operator op) ps))) k) (none_is_list (operator op) ps refl))
      ∙ ap (number_back def k) (sym (ap tree_of is) ∙ at)

  pub hole_back : (s : Shape) (p : ℕ) (f : Fragment) (k : ℕ) → s ≡ Hole p → tree_of s ≡ f → k ≡ number_back def k f
  hole_back s p f k is at = ap (number_back def k) (sym (ap tree_of is) ∙ at)

  -- one step of a path more
  pub path_next : (path : Path) (i step own : ℕ) (node next : Option Fragment) (back new all : Path) → i < length path
      → step ≡ get_or path i step → own ≡ step_back def node step → new ≡ back ++ own ∷ [] → next ≡ child_of node own
      → back ++ path_back def node (drop i path) ≡ all → new ++ path_back def next (drop (i + 1) path) ≡ all
  path_next path i step own node next back new all lt at is grown after so_far =
      let rest = drop (i + 1) path in
      ap (λ (l : Path). l ++ path_back def next rest) grown ∙ append_assoc back (own ∷ []) (path_back def next rest)
      ∙ ap (λ (o : Option Fragment). back ++ (own ∷ path_back def o rest)) after
      ∙ ap (λ (n : ℕ). back ++ (n ∷ path_back def (child_of node n) rest)) is
      ∙ ap (λ (p : Path). back ++ path_back def node p) (sym (drop_item path i step lt at)) ∙ so_far

  pub path_end : (path : Path) (i : ℕ) (node : Option Fragment) (back all : Path) → length path ≤ i
      → back ++ path_back def node (drop i path) ≡ all → back ≡ all
  path_end path i node back all le so_far =
      sym (append-nil back) ∙ ap (λ (p : Path). back ++ path_back def node p) (sym (drop_all i path le)) ∙ so_far
