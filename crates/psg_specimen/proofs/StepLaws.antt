-- No step of a tree passes the limit where none of its children and none of its own does, and one does where one of these does.
use Rattle.std.proofs.Common.{◌≡◌, ◌⊎◌, inl, inr, ℕ, zero, suc, ◌+◌, ◌≤◌, false, List, [], ◌∷◌, ◌++◌, length, refl, subst, arith}
use Rattle.psg_terms.proofs.Lists.{in_either, in_left, in_right}
use Rattle.psg_terms.specs.Relations.{first, later}
use Rattle.psg_grammar.specs.declared.types.SpecimenPart.{SpecimenPart, Sub, Name, Number, Text}
use Rattle.psg_grammar.specs.declared.types.Definition.{Definition}
use Rattle.psg_grammar.specs.Fragments.{Fragment, hole, ending, cell, operator, with_child, with_name, with_number, with_text, anything, observed, children_of}
use Rattle.psg_grammar.specs.Paths.{Path}
use Rattle.psg_grammar.specs.Specimens.{tree_of, part_of}
use Rattle.psg_grammar.specs.Steps.{Place, PassesAt, last_step, steps_up_to, own_steps, list_steps, steps_of, steps_below}
use Rattle.psg_eval.specs.Summaries.{IsFirstPassing, StaysWithin}
use Rattle.psg_specimen.specs.Patterns.{parts_on, AreLight, HasWide, IsLight, IsWideTree, IsLightBelow, IsWideBelow, IsLightList, IsWideList}

-- an operator with parts
abbrev pub IsSpine : Fragment → Type 0
IsSpine (operator o) = Unit {0}
IsSpine (with_child f t) = IsSpine f
IsSpine (with_name f n) = IsSpine f
IsSpine (with_number f n) = IsSpine f
IsSpine (with_text f t) = IsSpine f
IsSpine _ = ⊥

pub spine_part : (p : SpecimenPart) (f : Fragment) → IsSpine f → IsSpine (part_of p f)
spine_part (Sub s) f h = h
spine_part (Name n) f h = h
spine_part (Number n) f h = h
spine_part (Text t) f h = h

pub spine_parts : (f : Fragment) (ps : List SpecimenPart) → IsSpine f → IsSpine (parts_on f ps)
spine_parts f [] h = h
spine_parts f (p ∷ ps) h = spine_parts (part_of p f) ps (spine_part p f h)

module _ (def : Definition) where
  light_none : AreLight def []
  light_none place h = elim h [ ]

  light_append : (xs ys : List Place) → AreLight def xs → AreLight def ys → AreLight def (xs ++ ys)
  light_append xs ys h k place i = elim (in_either place xs ys i) [ inl a ↦ h place a | inr b ↦ k place b ]

  wide_left : (xs ys : List Place) → HasWide def xs → HasWide def (xs ++ ys)
  wide_left xs ys (place, i, passes) = (place, in_left place xs ys i, passes)

  wide_right : (xs ys : List Place) → HasWide def ys → HasWide def (xs ++ ys)
  wide_right xs ys (place, i, passes) = (place, in_right place xs ys i, passes)

  light_one : (place : Place) → (PassesAt def place.part place.step → ⊥) → AreLight def (place ∷ [])
  light_one place h other first = h
  light_one place h other (later i) = elim i [ ]

  up_light : (path : Path) (f : Fragment) (n : ℕ) → ((k : ℕ) → k ≤ n → PassesAt def f k → ⊥) → AreLight def (steps_up_to path f n)
  up_light path f zero h = light_one (record { path = path; part = f; step = 0 }) (h 0 (omega arith))
  up_light path f (suc n) h =
      light_append (steps_up_to path f n) (record { path = path; part = f; step = suc n } ∷ [])
      (up_light path f n (λ k l. h k (omega (arith, l))))
      (light_one (record { path = path; part = f; step = suc n }) (h (suc n) (omega arith)))

  up_wide : (path : Path) (f : Fragment) (n step : ℕ) → step ≤ n → PassesAt def f step → HasWide def (steps_up_to path f n)
  up_wide path f zero step l p =
      let e : step ≡ 0 = omega (arith, l) in
      (record { path = path; part = f; step = 0 }, first, subst (PassesAt def f) e p)
  up_wide path f (suc n) step l p = elim (last step n l) [
    | inl small ↦ wide_left (steps_up_to path f n) (record { path = path; part = f; step = suc n } ∷ []) (up_wide path f n step small p)
    | inr same ↦ wide_right (steps_up_to path f n) (record { path = path; part = f; step = suc n } ∷ [])
        (record { path = path; part = f; step = suc n }, first, subst (PassesAt def f) same p)
  ] where
    last : (step n : ℕ) → step ≤ suc n → (step ≤ n) ⊎ (step ≡ suc n)
    last zero n l = inl (omega arith)
    last (suc k) zero l = inr (omega (arith, l))
    last (suc k) (suc n) l = elim (last k n (omega (arith, l))) [ inl a ↦ inl (omega (arith, a)) | inr b ↦ inr (omega (arith, b)) ]

  own_light : (path : Path) (f : Fragment) → StaysWithin def f → AreLight def (own_steps def path f)
  own_light path f h = up_light path f (last_step def f) h

  own_wide : (path : Path) (f : Fragment) (step : ℕ) → IsFirstPassing def f step → HasWide def (own_steps def path f)
  own_wide path f step h = up_wide path f (last_step def f) step h.there h.passes

  -- ---- operators

  pub light_operator : (o : ℕ) → IsLightBelow def (operator o)
  light_operator o path = light_none

  pub light_part : (p : SpecimenPart) (f : Fragment) → IsLightBelow def f → ((s : _) → p ≡ Sub s → IsLight def (tree_of s)) → IsLightBelow def (part_of p f)
  light_part (Sub s) f h t path = light_append (steps_below def path 0 f) (steps_of def (path ++ length (children_of f) ∷ []) (tree_of s)) (h path) (t s refl (path ++ length (children_of f) ∷ []))
  light_part (Name n) f h t path = h path
  light_part (Number n) f h t path = h path
  light_part (Text x) f h t path = h path

  wide_part : (p : SpecimenPart) (f : Fragment) → IsWideBelow def f → IsWideBelow def (part_of p f)
  wide_part (Sub s) f h path = wide_left (steps_below def path 0 f) (steps_of def (path ++ length (children_of f) ∷ []) (tree_of s)) (h path)
  wide_part (Name n) f h path = h path
  wide_part (Number n) f h path = h path
  wide_part (Text x) f h path = h path

  pub wide_parts : (ps : List SpecimenPart) (f : Fragment) → IsWideBelow def f → IsWideBelow def (parts_on f ps)
  wide_parts [] f h = h
  wide_parts (p ∷ ps) f h = wide_parts ps (part_of p f) (wide_part p f h)

  pub wide_child : (f t : Fragment) → IsWideTree def t → IsWideBelow def (with_child f t)
  wide_child f t h path = wide_right (steps_below def path 0 f) (steps_of def (path ++ length (children_of f) ∷ []) t) (h (path ++ length (children_of f) ∷ []))

  pub light_spine : (f : Fragment) → IsSpine f → IsLightBelow def f → StaysWithin def f → IsLight def f
  light_spine (operator o) s h w path = own_light path (operator o) w
  light_spine (with_child f t) s h w path = light_append (steps_below def path 0 (with_child f t)) (own_steps def path (with_child f t)) (h path) (own_light path (with_child f t) w)
  light_spine (with_name f n) s h w path = light_append (steps_below def path 0 f) (own_steps def path (with_name f n)) (h path) (own_light path (with_name f n) w)
  light_spine (with_number f n) s h w path = light_append (steps_below def path 0 f) (own_steps def path (with_number f n)) (h path) (own_light path (with_number f n) w)
  light_spine (with_text f n) s h w path = light_append (steps_below def path 0 f) (own_steps def path (with_text f n)) (h path) (own_light path (with_text f n) w)
  light_spine (hole p) s h w path = absurd s
  light_spine (ending l u) s h w path = absurd s
  light_spine (cell l e r) s h w path = absurd s
  light_spine anything s h w path = absurd s
  light_spine (observed f) s h w path = absurd s

  pub below_spine : (f : Fragment) → IsSpine f → IsWideBelow def f → IsWideTree def f
  below_spine (operator o) s h path = elim (h path).1 [ ]
  below_spine (with_child f t) s h path = wide_left (steps_below def path 0 (with_child f t)) (own_steps def path (with_child f t)) (h path)
  below_spine (with_name f n) s h path = wide_left (steps_below def path 0 f) (own_steps def path (with_name f n)) (h path)
  below_spine (with_number f n) s h path = wide_left (steps_below def path 0 f) (own_steps def path (with_number f n)) (h path)
  below_spine (with_text f n) s h path = wide_left (steps_below def path 0 f) (own_steps def path (with_text f n)) (h path)
  below_spine (hole p) s h path = absurd s
  below_spine (ending l u) s h path = absurd s
  below_spine (cell l e r) s h path = absurd s
  below_spine anything s h path = absurd s
  below_spine (observed f) s h path = absurd s

  pub own_spine : (f : Fragment) (step : ℕ) → IsSpine f → IsFirstPassing def f step → IsWideTree def f
  own_spine (operator o) step s h path = own_wide path (operator o) step h
  own_spine (with_child f t) step s h path = wide_right (steps_below def path 0 (with_child f t)) (own_steps def path (with_child f t)) (own_wide path (with_child f t) step h)
  own_spine (with_name f n) step s h path = wide_right (steps_below def path 0 f) (own_steps def path (with_name f n)) (own_wide path (with_name f n) step h)
  own_spine (with_number f n) step s h path = wide_right (steps_below def path 0 f) (own_steps def path (with_number f n)) (own_wide path (with_number f n) step h)
  own_spine (with_text f n) step s h path = wide_right (steps_below def path 0 f) (own_steps def path (with_text f n)) (own_wide path (with_text f n) step h)
  own_spine (hole p) step s h path = absurd s
  own_spine (ending l u) step s h path = absurd s
  own_spine (cell l e r) step s h path = absurd s
  own_spine anything step s h path = absurd s
  own_spine (observed f) step s h path = absurd s

  -- ---- lists

  -- the end of a list, or a list
  abbrev pub IsSuffix : Fragment → Type 0
  IsSuffix (ending l u) = Unit {0}
  IsSuffix (cell l e r) = Unit {0}
  IsSuffix anything = Unit {0}
  IsSuffix _ = ⊥

  pub light_end : (l : ℕ) → StaysWithin def (ending l false) → IsLightList def (ending l false)
  light_end l w = record { elements = λ path n. light_none; cells = λ path. own_light path (ending l false) w }

  pub light_open : IsLightList def anything
  light_open = record { elements = λ path n. light_none; cells = λ path. light_none }

  pub light_cell : (l : ℕ) (e r : Fragment) → IsLight def e → IsLightList def r → StaysWithin def (cell l e r) → IsLightList def (cell l e r)
  light_cell l e r h k w = record {
    elements = λ path n. light_append (steps_of def (path ++ n ∷ []) e) (steps_below def path (n + 1) r) (h (path ++ n ∷ [])) (k.elements path (n + 1));
    cells = λ path. light_append (list_steps def path r) (own_steps def path (cell l e r)) (k.cells path) (own_light path (cell l e r) w);
  }

  pub light_list : (f : Fragment) → IsSuffix f → IsLightList def f → IsLight def f
  light_list (ending l u) s h path = h.cells path
  light_list (cell l e r) s h path = light_append (steps_below def path 0 (cell l e r)) (list_steps def path (cell l e r)) (h.elements path 0) (h.cells path)
  light_list anything s h path = light_none
  light_list (hole p) s h path = absurd s
  light_list (operator o) s h path = absurd s
  light_list (with_child f t) s h path = absurd s
  light_list (with_name f n) s h path = absurd s
  light_list (with_number f n) s h path = absurd s
  light_list (with_text f n) s h path = absurd s
  light_list (observed f) s h path = absurd s

  pub wide_end : (l step : ℕ) → IsFirstPassing def (ending l false) step → IsWideList def (ending l false)
  wide_end l step h = inr (λ path. own_wide path (ending l false) step h)

  pub wide_element : (l : ℕ) (e r : Fragment) → IsWideTree def e → IsWideList def (cell l e r)
  wide_element l e r h = inl (λ path n. wide_left (steps_of def (path ++ n ∷ []) e) (steps_below def path (n + 1) r) (h (path ++ n ∷ [])))

  pub wide_rest : (l : ℕ) (e r : Fragment) → IsWideList def r → IsWideList def (cell l e r)
  wide_rest l e r (inl h) = inl (λ path n. wide_right (steps_of def (path ++ n ∷ []) e) (steps_below def path (n + 1) r) (h path (n + 1)))
  wide_rest l e r (inr h) = inr (λ path. wide_left (list_steps def path r) (own_steps def path (cell l e r)) (h path))

  pub wide_cell : (l step : ℕ) (e r : Fragment) → IsFirstPassing def (cell l e r) step → IsWideList def (cell l e r)
  wide_cell l step e r h = inr (λ path. wide_right (list_steps def path r) (own_steps def path (cell l e r)) (own_wide path (cell l e r) step h))

  wide_by : (f : Fragment) (path : Path) → IsSuffix f → HasWide def (steps_below def path 0 f) ⊎ HasWide def (list_steps def path f) → HasWide def (steps_of def path f)
  wide_by (ending l u) path s (inl h) = elim h.1 [ ]
  wide_by (ending l u) path s (inr h) = h
  wide_by (cell l e r) path s (inl h) = wide_left (steps_below def path 0 (cell l e r)) (list_steps def path (cell l e r)) h
  wide_by (cell l e r) path s (inr h) = wide_right (steps_below def path 0 (cell l e r)) (list_steps def path (cell l e r)) h
  wide_by anything path s (inl h) = elim h.1 [ ]
  wide_by anything path s (inr h) = elim h.1 [ ]
  wide_by (hole p) path s h = absurd s
  wide_by (operator o) path s h = absurd s
  wide_by (with_child f t) path s h = absurd s
  wide_by (with_name f n) path s h = absurd s
  wide_by (with_number f n) path s h = absurd s
  wide_by (with_text f n) path s h = absurd s
  wide_by (observed f) path s h = absurd s

  pub wide_list : (f : Fragment) → IsSuffix f → IsWideList def f → IsWideTree def f
  wide_list f s (inl h) path = wide_by f path s (inl (h path 0))
  wide_list f s (inr h) path = wide_by f path s (inr (h path))
