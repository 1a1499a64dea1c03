-- Trees with a step that passes the limit, wherever they stand.
use Rattle.std.proofs.Common.{◌≡◌, ◌⊎◌, inl, inr, ℕ, zero, suc, ◌+◌, ◌≤◌, List, [], ◌∷◌, ◌++◌, length, subst, arith}
use Rattle.psg_terms.proofs.Lists.{in_either, in_left, in_right}
use Rattle.psg_terms.specs.Relations.{IsIn, first, later}
use Rattle.psg_grammar.specs.declared.types.Item.{Item}
use Rattle.psg_grammar.specs.declared.types.Definition.{Definition}
use Rattle.psg_grammar.specs.Fragments.{Fragment, hole, ending, cell, operator, with_child, with_name, with_number, with_text, anything, observed, children_of}
use Rattle.psg_grammar.specs.Steps.{IsWide, Place, PassesAt, last_step, list_steps, own_steps, steps_below, steps_of, steps_up_to}
use Rattle.psg_eval.specs.Trees.{HasParts}

module _ (def : Definition) where
  -- one of the steps passes the limit
  abbrev pub Passing : List Place → Type 0
  Passing places = (place : Place) × IsIn place places × PassesAt def place.part place.step

  pub passing_either : (xs ys : List Place) → Passing (xs ++ ys) → Passing xs ⊎ Passing ys
  passing_either xs ys (place, i, p) = elim (in_either place xs ys i) [ inl a ↦ inl (place, a, p) | inr b ↦ inr (place, b, p) ]

  pub passing_left : (xs ys : List Place) → Passing xs → Passing (xs ++ ys)
  passing_left xs ys (place, i, p) = (place, in_left place xs ys i, p)

  pub passing_right : (xs ys : List Place) → Passing ys → Passing (xs ++ ys)
  passing_right xs ys (place, i, p) = (place, in_right place xs ys i, p)

  -- a step of the node itself does
  abbrev pub OwnPasses : Fragment → Type 0
  OwnPasses f = (n : ℕ) × (n ≤ last_step def f) × PassesAt def f n

  up_passes : (path : List ℕ) (f : Fragment) (m : ℕ) → Passing (steps_up_to path f m) → (n : ℕ) × (n ≤ m) × PassesAt def f n
  up_passes path f zero (place, first, p) = (0, omega arith, p)
  up_passes path f zero (place, later i, p) = elim i [ ]
  up_passes path f (suc m) h = elim (passing_either (steps_up_to path f m) (record { path = path; part = f; step = suc m } ∷ []) h) [
    | inl a ↦ let (n, l, p) = up_passes path f m a in (n, omega (arith, l), p)
    | inr b ↦ one b
  ] where
    one : Passing (record { path = path; part = f; step = suc m } ∷ []) → (n : ℕ) × (n ≤ suc m) × PassesAt def f n
    one (place, first, p) = (suc m, omega arith, p)
    one (place, later i, p) = elim i [ ]

  passes_up : (path : List ℕ) (f : Fragment) (m n : ℕ) → n ≤ m → PassesAt def f n → Passing (steps_up_to path f m)
  passes_up path f zero n l p =
      let e : n ≡ 0 = omega (arith, l) in
      (record { path = path; part = f; step = 0 }, first, subst (PassesAt def f) e p)
  passes_up path f (suc m) n l p = elim (last n m l) [
    | inl small ↦ passing_left (steps_up_to path f m) (record { path = path; part = f; step = suc m } ∷ []) (passes_up path f m n small p)
    | inr same ↦ passing_right (steps_up_to path f m) (record { path = path; part = f; step = suc m } ∷ [])
        (record { path = path; part = f; step = suc m }, first, subst (PassesAt def f) same p)
  ] where
    last : (n m : ℕ) → n ≤ suc m → (n ≤ m) ⊎ (n ≡ suc m)
    last zero m l = inl (omega arith)
    last (suc k) zero l = inr (omega (arith, l))
    last (suc k) (suc m) l = elim (last k m (omega (arith, l))) [ inl a ↦ inl (omega (arith, a)) | inr b ↦ inr (omega (arith, b)) ]

  pub own_from : (path : List ℕ) (f : Fragment) → Passing (own_steps def path f) → OwnPasses f
  own_from path f h = up_passes path f (last_step def f) h

  pub own_to : (path : List ℕ) (f : Fragment) → OwnPasses f → Passing (own_steps def path f)
  own_to path f (n, l, p) = passes_up path f (last_step def f) n l p

  -- a step of a cell of the list does, or of its end
  abbrev pub ListPasses : Fragment → Type 0
  ListPasses (cell l e r) = ListPasses r ⊎ OwnPasses (cell l e r)
  ListPasses (ending l u) = OwnPasses (ending l u)
  ListPasses (observed f) = ListPasses f
  ListPasses _ = ⊥

  -- a step of the tree does; of a tree below
  abbrev mutual
    pub WideTree : Fragment → Type 0
    WideTree (hole p) = OwnPasses (hole p)
    WideTree (ending l u) = OwnPasses (ending l u)
    WideTree (cell l e r) = WideTree e ⊎ (WideBelow r ⊎ ListPasses (cell l e r))
    WideTree (operator o) = OwnPasses (operator o)
    WideTree (with_child f t) = WideBelow f ⊎ (WideTree t ⊎ OwnPasses (with_child f t))
    WideTree (with_name f m) = WideBelow f ⊎ OwnPasses (with_name f m)
    WideTree (with_number f m) = WideBelow f ⊎ OwnPasses (with_number f m)
    WideTree (with_text f m) = WideBelow f ⊎ OwnPasses (with_text f m)
    WideTree anything = ⊥
    WideTree (observed f) = WideTree f

    pub WideBelow : Fragment → Type 0
    WideBelow (hole p) = ⊥
    WideBelow (ending l u) = ⊥
    WideBelow (cell l e r) = WideTree e ⊎ WideBelow r
    WideBelow (operator o) = ⊥
    WideBelow (with_child f t) = WideBelow f ⊎ WideTree t
    WideBelow (with_name f m) = WideBelow f
    WideBelow (with_number f m) = WideBelow f
    WideBelow (with_text f m) = WideBelow f
    WideBelow anything = ⊥
    WideBelow (observed f) = WideBelow f

  list_from : (path : List ℕ) (f : Fragment) → Passing (list_steps def path f) → ListPasses f
  list_from path (cell l e r) h = elim (passing_either (list_steps def path r) (own_steps def path (cell l e r)) h) [
    | inl a ↦ inl (list_from path r a)
    | inr b ↦ inr (own_from path (cell l e r) b)
  ]
  list_from path (ending l u) h = own_from path (ending l u) h
  list_from path (observed f) h = list_from path f h
  list_from path (hole p) (place, i, p2) = elim i [ ]
  list_from path (operator o) (place, i, p) = elim i [ ]
  list_from path (with_child f t) (place, i, p) = elim i [ ]
  list_from path (with_name f t) (place, i, p) = elim i [ ]
  list_from path (with_number f t) (place, i, p) = elim i [ ]
  list_from path (with_text f t) (place, i, p) = elim i [ ]
  list_from path anything (place, i, p) = elim i [ ]

  list_to : (path : List ℕ) (f : Fragment) → ListPasses f → Passing (list_steps def path f)
  list_to path (cell l e r) (inl a) = passing_left (list_steps def path r) (own_steps def path (cell l e r)) (list_to path r a)
  list_to path (cell l e r) (inr b) = passing_right (list_steps def path r) (own_steps def path (cell l e r)) (own_to path (cell l e r) b)
  list_to path (ending l u) h = own_to path (ending l u) h
  list_to path (observed f) h = list_to path f h
  list_to path (hole p) h = absurd h
  list_to path (operator o) h = absurd h
  list_to path (with_child f t) h = absurd h
  list_to path (with_name f t) h = absurd h
  list_to path (with_number f t) h = absurd h
  list_to path (with_text f t) h = absurd h
  list_to path anything h = absurd h

  none_in : (place : Place) → IsIn place [] → ⊥
  none_in place h = elim h [ ]

  abbrev From : Fragment → Type 0
  From f = ((path : List ℕ) → Passing (steps_of def path f) → WideTree f) × ((path : List ℕ) (n : ℕ) → Passing (steps_below def path n f) → WideBelow f)

  from : (f : Fragment) → From f
  from (hole p) = ((λ path h. own_from path (hole p) h), (λ path n h. none_in h.0 h.1))
  from (ending l u) = ((λ path h. own_from path (ending l u) h), (λ path n h. none_in h.0 h.1))
  from (cell l e r) =
      let (te, be) = from e in
      let (tr, br) = from r in (
        (λ path h. elim (passing_either (steps_of def (path ++ 0 ∷ []) e ++ steps_below def path 1 r) (list_steps def path (cell l e r)) h) [
          | inl a ↦ elim (passing_either (steps_of def (path ++ 0 ∷ []) e) (steps_below def path 1 r) a) [
            | inl x ↦ inl (te (path ++ 0 ∷ []) x)
            | inr y ↦ inr (inl (br path 1 y))
          ]
          | inr b ↦ inr (inr (list_from path (cell l e r) b))
        ]),
        (λ path n h. elim (passing_either (steps_of def (path ++ n ∷ []) e) (steps_below def path (n + 1) r) h) [
          | inl x ↦ inl (te (path ++ n ∷ []) x)
          | inr y ↦ inr (br path (n + 1) y)
        ]),
      )
  from (operator o) = ((λ path h. own_from path (operator o) h), (λ path n h. none_in h.0 h.1))
  from (with_child f t) =
      let (tf, bf) = from f in
      let (tt2, bt) = from t in
      let at : List ℕ → List Place = λ path. steps_of def (path ++ length (children_of f) ∷ []) t in (
        (λ path h. elim (passing_either (steps_below def path 0 f ++ at path) (own_steps def path (with_child f t)) h) [
          | inl a ↦ elim (passing_either (steps_below def path 0 f) (at path) a) [
            | inl x ↦ inl (bf path 0 x)
            | inr y ↦ inr (inl (tt2 (path ++ length (children_of f) ∷ []) y))
          ]
          | inr b ↦ inr (inr (own_from path (with_child f t) b))
        ]),
        (λ path n h. elim (passing_either (steps_below def path n f) (at path) h) [
          | inl x ↦ inl (bf path n x)
          | inr y ↦ inr (tt2 (path ++ length (children_of f) ∷ []) y)
        ]),
      )
  from (with_name f m) =
      let (tf, bf) = from f in (
        (λ path h. elim (passing_either (steps_below def path 0 f) (own_steps def path (with_name f m)) h) [
          | inl x ↦ inl (bf path 0 x)
          | inr b ↦ inr (own_from path (with_name f m) b)
        ]),
        bf,
      )
  from (with_number f m) =
      let (tf, bf) = from f in (
        (λ path h. elim (passing_either (steps_below def path 0 f) (own_steps def path (with_number f m)) h) [
          | inl x ↦ inl (bf path 0 x)
          | inr b ↦ inr (own_from path (with_number f m) b)
        ]),
        bf,
      )
  from (with_text f m) =
      let (tf, bf) = from f in (
        (λ path h. elim (passing_either (steps_below def path 0 f) (own_steps def path (with_text f m)) h) [
          | inl x ↦ inl (bf path 0 x)
          | inr b ↦ inr (own_from path (with_text f m) b)
        ]),
        bf,
      )
  from anything = ((λ path h. none_in h.0 h.1), (λ path n h. none_in h.0 h.1))
  from (observed f) = from f

  abbrev To : Fragment → Type 0
  To f = ((path : List ℕ) → WideTree f → Passing (steps_of def path f)) × ((path : List ℕ) (n : ℕ) → WideBelow f → Passing (steps_below def path n f))

  to : (f : Fragment) → To f
  to (hole p) = ((λ path h. own_to path (hole p) h), (λ path n h. absurd h))
  to (ending l u) = ((λ path h. own_to path (ending l u) h), (λ path n h. absurd h))
  to (cell l e r) =
      let (te, be) = to e in
      let (tr, br) = to r in (
        (λ path h. elim h [
          | inl a ↦ passing_left (steps_of def (path ++ 0 ∷ []) e ++ steps_below def path 1 r) (list_steps def path (cell l e r))
              (passing_left (steps_of def (path ++ 0 ∷ []) e) (steps_below def path 1 r) (te (path ++ 0 ∷ []) a))
          | inr b ↦ elim b [
            | inl x ↦ passing_left (steps_of def (path ++ 0 ∷ []) e ++ steps_below def path 1 r) (list_steps def path (cell l e r))
                (passing_right (steps_of def (path ++ 0 ∷ []) e) (steps_below def path 1 r) (br path 1 x))
            | inr y ↦ passing_right (steps_of def (path ++ 0 ∷ []) e ++ steps_below def path 1 r) (list_steps def path (cell l e r)) (list_to path (cell l e r) y)
          ]
        ]),
        (λ path n h. elim h [
          | inl a ↦ passing_left (steps_of def (path ++ n ∷ []) e) (steps_below def path (n + 1) r) (te (path ++ n ∷ []) a)
          | inr b ↦ passing_right (steps_of def (path ++ n ∷ []) e) (steps_below def path (n + 1) r) (br path (n + 1) b)
        ]),
      )
  to (operator o) = ((λ path h. own_to path (operator o) h), (λ path n h. absurd h))
  to (with_child f t) =
      let (tf, bf) = to f in
      let (tt2, bt) = to t in
      let at : List ℕ → List Place = λ path. steps_of def (path ++ length (children_of f) ∷ []) t in (
        (λ path h. elim h [
          | inl a ↦ passing_left (steps_below def path 0 f ++ at path) (own_steps def path (with_child f t)) (passing_left (steps_below def path 0 f) (at path) (bf path 0 a))
          | inr b ↦ elim b [
            | inl x ↦ passing_left (steps_below def path 0 f ++ at path) (own_steps def path (with_child f t))
                (passing_right (steps_below def path 0 f) (at path) (tt2 (path ++ length (children_of f) ∷ []) x))
            | inr y ↦ passing_right (steps_below def path 0 f ++ at path) (own_steps def path (with_child f t)) (own_to path (with_child f t) y)
          ]
        ]),
        (λ path n h. elim h [
          | inl a ↦ passing_left (steps_below def path n f) (at path) (bf path n a)
          | inr b ↦ passing_right (steps_below def path n f) (at path) (tt2 (path ++ length (children_of f) ∷ []) b)
        ]),
      )
  to (with_name f m) =
      let (tf, bf) = to f in (
        (λ path h. elim h [
          | inl a ↦ passing_left (steps_below def path 0 f) (own_steps def path (with_name f m)) (bf path 0 a)
          | inr b ↦ passing_right (steps_below def path 0 f) (own_steps def path (with_name f m)) (own_to path (with_name f m) b)
        ]),
        bf,
      )
  to (with_number f m) =
      let (tf, bf) = to f in (
        (λ path h. elim h [
          | inl a ↦ passing_left (steps_below def path 0 f) (own_steps def path (with_number f m)) (bf path 0 a)
          | inr b ↦ passing_right (steps_below def path 0 f) (own_steps def path (with_number f m)) (own_to path (with_number f m) b)
        ]),
        bf,
      )
  to (with_text f m) =
      let (tf, bf) = to f in (
        (λ path h. elim h [
          | inl a ↦ passing_left (steps_below def path 0 f) (own_steps def path (with_text f m)) (bf path 0 a)
          | inr b ↦ passing_right (steps_below def path 0 f) (own_steps def path (with_text f m)) (own_to path (with_text f m) b)
        ]),
        bf,
      )
  to anything = ((λ path h. absurd h), (λ path n h. absurd h))
  to (observed f) = to f

  pub wide_from : (f : Fragment) → IsWide def f → WideTree f
  wide_from f h = (from f).0 [] h

  pub wide_to : (f : Fragment) → WideTree f → IsWide def f
  wide_to f h = (to f).0 [] h

  -- ---- an operator's node

  pub node_parts : (f : Fragment) (more : List Item) → HasParts def f more → WideTree f → WideBelow f ⊎ OwnPasses f
  node_parts (operator o) more h w = inr w
  node_parts (with_child f t) more h (inl a) = inl (inl a)
  node_parts (with_child f t) more h (inr (inl x)) = inl (inr x)
  node_parts (with_child f t) more h (inr (inr y)) = inr y
  node_parts (with_name f n) more h w = w
  node_parts (with_number f n) more h w = w
  node_parts (with_text f n) more h w = w
  node_parts (hole p) more h w = absurd h
  node_parts (ending l u) more h w = absurd h
  node_parts (cell l e r) more h w = absurd h
  node_parts anything more h w = absurd h
  node_parts (observed f) more h w = absurd h

  pub node_wide : (f : Fragment) (more : List Item) → HasParts def f more → WideBelow f ⊎ OwnPasses f → WideTree f
  node_wide (operator o) more h (inl a) = absurd a
  node_wide (operator o) more h (inr b) = b
  node_wide (with_child f t) more h (inl (inl a)) = inl a
  node_wide (with_child f t) more h (inl (inr x)) = inr (inl x)
  node_wide (with_child f t) more h (inr y) = inr (inr y)
  node_wide (with_name f n) more h w = w
  node_wide (with_number f n) more h w = w
  node_wide (with_text f n) more h w = w
  node_wide (hole p) more h w = absurd h
  node_wide (ending l u) more h w = absurd h
  node_wide (cell l e r) more h w = absurd h
  node_wide anything more h w = absurd h
  node_wide (observed f) more h w = absurd h
