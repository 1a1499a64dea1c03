-- The nodes of a tree are listed with their paths, each once.
use Rattle.std.proofs.Common.{◌≡◌, inl, inr, ◌⊎◌, ℕ, zero, suc, ◌+◌, ◌<◌, List, [], ◌∷◌, ◌++◌, length, Option, Some, None, slice_get, refl, ap, sym, subst, ◌∙◌, append_assoc, append-nil, arith}
use Rattle.std.specs.Prelude.{decimal, option_and_then}
use Rattle.std.specs.List.{AllByRecursion}
use Rattle.std.proofs.lemmas.Bool.{cases_lt}
use Rattle.std.proofs.lemmas.Option.{slice_get_within}
use Rattle.psg_terms.proofs.Lists.{slice_get-front, slice_get-end}
use Rattle.psg_grammar.specs.declared.types.Definition.{Definition}
use Rattle.psg_grammar.specs.declared.types.Item.{Item}
use Rattle.psg_grammar.specs.declared.types.Kind.{Kind}
use Rattle.psg_grammar.specs.declared.types.Kind.TheVariants as kinds
use Rattle.psg_grammar.specs.declared.types.Item.TheVariants as items
use Rattle.psg_grammar.specs.Fragments.{Fragment, hole, ending, cell, operator, with_child, with_name, with_number, with_text, anything, observed, children_of}
use Rattle.psg_grammar.specs.Paths.{Path, node_at, IsList}
use Rattle.psg_grammar.specs.WellFormed.{Fits, IsPlain, WellFormed}
use Rattle.psg_tree.specs.AbstractText.{quoted}
use Rattle.psg_unparse.specs.Spots.{Spot, Placed, top_spot, element_spot, rest_spot, child_spot, front_spot, leaf_spot, placed_from, placed_below, placed_in}
use Rattle.psg_unparse.specs.Listing.{IsEarlier, IsListing}
use Rattle.psg_unparse.proofs.Earlier.{earlier_on, never_itself, parted}

-- ---- operators take parts, and lists go on with lists

abbrev pub IsSpine : Fragment → Type 0
IsSpine (operator o) = Unit {0}
IsSpine (with_child f t) = Unit {0}
IsSpine (with_name f n) = Unit {0}
IsSpine (with_number f n) = Unit {0}
IsSpine (with_text f n) = Unit {0}
IsSpine _ = ⊥

abbrev pub IsProper : Fragment → Type 0
IsProper (hole p) = Unit {0}
IsProper (ending l u) = Unit {0}
IsProper (cell l e r) = IsProper e × (IsProper r × IsList r)
IsProper (operator o) = Unit {0}
IsProper (with_child f t) = IsProper f × (IsProper t × IsSpine f)
IsProper (with_name f n) = IsProper f × IsSpine f
IsProper (with_number f n) = IsProper f × IsSpine f
IsProper (with_text f n) = IsProper f × IsSpine f
IsProper anything = ⊥
IsProper (observed f) = ⊥

module _ (def : Definition) where
  spine_fits : (f : Fragment) (i : Item) (more : List Item) (kind : Kind) → Fits def f (i ∷ more) kind → IsPlain f → IsSpine f
  spine_fits (hole p) i more kind h p' = let e : i ∷ more ≡ [] = h.0 in absurd (cc)
  spine_fits (ending l u) i more kind h p' = let e : i ∷ more ≡ [] = h.0 in absurd (cc)
  spine_fits (cell l e r) i more kind h p' = let e : i ∷ more ≡ [] = h.0 in absurd (cc)
  spine_fits (operator o) i more kind h p' = tt
  spine_fits (with_child f t) i more kind h p' = tt
  spine_fits (with_name f n) i more kind h p' = tt
  spine_fits (with_number f n) i more kind h p' = tt
  spine_fits (with_text f n) i more kind h p' = tt
  spine_fits anything i more kind h p' = absurd h
  spine_fits (observed f) i more kind h p' = absurd p'

  no_list : (f : Fragment) (more : List Item) (l : ℕ) → IsSpine f → Fits def f more (kinds.List l) → IsPlain f → ⊥
  no_list (operator o) more l s (op, got, m, e) p = absurd (cc)
  no_list (with_child f t) more l s (k, h, g) p = no_list f (items.Slot k ∷ more) l (spine_fits f (items.Slot k) more (kinds.List l) h p.0) h p.0
  no_list (with_name f n) more l s (inl (z, h), g) p = no_list f (items.Refers z ∷ more) l (spine_fits f (items.Refers z) more (kinds.List l) h p) h p
  no_list (with_name f n) more l s (inr (z, h), g) p = no_list f (items.Declares z ∷ more) l (spine_fits f (items.Declares z) more (kinds.List l) h p) h p
  no_list (with_number f n) more l s (h, g) p = no_list f (items.Number ∷ more) l (spine_fits f items.Number more (kinds.List l) h p) h p
  no_list (with_text f n) more l s (h, g) p = no_list f (items.Text ∷ more) l (spine_fits f items.Text more (kinds.List l) h p) h p
  no_list (hole x) more l s h p = s
  no_list (ending x u) more l s h p = s
  no_list (cell x e r) more l s h p = s
  no_list anything more l s h p = s
  no_list (observed f) more l s h p = s

  list_fits : (f : Fragment) (l : ℕ) → Fits def f [] (kinds.List l) → IsPlain f → IsList f
  list_fits (hole x) l h p = let e : kinds.List l ≡ kinds.Phylum x = h.1 in absurd (cc)
  list_fits (ending x u) l h p = tt
  list_fits (cell x e r) l h p = tt
  list_fits (operator o) l h p = absurd (no_list (operator o) [] l tt h p)
  list_fits (with_child f t) l h p = absurd (no_list (with_child f t) [] l tt h p)
  list_fits (with_name f n) l h p = absurd (no_list (with_name f n) [] l tt h p)
  list_fits (with_number f n) l h p = absurd (no_list (with_number f n) [] l tt h p)
  list_fits (with_text f n) l h p = absurd (no_list (with_text f n) [] l tt h p)
  list_fits anything l h p = absurd h
  list_fits (observed f) l h p = absurd p

  pub proper : (f : Fragment) (more : List Item) (kind : Kind) → Fits def f more kind → IsPlain f → IsProper f
  proper (hole x) more kind h p = tt
  proper (ending x u) more kind h p = tt
  proper (cell x e r) more kind (m, k, lk, got, he, hr, un) p =
      (proper e [] (kinds.Phylum lk.element) he p.0, (proper r [] (kinds.List x) hr p.1, list_fits r x hr p.1))
  proper (operator o) more kind h p = tt
  proper (with_child f t) more kind (k, h, g) p =
      (proper f (items.Slot k ∷ more) kind h p.0, (proper t [] k g p.1, spine_fits f (items.Slot k) more kind h p.0))
  proper (with_name f n) more kind (inl (z, h), g) p = (proper f (items.Refers z ∷ more) kind h p, spine_fits f (items.Refers z) more kind h p)
  proper (with_name f n) more kind (inr (z, h), g) p = (proper f (items.Declares z ∷ more) kind h p, spine_fits f (items.Declares z) more kind h p)
  proper (with_number f n) more kind (h, g) p = (proper f (items.Number ∷ more) kind h p, spine_fits f items.Number more kind h p)
  proper (with_text f n) more kind (h, g) p = (proper f (items.Text ∷ more) kind h p, spine_fits f items.Text more kind h p)
  proper anything more kind h p = absurd h
  proper (observed f) more kind h p = absurd p

-- ---- lists

pub each-append : (P : Placed → Type 0) (xs ys : List Placed) → AllByRecursion P xs → AllByRecursion P ys → AllByRecursion P (xs ++ ys)
each-append P [] ys a b = b
each-append P (x ∷ xs) ys a b = (a.0, each-append P xs ys a.1 b)

pub each-as : (P Q : Placed → Type 0) → ((p : Placed) → P p → Q p) → (xs : List Placed) → AllByRecursion P xs → AllByRecursion Q xs
each-as P Q g [] a = tt
each-as P Q g (x ∷ xs) a = (g x a.0, each-as P Q g xs a.1)

pub each-at : (P : Placed → Type 0) (xs : List Placed) (k : ℕ) (p : Placed) → AllByRecursion P xs → slice_get xs k ≡ Some p → P p
each-at P [] k p a e = absurd (cc)
each-at P (x ∷ xs) zero p a e = let same : x ≡ p = cc in subst P same a.0
each-at P (x ∷ xs) (suc k) p a e = each-at P xs k p a.1 e

-- a child of the node with one more child is one of the others, or the last
pub get-split : (xs : List Fragment) (t : Fragment) (k : ℕ) (u : Fragment) → slice_get (xs ++ t ∷ []) k ≡ Some u
    → (slice_get xs k ≡ Some u) ⊎ ((k ≡ length xs) × (t ≡ u))
get-split [] t zero u e = let same : t ≡ u = cc in inr (refl, same)
get-split [] t (suc k) u e = absurd (cc)
get-split (x ∷ xs) t zero u e = inl e
get-split (x ∷ xs) t (suc k) u e = elim (get-split xs t k u e) [ inl h ↦ inl h | inr h ↦ inr (let s : suc k ≡ length (x ∷ xs) = omega (arith, h.0) in s, h.1) ]

-- ---- paths

-- the node is at a path below this one
record IsAt (f : Fragment) (path : Path) (p : Placed) : Type 0 where
  rest : Path
  path_is : p.spot.path ≡ path ++ rest
  node : node_at f rest ≡ Some p.node

-- the node is in one of the children, of which the first has the number n
record IsBelow (n : ℕ) (children : List Fragment) (path : Path) (p : Placed) : Type 0 where
  number : ℕ
  child : ℕ
  sum : number ≡ n + child
  rest : Path
  tree : Fragment
  path_is : p.spot.path ≡ path ++ number ∷ rest
  got : slice_get children child ≡ Some tree
  node : node_at tree rest ≡ Some p.node

below-at : (f : Fragment) (path : Path) (p : Placed) → IsBelow 0 (children_of f) path p → IsAt f path p
below-at f path p b = record {
  rest = b.number ∷ b.rest;
  path_is = b.path_is;
  node =
      let e : b.number ≡ b.child = omega (arith, b.sum) in
      ap (λ k. option_and_then (λ t. node_at t b.rest) (slice_get (children_of f) k)) e
      ∙ ap (option_and_then (λ t. node_at t b.rest)) b.got ∙ b.node;
}

-- the element or the last child of the number
at-below : (n number child : ℕ) (t : Fragment) (children : List Fragment) (path : Path) (p : Placed) → number ≡ n + child → slice_get children child ≡ Some t
    → IsAt t (path ++ number ∷ []) p → IsBelow n children path p
at-below n number child t children path p s g a = record {
  number = number;
  child = child;
  sum = s;
  rest = a.rest;
  tree = t;
  path_is = a.path_is ∙ append_assoc path (number ∷ []) a.rest;
  got = g;
  node = a.node;
}

module _ (def : Definition) where
  pub placed-top : (s : Spot) (f : Fragment) → IsProper f → record { spot = s; node = f } ∷ placed_below def s 0 f ≡ placed_from def s f
  placed-top s (hole p) h = refl
  placed-top s (ending l u) h = refl
  placed-top s (cell l e r) h = refl
  placed-top s (operator o) h = refl
  placed-top s (with_child f t) h = refl
  placed-top s (with_name f n) h = refl
  placed-top s (with_number f n) h = refl
  placed-top s (with_text f n) h = refl
  placed-top s anything h = absurd h
  placed-top s (observed f) h = absurd h

  at-top : (s : Spot) (f : Fragment) → IsProper f → AllByRecursion (IsBelow 0 (children_of f) s.path) (placed_below def s 0 f) → AllByRecursion (IsAt f s.path) (placed_from def s f)
  at-top s f h a =
      subst (AllByRecursion (IsAt f s.path)) (placed-top s f h)
      (record { rest = []; path_is = sym (append-nil s.path); node = refl }, each-as (IsBelow 0 (children_of f) s.path) (IsAt f s.path) (below-at f s.path) (placed_below def s 0 f) a)

  -- the parts of an operator are counted from 0
  abbrev pub Counts : ℕ → Fragment → Type 0
  Counts n f = IsSpine f → n ≡ 0

  pub no-spine : (r : Fragment) (n : ℕ) → IsList r → Counts n r
  no-spine (ending l u) n h s = absurd s
  no-spine (cell l e r) n h s = absurd s
  no-spine (hole p) n h s = absurd h
  no-spine (operator o) n h s = absurd h
  no-spine (with_child f t) n h s = absurd h
  no-spine (with_name f x) n h s = absurd h
  no-spine (with_number f x) n h s = absurd h
  no-spine (with_text f x) n h s = absurd h
  no-spine anything n h s = absurd h
  no-spine (observed f) n h s = absurd h

  below : (s : Spot) (n : ℕ) (f : Fragment) → IsProper f → Counts n f → AllByRecursion (IsBelow n (children_of f) s.path) (placed_below def s n f)
  below s n (hole p) h c = tt
  below s n (ending l u) h c = tt
  below s n (cell l e r) h c =
      each-append (IsBelow n (e ∷ children_of r) s.path) (placed_from def (element_spot def s n l r) e) (placed_below def (rest_spot def s l e r) (n + 1) r)
      (each-as (IsAt e (s.path ++ n ∷ [])) (IsBelow n (e ∷ children_of r) s.path)
      (λ p. at-below n n 0 e (e ∷ children_of r) s.path p (let z : n ≡ n + 0 = omega arith in z) refl)
      (placed_from def (element_spot def s n l r) e)
      (at-top (element_spot def s n l r) e h.0 (below (element_spot def s n l r) 0 e h.0 (λ _. refl))))
      (each-as (IsBelow (n + 1) (children_of r) s.path) (IsBelow n (e ∷ children_of r) s.path)
      (λ p b. record { number = b.number; child = suc b.child; sum = (let z : b.number ≡ n + suc b.child = omega (arith, b.sum) in z); rest = b.rest; tree = b.tree; path_is = b.path_is; got = b.got; node = b.node })
      (placed_below def (rest_spot def s l e r) (n + 1) r)
      (below (rest_spot def s l e r) (n + 1) r h.1.0 (no-spine r (n + 1) h.1.1)))
  below s n (operator o) h c = tt
  below s n (with_child f t) h c =
      each-append (IsBelow n (children_of f ++ t ∷ []) s.path) (placed_below def (front_spot def s f t) n f) (placed_from def (child_spot def s f t) t)
      (each-as (IsBelow n (children_of f) s.path) (IsBelow n (children_of f ++ t ∷ []) s.path)
      (λ p b. record { number = b.number; child = b.child; sum = b.sum; rest = b.rest; tree = b.tree; path_is = b.path_is; got = slice_get-front (children_of f) (t ∷ []) b.child b.tree b.got; node = b.node })
      (placed_below def (front_spot def s f t) n f)
      (below (front_spot def s f t) n f h.0 (λ _. c tt)))
      (each-as (IsAt t (s.path ++ length (children_of f) ∷ [])) (IsBelow n (children_of f ++ t ∷ []) s.path)
      (λ p. at-below n (length (children_of f)) (length (children_of f)) t (children_of f ++ t ∷ []) s.path p
      (let z : length (children_of f) ≡ n + length (children_of f) = omega (arith, c tt) in z) (slice_get-end (children_of f) t))
      (placed_from def (child_spot def s f t) t)
      (at-top (child_spot def s f t) t h.1.0 (below (child_spot def s f t) 0 t h.1.0 (λ _. refl))))
  below s n (with_name f x) h c = below (leaf_spot def s f x) n f h.0 (λ _. c tt)
  below s n (with_number f x) h c = below (leaf_spot def s f (decimal x)) n f h.0 (λ _. c tt)
  below s n (with_text f x) h c = below (leaf_spot def s f (quoted x)) n f h.0 (λ _. c tt)
  below s n anything h c = absurd h
  below s n (observed f) h c = absurd h

-- ---- in order

abbrev IsBefore : Placed → Placed → Type 0
IsBefore p q = IsEarlier p.spot.path q.spot.path

abbrev IsInOrder : List Placed → Type 0
IsInOrder [] = Unit {0}
IsInOrder (p ∷ ps) = AllByRecursion (IsBefore p) ps × IsInOrder ps

order-append : (xs ys : List Placed) → IsInOrder xs → IsInOrder ys → AllByRecursion (λ p. AllByRecursion (IsBefore p) ys) xs → IsInOrder (xs ++ ys)
order-append [] ys a b c = b
order-append (x ∷ xs) ys a b c = (each-append (IsBefore x) xs ys a.0 c.0, order-append xs ys a.1 b c.1)

each-before : (A B : Placed → Type 0) → ((p q : Placed) → A p → B q → IsBefore p q) → (xs ys : List Placed) → AllByRecursion A xs → AllByRecursion B ys
    → AllByRecursion (λ p. AllByRecursion (IsBefore p) ys) xs
each-before A B g xs ys a b = each-as A (λ p. AllByRecursion (IsBefore p) ys) (λ p x. each-as B (IsBefore p) (λ q y. g p q x y) ys b) xs a

order-at : (xs : List Placed) → IsInOrder xs → (j k : ℕ) (p q : Placed) → j < k → slice_get xs j ≡ Some p → slice_get xs k ≡ Some q → IsBefore p q
order-at [] o j k p q lt e f = absurd (cc)
order-at (x ∷ xs) o j zero p q lt e f = absurd (omega (arith, lt))
order-at (x ∷ xs) o zero (suc k) p q lt e f =
    let same : x ≡ p = cc in subst (λ y. IsBefore y q) same (each-at (IsBefore x) xs k q o.0 f)
order-at (x ∷ xs) o (suc j) (suc k) p q lt e f = order-at xs o.1 j k p q (omega (arith, lt)) e f

-- two places with one path are one
once-same : (xs : List Placed) → IsInOrder xs → (j k : ℕ) (p q : Placed) → slice_get xs j ≡ Some p → slice_get xs k ≡ Some q → p.spot.path ≡ q.spot.path → j ≡ k
once-same xs o j k p q e f h = elim (cases_lt j k) [
  | inl lt ↦ absurd (never_itself q.spot.path (subst (λ x. IsEarlier x q.spot.path) h (order-at xs o j k p q lt e f)))
  | inr ge ↦ elim (cases_lt k j) [
    | inl lt ↦ absurd (never_itself q.spot.path (subst (IsEarlier q.spot.path) h (order-at xs o k j q p lt f e)))
    | inr le ↦ omega (arith, ge, le)
  ]
]

-- ---- each listed

abbrev IsAmong : Path → Fragment → List Placed → Type 0
IsAmong path t [] = ⊥
IsAmong path t (p ∷ ps) = ((p.spot.path ≡ path) × (p.node ≡ t)) ⊎ IsAmong path t ps

among-front : (path : Path) (t : Fragment) (xs ys : List Placed) → IsAmong path t xs → IsAmong path t (xs ++ ys)
among-front path t [] ys a = absurd a
among-front path t (x ∷ xs) ys (inl a) = inl a
among-front path t (x ∷ xs) ys (inr a) = inr (among-front path t xs ys a)

among-back : (path : Path) (t : Fragment) (xs ys : List Placed) → IsAmong path t ys → IsAmong path t (xs ++ ys)
among-back path t [] ys a = a
among-back path t (x ∷ xs) ys a = inr (among-back path t xs ys a)

among-got : (path : Path) (t : Fragment) (xs : List Placed) → IsAmong path t xs → (p : Placed) × ((k : ℕ) × (slice_get xs k ≡ Some p) × (p.spot.path ≡ path))
among-got path t [] a = absurd a
among-got path t (x ∷ xs) (inl a) = (x, (0, refl, a.0))
among-got path t (x ∷ xs) (inr a) = let (p, (k, g, e)) = among-got path t xs a in (p, (suc k, g, e))

-- a path that goes on leads into a child
pub into : (o : Option Fragment) (q : Path) (t : Fragment) → option_and_then (λ u. node_at u q) o ≡ Some t → (u : Fragment) × ((o ≡ Some u) × (node_at u q ≡ Some t))
into None q t h = absurd (cc)
into (Some u) q t h = (u, (refl, h))

module _ (def : Definition) where
  order-top : (s : Spot) (f : Fragment) → IsProper f → IsInOrder (placed_below def s 0 f) → IsInOrder (placed_from def s f)
  order-top s f h o =
      subst IsInOrder (placed-top def s f h) (
        each-as (IsBelow 0 (children_of f) s.path) (IsBefore (record { spot = s; node = f }))
            (λ q b. subst (IsEarlier s.path) (sym b.path_is) (earlier_on s.path b.number b.rest))
            (placed_below def s 0 f) (below def s 0 f h (λ _. refl)),
        o,
      )

  all-at : (s : Spot) (f : Fragment) → IsProper f → AllByRecursion (IsAt f s.path) (placed_from def s f)
  all-at s f h = at-top def s f h (below def s 0 f h (λ _. refl))

  in_order : (s : Spot) (n : ℕ) (f : Fragment) → IsProper f → Counts def n f → IsInOrder (placed_below def s n f)
  in_order s n (hole p) h c = tt
  in_order s n (ending l u) h c = tt
  in_order s n (cell l e r) h c =
      order-append (placed_from def (element_spot def s n l r) e) (placed_below def (rest_spot def s l e r) (n + 1) r)
      (order-top (element_spot def s n l r) e h.0 (in_order (element_spot def s n l r) 0 e h.0 (λ _. refl)))
      (in_order (rest_spot def s l e r) (n + 1) r h.1.0 (no-spine def r (n + 1) h.1.1))
      (each-before (IsAt e (s.path ++ n ∷ [])) (IsBelow (n + 1) (children_of r) s.path)
      (λ p q a b.
      parted s.path n b.number a.rest b.rest p.spot.path q.spot.path (a.path_is ∙ append_assoc s.path (n ∷ []) a.rest) b.path_is
      (omega (arith, b.sum)))
      (placed_from def (element_spot def s n l r) e) (placed_below def (rest_spot def s l e r) (n + 1) r)
      (all-at (element_spot def s n l r) e h.0) (below def (rest_spot def s l e r) (n + 1) r h.1.0 (no-spine def r (n + 1) h.1.1)))
  in_order s n (operator o) h c = tt
  in_order s n (with_child f t) h c =
      order-append (placed_below def (front_spot def s f t) n f) (placed_from def (child_spot def s f t) t)
      (in_order (front_spot def s f t) n f h.0 (λ _. c tt))
      (order-top (child_spot def s f t) t h.1.0 (in_order (child_spot def s f t) 0 t h.1.0 (λ _. refl)))
      (each-before (IsBelow n (children_of f) s.path) (IsAt t (s.path ++ length (children_of f) ∷ []))
      (λ p q b a.
      let y : b.child < length (children_of f) = slice_get_within (children_of f) b.child b.tree b.got in
      parted s.path b.number (length (children_of f)) b.rest a.rest p.spot.path q.spot.path b.path_is
      (a.path_is ∙ append_assoc s.path (length (children_of f) ∷ []) a.rest) (omega (arith, y, b.sum, c tt)))
      (placed_below def (front_spot def s f t) n f) (placed_from def (child_spot def s f t) t)
      (below def (front_spot def s f t) n f h.0 (λ _. c tt)) (all-at (child_spot def s f t) t h.1.0))
  in_order s n (with_name f x) h c = in_order (leaf_spot def s f x) n f h.0 (λ _. c tt)
  in_order s n (with_number f x) h c = in_order (leaf_spot def s f (decimal x)) n f h.0 (λ _. c tt)
  in_order s n (with_text f x) h c = in_order (leaf_spot def s f (quoted x)) n f h.0 (λ _. c tt)
  in_order s n anything h c = absurd h
  in_order s n (observed f) h c = absurd h

  -- what is below the node is listed
  abbrev IsReached : Spot → ℕ → Fragment → Type 0
  IsReached s n f =
      (child : ℕ) (u : Fragment) (q : Path) (t : Fragment) (number : ℕ) → slice_get (children_of f) child ≡ Some u → node_at u q ≡ Some t → number ≡ n + child
      → IsAmong (s.path ++ number ∷ q) t (placed_below def s n f)

  reach-top : (s : Spot) (f : Fragment) → IsProper f → IsReached s 0 f → (q : Path) (t : Fragment) → node_at f q ≡ Some t → IsAmong (s.path ++ q) t (placed_from def s f)
  reach-top s f h r [] t e = subst (IsAmong (s.path ++ []) t) (placed-top def s f h) (inl (sym (append-nil s.path), (let same : f ≡ t = cc in same)))
  reach-top s f h r (k ∷ q) t e =
      let (u, (g, d)) = into (slice_get (children_of f) k) q t e in
      subst (IsAmong (s.path ++ k ∷ q) t) (placed-top def s f h) (inr (r k u q t k g d (let z : k ≡ 0 + k = omega arith in z)))

  -- the child of the number is this tree
  reach-own : (path : Path) (number m : ℕ) (v u : Fragment) (q : Path) (t : Fragment) (xs : List Placed) → number ≡ m → v ≡ u → node_at u q ≡ Some t
      → ((q : Path) (t : Fragment) → node_at v q ≡ Some t → IsAmong ((path ++ m ∷ []) ++ q) t xs) → IsAmong (path ++ number ∷ q) t xs
  reach-own path number m v u q t xs e same d r =
      subst (λ k. IsAmong k t xs) (append_assoc path (m ∷ []) q ∙ ap (λ k. path ++ k ∷ q) (sym e)) (r q t (ap (λ w. node_at w q) same ∙ d))

  reach : (s : Spot) (n : ℕ) (f : Fragment) → IsProper f → Counts def n f → IsReached s n f
  reach s n (hole p) h c k u q t m g d e = absurd (cc)
  reach s n (ending l v) h c k u q t m g d e = absurd (cc)
  reach s n (cell l x r) h c zero u q t m g d e =
      among-front (s.path ++ m ∷ q) t (placed_from def (element_spot def s n l r) x) (placed_below def (rest_spot def s l x r) (n + 1) r)
      (reach-own s.path m n x u q t (placed_from def (element_spot def s n l r) x) (let z : m ≡ n = omega (arith, e) in z) (let same : x ≡ u = cc in same) d
      (reach-top (element_spot def s n l r) x h.0 (reach (element_spot def s n l r) 0 x h.0 (λ _. refl))))
  reach s n (cell l x r) h c (suc k) u q t m g d e =
      among-back (s.path ++ m ∷ q) t (placed_from def (element_spot def s n l r) x) (placed_below def (rest_spot def s l x r) (n + 1) r)
      (reach (rest_spot def s l x r) (n + 1) r h.1.0 (no-spine def r (n + 1) h.1.1) k u q t m g d (let z : m ≡ n + 1 + k = omega (arith, e) in z))
  reach s n (operator o) h c k u q t m g d e = absurd (cc)
  reach s n (with_child f v) h c k u q t m g d e =
      elim (get-split (children_of f) v k u g) [
        | inl i ↦ among-front (s.path ++ m ∷ q) t (placed_below def (front_spot def s f v) n f) (placed_from def (child_spot def s f v) v)
            (reach (front_spot def s f v) n f h.0 (λ _. c tt) k u q t m i d e)
        | inr i ↦ among-back (s.path ++ m ∷ q) t (placed_below def (front_spot def s f v) n f) (placed_from def (child_spot def s f v) v)
            (reach-own s.path m (length (children_of f)) v u q t (placed_from def (child_spot def s f v) v)
            (let z : m ≡ length (children_of f) = omega (arith, e, i.0, c tt) in z) i.1 d
            (reach-top (child_spot def s f v) v h.1.0 (reach (child_spot def s f v) 0 v h.1.0 (λ _. refl))))
      ]
  reach s n (with_name f x) h c k u q t m g d e = reach (leaf_spot def s f x) n f h.0 (λ _. c tt) k u q t m g d e
  reach s n (with_number f x) h c k u q t m g d e = reach (leaf_spot def s f (decimal x)) n f h.0 (λ _. c tt) k u q t m g d e
  reach s n (with_text f x) h c k u q t m g d e = reach (leaf_spot def s f (quoted x)) n f h.0 (λ _. c tt) k u q t m g d e
  reach s n anything h c k u q t m g d e = absurd h
  reach s n (observed f) h c k u q t m g d e = absurd h

pub proper_listing : (def : Definition) (f : Fragment) → IsProper f → IsListing def f
proper_listing def f p = record {
  nodes = λ path q l.
      let a : IsAt f [] q = each-at (IsAt f []) (placed_in def f) l.0 q (all-at def top_spot f p) l.1 in
      ap (node_at f) (sym l.2 ∙ a.path_is) ∙ a.node;
  all = λ path t e. among-got path t (placed_in def f) (reach-top def top_spot f p (reach def top_spot 0 f p (λ _. refl)) path t e);
  once = once-same (placed_in def f) (order-top def top_spot f p (in_order def top_spot 0 f p (λ _. refl)));
  order = order-at (placed_in def f) (order-top def top_spot f p (in_order def top_spot 0 f p (λ _. refl)));
}

pub listing : (def : Definition) (f : Fragment) (kind : Kind) → WellFormed def f kind → IsListing def f
listing def f kind h = proper_listing def f (proper def f [] kind h.0 h.1)
