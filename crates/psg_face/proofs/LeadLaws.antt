-- That moves lead to a node or to the `...` of an unfinished list.
use Rattle.std.proofs.Common.{◌≡◌, ℕ, zero, suc, ◌-◌, ◌≤◌, ◌==◌, ◌||◌, Bool, true, false, cond, List, [], ◌∷◌, ◌++◌, length}
use Rattle.std.proofs.Common.{Option, Some, None, is_some, slice_get, inl, inr, refl, ap, ap₂, sym, ◌∙◌, arith}
use Rattle.std.specs.Prelude.{option_and_then}
use Rattle.std.proofs.lemmas.Bool.{and_parts, false≢true}
use Rattle.std.proofs.lemmas.Bool.Decides.{eqb_tells}
use Rattle.psg_grammar.specs.Fragments.{Fragment, children_of}
use Rattle.psg_grammar.specs.Paths.{Path, node_at}
use Rattle.psg_face.specs.Moves.{after, as_far, far_by, is_dots, is_end, is_end_at, is_open_list, leads, led_to, parent_of}
use Rattle.psg_face.specs.Moves.{to_child, to_next, to_previous, with_last}
use Rattle.psg_face.proofs.MoveLaws.{dots_push, parent_push, with_last_push}

or_true : (b : Bool) → (b || true) ≡ true
or_true true = refl
or_true false = refl

-- ---- what leads

node_leads : (f : Fragment) (path : Path) → is_some (node_at f path) ≡ true → leads f path ≡ true
node_leads f path e = ap (λ b. b || is_dots f path) e

dots_lead : (f : Fragment) (path : Path) → is_dots f path ≡ true → leads f path ≡ true
dots_lead f path e = ap (λ b. is_some (node_at f path) || b) e ∙ or_true (is_some (node_at f path))

-- the path is empty, or has a last step
pub data Ends : Path → Type 0 where
  top : Ends []
  ends : (front : Path) (k : ℕ) → Ends (front ++ k ∷ [])

end_of : (path : Path) → Ends path
end_of [] = top
end_of (k ∷ path) = more k path (end_of path)
  where
    more : (k : ℕ) (path : Path) → Ends path → Ends (k ∷ path)
    more k [] top = ends [] k
    more k path (ends front l) = ends (k ∷ front) l

node_push : (f : Fragment) (front : Path) (k : ℕ) → node_at f (front ++ k ∷ []) ≡ option_and_then (λ t. slice_get (children_of t) k) (node_at f front)
node_push f [] k = here (slice_get (children_of f) k)
  where
    here : (o : Option Fragment) → option_and_then (λ t. Some t) o ≡ o
    here None = refl
    here (Some t) = refl
node_push f (m ∷ front) k = below (slice_get (children_of f) m) (λ t. node_push t front k)
  where
    below : (o : Option Fragment) → ((t : Fragment) → node_at t (front ++ k ∷ [])
        ≡ option_and_then (λ u. slice_get (children_of u) k) (node_at t front))
        → option_and_then (λ t. node_at t (front ++ k ∷ [])) o
        ≡ option_and_then (λ t. slice_get (children_of t) k) (option_and_then (λ t. node_at t front) o)
    below None further = refl
    below (Some t) further = further t

-- a path with a last step leads where the node before it has such a child, or its `...` there
abbrev Steps : Option Fragment → ℕ → Bool
Steps None k = false
Steps (Some t) k = is_some (slice_get (children_of t) k) || is_end t k

leads_push : (f : Fragment) (front : Path) (k : ℕ) → leads f (front ++ k ∷ []) ≡ Steps (node_at f front) k
leads_push f front k =
    ap₂ (λ o b. is_some o || b) (node_push f front k) (dots_push f front k) ∙ by_node (node_at f front)
  where
    by_node : (o : Option Fragment)
        → (is_some (option_and_then (λ t. slice_get (children_of t) k) o) || is_end_at o k) ≡ Steps o k
    by_node None = refl
    by_node (Some t) = refl

-- ---- moves

led_leads : (f : Fragment) (path other : Path) → leads f path ≡ true → leads f (led_to f path other) ≡ true
led_leads f path other h = by_test (leads f other) refl
  where
    by_test : (b : Bool) → leads f other ≡ b → leads f (cond b other path) ≡ true
    by_test true e = e
    by_test false e = h

pub child_leads : (f : Fragment) (path : Path) → leads f path ≡ true → leads f (to_child f path) ≡ true
child_leads f path h = led_leads f path (path ++ 0 ∷ []) h

pub next_leads : (f : Fragment) (path : Path) → leads f path ≡ true → leads f (to_next f path) ≡ true
next_leads f [] h = h
next_leads f (k ∷ path) h = led_leads f (k ∷ path) (with_last after (k ∷ path)) h

stepped : (o : Option Fragment) (k : ℕ) → Steps o k ≡ true → is_some o ≡ true
stepped None k e = e
stepped (Some t) k e = refl

pub parent_leads : (f : Fragment) (path : Path) → leads f path ≡ true → leads f (parent_of path) ≡ true
parent_leads f path h = by_end path (end_of path) h
  where
    by_end : (path : Path) → Ends path → leads f path ≡ true → leads f (parent_of path) ≡ true
    by_end [] top h = h
    by_end path (ends front k) h =
        ap (leads f) (parent_push front k)
        ∙ node_leads f front (stepped (node_at f front) k (sym (leads_push f front k) ∙ h))

-- there is a child before a child, and before the end
earlier : (xs : List Fragment) (k : ℕ) → suc k ≤ length xs → is_some (slice_get xs k) ≡ true
earlier [] k le = absurd (omega (arith, le))
earlier (x ∷ xs) zero le = refl
earlier (x ∷ xs) (suc k) le = earlier xs k (omega (arith, le))

counted : (xs : List Fragment) (k : ℕ) → is_some (slice_get xs k) ≡ true → suc k ≤ length xs
counted [] k e = absurd (false≢true e)
counted (x ∷ xs) zero e = omega arith
counted (x ∷ xs) (suc k) e = let r = counted xs k e in omega (arith, r)

within : (t : Fragment) (k : ℕ) → (is_some (slice_get (children_of t) k) || is_end t k) ≡ true → k ≤ length (children_of t)
within t k e = by_child (is_some (slice_get (children_of t) k)) refl e
  where
    at_end : is_end t k ≡ true → k ≤ length (children_of t)
    at_end h =
        let a = and_parts (is_open_list t) (length (children_of t) == k) h in
        elim (eqb_tells (length (children_of t)) k) [
          | inl p ↦ omega (arith, p.1)
          | inr p ↦ absurd (false≢true (sym p.0 ∙ a.1))
        ]

    by_child : (b : Bool) → is_some (slice_get (children_of t) k) ≡ b → (b || is_end t k) ≡ true → k ≤ length (children_of t)
    by_child true s e = let r = counted (children_of t) k s in omega (arith, r)
    by_child false s e = at_end e

before : (o : Option Fragment) (k : ℕ) → Steps o k ≡ true → Steps o (k - 1) ≡ true
before None k e = e
before (Some t) zero e = let z : 0 - 1 ≡ 0 = omega arith in ap (Steps (Some t)) z ∙ e
before (Some t) (suc k) e =
    let le = within t (suc k) e in
    let z : suc k - 1 ≡ k = omega arith in
    ap (Steps (Some t)) z ∙ ap (λ b. b || is_end t k) (earlier (children_of t) k le)

pub previous_leads : (f : Fragment) (path : Path) → leads f path ≡ true → leads f (to_previous path) ≡ true
previous_leads f path h = by_end path (end_of path) h
  where
    by_end : (path : Path) → Ends path → leads f path ≡ true → leads f (to_previous path) ≡ true
    by_end [] top h = h
    by_end path (ends front k) h =
        ap (leads f) (with_last_push (λ m. m - 1) front k) ∙ leads_push f front (k - 1)
        ∙ before (node_at f front) k (sym (leads_push f front k) ∙ h)

-- ---- as far as a path leads

-- a path below a child leads from the node
below_leads : (f t : Fragment) (k : ℕ) (path : Path) → slice_get (children_of f) k ≡ Some t → leads t path ≡ true
    → leads f (k ∷ path) ≡ true
below_leads f t k path e h = by_end path (end_of path) h
  where
    node_is : (path : Path) → node_at f (k ∷ path) ≡ node_at t path
    node_is path = ap (option_and_then (λ x. node_at x path)) e

    by_end : (path : Path) → Ends path → leads t path ≡ true → leads f (k ∷ path) ≡ true
    by_end [] top h = node_leads f (k ∷ []) (ap is_some (node_is []))
    by_end path (ends front l) h =
        leads_push f (k ∷ front) l ∙ ap (λ o. Steps o l) (node_is front) ∙ sym (leads_push t front l) ∙ h

pub far_leads : (f : Fragment) (path : Path) → leads f (as_far f path) ≡ true
far_leads f [] = refl
far_leads f (k ∷ path) = by_child (slice_get (children_of f) k) refl (λ t. far_leads t path)
  where
    by_test : (b : Bool) → is_end f k ≡ b → leads f (cond b (k ∷ []) []) ≡ true
    by_test true e = dots_lead f (k ∷ []) e
    by_test false e = refl

    by_child : (o : Option Fragment) → slice_get (children_of f) k ≡ o → ((t : Fragment) → leads t (as_far t path) ≡ true)
        → leads f (far_by f k (λ child. as_far child path) o) ≡ true
    by_child None e further = by_test (is_end f k) refl
    by_child (Some t) e further = below_leads f t k (as_far t path) e (further t)
