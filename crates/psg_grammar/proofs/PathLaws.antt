-- Nodes of a tree after a change of one of them.
use Rattle.std.proofs.Common.{◌≡◌, ◌≢◌, ◌⊎◌, inl, inr, ℕ, zero, suc, ◌+◌, ◌<◌, ◌==◌, Bool, true, false, cond, List, [], ◌∷◌, ◌++◌, length, slice_get, option_and_then, Option, Some, None, refl, ap, sym, ◌∙◌, subst, arith, length-append, append-nil}
use Rattle.std.specs.Prelude.{option_map}
use Rattle.std.proofs.lemmas.Bool.Decides.{eqb_tells}
use Rattle.std.proofs.lemmas.Option.{slice_get_past, same_Some}
use Rattle.psg_grammar.specs.Fragments.{Fragment, hole, ending, cell, operator, with_child, with_name, with_number, with_text, anything, observed, children_of}
use Rattle.psg_grammar.specs.Paths.{Path, node_at, change_child, change_at, replaced}
use Rattle.psg_grammar.specs.Ways.{ArePathsApart, IsThere, bare, ChangesInPlace}

-- ---- one element of a list

pub got_front : (xs ys : List Fragment) (k : ℕ) → k < length xs → slice_get (xs ++ ys) k ≡ slice_get xs k
got_front [] ys k h = absurd (omega (arith, h))
got_front (x ∷ xs) ys zero h = refl
got_front (x ∷ xs) ys (suc k) h = got_front xs ys k (omega (arith, h))

pub got_next : (xs : List Fragment) (y : Fragment) (k : ℕ) → length xs ≡ k → slice_get (xs ++ y ∷ []) k ≡ Some y
got_next [] y zero h = refl
got_next [] y (suc k) h = absurd (omega (arith, h))
got_next (x ∷ xs) y zero h = absurd (omega (arith, h))
got_next (x ∷ xs) y (suc k) h = got_next xs y k (omega (arith, h))

-- an element before the last, the last, or none
pub data Spot (xs : List Fragment) (k : ℕ) : Type 0 where
  before : k < length xs → Spot xs k
  at_end : length xs ≡ k → Spot xs k
  past : length xs < k → Spot xs k

pub spot : (xs : List Fragment) (k : ℕ) → Spot xs k
spot [] zero = at_end refl
spot [] (suc k) = past (omega arith)
spot (x ∷ xs) zero = before (omega arith)
spot (x ∷ xs) (suc k) = elim (spot xs k) [ before h ↦ before (omega (arith, h)) | at_end h ↦ at_end (omega (arith, h)) | past h ↦ past (omega (arith, h)) ]

-- ---- children

module _ (g : Fragment → Fragment) where
  count_kept : (k : ℕ) (f : Fragment) → length (children_of (change_child g k f)) ≡ length (children_of f)
  count_kept k (hole p) = refl
  count_kept k (ending l u) = refl
  count_kept zero (cell l e r) = refl
  count_kept (suc k) (cell l e r) = ap (λ n. suc n) (count_kept k r)
  count_kept k (operator o) = refl
  count_kept k (with_child f t) =
      elim (length (children_of f) == k) as (λ b. length (children_of (cond b (with_child f (g t)) (with_child (change_child g k f) t))) ≡ length (children_of f ++ t ∷ [])) [
        | true ↦ (length-append (children_of f) (g t ∷ []) ∙ sym (length-append (children_of f) (t ∷ [])))
        | false ↦
            length-append (children_of (change_child g k f)) (t ∷ []) ∙ ap (λ n. n + 1) (count_kept k f) ∙ sym (length-append (children_of f) (t ∷ []))
      ]
  count_kept k (with_name f n) = count_kept k f
  count_kept k (with_number f n) = count_kept k f
  count_kept k (with_text f n) = count_kept k f
  count_kept k anything = refl
  count_kept k (observed f) = count_kept k f

  -- the child of the number is changed
  child_changed : (k : ℕ) (f : Fragment) → slice_get (children_of (change_child g k f)) k ≡ option_map g (slice_get (children_of f) k)
  child_changed k (hole p) = refl
  child_changed k (ending l u) = refl
  child_changed zero (cell l e r) = refl
  child_changed (suc k) (cell l e r) = child_changed k r
  child_changed k (operator o) = refl
  child_changed k (with_child f t) =
      elim (eqb_tells (length (children_of f)) k) [
        | inl q ↦
            ap (λ b. slice_get (children_of (cond b (with_child f (g t)) (with_child (change_child g k f) t))) k) q.0
            ∙ got_next (children_of f) (g t) k q.1 ∙ ap (option_map g) (sym (got_next (children_of f) t k q.1))
        | inr q ↦
            ap (λ b. slice_get (children_of (cond b (with_child f (g t)) (with_child (change_child g k f) t))) k) q.0
            ∙ last k f t q.1 (child_changed k f)
      ] where
        last : (k : ℕ) (f t : Fragment) → length (children_of f) ≢ k → slice_get (children_of (change_child g k f)) k ≡ option_map g (slice_get (children_of f) k)
            → slice_get (children_of (change_child g k f) ++ t ∷ []) k ≡ option_map g (slice_get (children_of f ++ t ∷ []) k)
        last k f t ne e =
            let n : length (children_of (change_child g k f)) ≡ length (children_of f) = count_kept k f in
            elim (spot (children_of f) k) [
              | before h ↦
                  got_front (children_of (change_child g k f)) (t ∷ []) k (omega (arith, n, h)) ∙ e
                  ∙ ap (option_map g) (sym (got_front (children_of f) (t ∷ []) k h))
              | at_end h ↦ absurd (ne h)
              | past h ↦
                  slice_get_past (children_of (change_child g k f) ++ t ∷ []) k (omega (arith, n, h, length-append (children_of (change_child g k f)) (t ∷ [])))
                  ∙ ap (option_map g) (sym (slice_get_past (children_of f ++ t ∷ []) k (omega (arith, h, length-append (children_of f) (t ∷ [])))))
            ]
  child_changed k (with_name f n) = child_changed k f
  child_changed k (with_number f n) = child_changed k f
  child_changed k (with_text f n) = child_changed k f
  child_changed k anything = refl
  child_changed k (observed f) = child_changed k f

  -- and no other
  child_kept : (k j : ℕ) (f : Fragment) → k ≢ j → slice_get (children_of (change_child g k f)) j ≡ slice_get (children_of f) j
  child_kept k j (hole p) ne = refl
  child_kept k j (ending l u) ne = refl
  child_kept zero zero (cell l e r) ne = absurd (ne refl)
  child_kept zero (suc j) (cell l e r) ne = refl
  child_kept (suc k) zero (cell l e r) ne = refl
  child_kept (suc k) (suc j) (cell l e r) ne = child_kept k j r (λ d. ne (ap (λ n. suc n) d))
  child_kept k j (operator o) ne = refl
  child_kept k j (with_child f t) ne =
      elim (eqb_tells (length (children_of f)) k) [
        | inl q ↦
            ap (λ b. slice_get (children_of (cond b (with_child f (g t)) (with_child (change_child g k f) t))) j) q.0
            ∙ ends (children_of f) (g t) t j (λ d. ne (sym q.1 ∙ d))
        | inr q ↦
            ap (λ b. slice_get (children_of (cond b (with_child f (g t)) (with_child (change_child g k f) t))) j) q.0
            ∙ last k j f t (child_kept k j f ne)
      ] where
        ends : (xs : List Fragment) (x y : Fragment) (j : ℕ) → length xs ≢ j → slice_get (xs ++ x ∷ []) j ≡ slice_get (xs ++ y ∷ []) j
        ends [] x y zero h = absurd (h refl)
        ends [] x y (suc j) h = refl
        ends (z ∷ xs) x y zero h = refl
        ends (z ∷ xs) x y (suc j) h = ends xs x y j (λ d. h (ap (λ n. suc n) d))

        last : (k j : ℕ) (f t : Fragment) → slice_get (children_of (change_child g k f)) j ≡ slice_get (children_of f) j
            → slice_get (children_of (change_child g k f) ++ t ∷ []) j ≡ slice_get (children_of f ++ t ∷ []) j
        last k j f t e =
            let n : length (children_of (change_child g k f)) ≡ length (children_of f) = count_kept k f in
            elim (spot (children_of f) j) [
              | before h ↦ got_front (children_of (change_child g k f)) (t ∷ []) j (omega (arith, n, h)) ∙ e ∙ sym (got_front (children_of f) (t ∷ []) j h)
              | at_end h ↦ got_next (children_of (change_child g k f)) t j (omega (arith, n, h)) ∙ sym (got_next (children_of f) t j h)
              | past h ↦
                  slice_get_past (children_of (change_child g k f) ++ t ∷ []) j (omega (arith, n, h, length-append (children_of (change_child g k f)) (t ∷ [])))
                  ∙ sym (slice_get_past (children_of f ++ t ∷ []) j (omega (arith, h, length-append (children_of f) (t ∷ []))))
            ]
  child_kept k j (with_name f n) ne = child_kept k j f ne
  child_kept k j (with_number f n) ne = child_kept k j f ne
  child_kept k j (with_text f n) ne = child_kept k j f ne
  child_kept k j anything ne = refl
  child_kept k j (observed f) ne = child_kept k j f ne

  -- and nothing beside the children
  pub bare_kept : (k : ℕ) (f : Fragment) → bare (change_child g k f) ≡ bare f
  bare_kept k (hole p) = refl
  bare_kept k (ending l u) = refl
  bare_kept zero (cell l e r) = refl
  bare_kept (suc k) (cell l e r) = ap (cell l anything) (bare_kept k r)
  bare_kept k (operator o) = refl
  bare_kept k (with_child f t) =
      elim (eqb_tells (length (children_of f)) k) [
        | inl q ↦ ap (λ b. bare (cond b (with_child f (g t)) (with_child (change_child g k f) t))) q.0
        | inr q ↦
            ap (λ b. bare (cond b (with_child f (g t)) (with_child (change_child g k f) t))) q.0
            ∙ ap (λ r. with_child r anything) (bare_kept k f)
      ]
  bare_kept k (with_name f n) = ap (λ r. with_name r n) (bare_kept k f)
  bare_kept k (with_number f n) = ap (λ r. with_number r n) (bare_kept k f)
  bare_kept k (with_text f t) = ap (λ r. with_text r t) (bare_kept k f)
  bare_kept k anything = refl
  bare_kept k (observed f) = ap observed (bare_kept k f)

-- ---- paths

pub step : (o : Option Fragment) (path : Path) (x : Fragment) → option_and_then (λ t. node_at t path) o ≡ Some x → (t : Fragment) × (o ≡ Some t) × (node_at t path ≡ Some x)
step None path x e = absurd (cc)
step (Some t) path x e = (t, refl, e)

pub change-below : (g : Fragment → Fragment) (path q : Path) (f old : Fragment) → node_at f path ≡ Some old → node_at (change_at g path f) (path ++ q) ≡ node_at (g old) q
change-below g [] q f old e = ap (λ t. node_at (g t) q) (same_Some f old e)
change-below g (k ∷ path) q f old e =
    let c = step (slice_get (children_of f) k) path old e in
    ap (option_and_then (λ t. node_at t (path ++ q))) (child_changed (change_at g path) k f ∙ ap (option_map (change_at g path)) c.1)
    ∙ change-below g path q c.0 old c.2

pub change-above : (g : Fragment → Fragment) (p q : Path) (f t : Fragment) → node_at f p ≡ Some t → node_at (change_at g (p ++ q) f) p ≡ Some (change_at g q t)
change-above g [] q f t e = ap (λ x. Some (change_at g q x)) (same_Some f t e)
change-above g (k ∷ p) q f t e =
    let c = step (slice_get (children_of f) k) p t e in
    ap (option_and_then (λ x. node_at x p)) (child_changed (change_at g (p ++ q)) k f ∙ ap (option_map (change_at g (p ++ q))) c.1)
    ∙ change-above g p q c.0 t c.2

inside : (change : Fragment → Fragment) (q : Path) (o : Option Fragment) → ((t : Fragment) → node_at (change t) q ≡ node_at t q)
    → option_and_then (λ t. node_at t q) (option_map change o) ≡ option_and_then (λ t. node_at t q) o
inside change q None h = refl
inside change q (Some t) h = h t

pub change-beside : (g : Fragment → Fragment) (p q : Path) (f : Fragment) → ArePathsApart p q → node_at (change_at g p f) q ≡ node_at f q
change-beside g [] q f h = absurd h
change-beside g (k ∷ p) [] f h = absurd h
change-beside g (k ∷ p) (j ∷ q) f (inl ne) = ap (option_and_then (λ t. node_at t q)) (child_kept (change_at g p) k j f ne)
change-beside g (k ∷ p) (j ∷ q) f (inr (e, h)) =
    subst (λ n. node_at (change_at g (k ∷ p) f) (n ∷ q) ≡ node_at f (n ∷ q)) e
    (ap (option_and_then (λ t. node_at t q)) (child_changed (change_at g p) k f) ∙ inside (change_at g p) q (slice_get (children_of f) k) (λ t. change-beside g p q t h))

there_through : (P : Fragment → Type 0) (p r : Path) (x : Fragment) (o : Option Fragment) → option_and_then (λ t. node_at t r) o ≡ Some x
    → ((t : Fragment) → option_and_then (λ u. node_at u p) o ≡ Some t → P t)
    → ((t : Fragment) → node_at t r ≡ Some x → ((u : Fragment) → node_at t p ≡ Some u → P u) → IsThere P (node_at t p))
    → IsThere P (option_and_then (λ u. node_at u p) o)
there_through P p r x None e h more = absurd (cc)
there_through P p r x (Some t) e h more = more t e h

-- a node above a node is there
above_there : (P : Fragment → Type 0) (p q : Path) (f x : Fragment) → node_at f (p ++ q) ≡ Some x → ((t : Fragment) → node_at f p ≡ Some t → P t) → IsThere P (node_at f p)
above_there P [] q f x e h = h f refl
above_there P (k ∷ p) q f x e h =
    there_through P p (p ++ q) x (slice_get (children_of f) k) e h (λ t d i. above_there P p q t x d i)

pub changes_in_place : (f : Fragment) (path : Path) (old new : Fragment) → node_at f path ≡ Some old → ChangesInPlace f path new
changes_in_place f path old new e = record {
  here = subst (λ p. node_at (replaced path new f) p ≡ Some new) (append-nil path) (change-below (λ x. new) path [] f old e);
  below = λ q. change-below (λ x. new) path q f old e;
  above = λ p q d.
      above_there (λ t. node_at (replaced path new f) p ≡ Some (replaced q new t)) p q f old (ap (node_at f) (sym d) ∙ e)
      (λ t h. ap (λ r. node_at (replaced r new f) p) d ∙ change-above (λ x. new) p q f t h);
  alike = λ k q t. bare_kept (change_at (λ x. new) q) k t;
  beside = λ q h. change-beside (λ x. new) path q f h;
}
