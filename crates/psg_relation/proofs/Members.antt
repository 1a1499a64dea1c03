-- Members of lists.
use Rattle.std.proofs.Common.{◌≡◌, ℕ, ◌+◌, ◌<◌, ◌⊎◌, inl, inr, zero, suc, List, [], ◌∷◌, ◌++◌, map, take, get_or, length, refl, ap, sym, subst, arith}
use Rattle.psg_terms.proofs.Lists.{take_item, in_left}
use Rattle.std.specs.List.{Contains}
use Rattle.psg_terms.specs.Relations.{IsIn, first, later, IsOnce}

pub in-last : {X : Type 0} (x : X) (xs : List X) → IsIn x (xs ++ x ∷ [])
in-last x [] = first
in-last x (y ∷ xs) = later (in-last x xs)

-- a member of a list with one more at its end
pub in-split : {X : Type 0} (x y : X) (xs : List X) → IsIn x (xs ++ y ∷ []) → IsIn x xs ⊎ (x ≡ y)
in-split x y [] first = inr refl
in-split x y [] (later h) = elim h [ ]
in-split x y (z ∷ xs) first = inl first
in-split x y (z ∷ xs) (later h) = elim (in-split x y xs h) [ inl a ↦ inl (later a) | inr e ↦ inr e ]

pub in-contains : {X : Type 0} (x : X) (xs : List X) → IsIn x xs → Contains xs x
in-contains x [] h = elim h [ ]
in-contains x (y ∷ xs) first = (0, omega arith, refl)
in-contains x (y ∷ xs) (later h) = let k = in-contains x xs h in (suc k.0, omega (arith, k.1), k.2)

pub contains-in : {X : Type 0} (x : X) (xs : List X) → Contains xs x → IsIn x xs
contains-in x [] (k, l, e) = absurd (omega arith)
contains-in x (y ∷ xs) (zero, l, e) = subst (λ z. IsIn z (y ∷ xs)) e first
contains-in x (y ∷ xs) (suc k, l, e) = later (contains-in x xs (k, omega arith, e))

pub in-at : {X : Type 0} (x : X) (xs : List X) (i : ℕ) → i < length xs → x ≡ get_or xs i x → IsIn x xs
in-at x xs i l e = contains-in x xs (i, l, sym e)

-- a member of the elements that a loop has seen
pub in-next : {X : Type 0} (y : X) (xs : List X) (i : ℕ) (x : X) → i < length xs → x ≡ get_or xs i x → IsIn y (take (i + 1) xs) → IsIn y (take i xs) ⊎ (y ≡ x)
in-next y xs i x l e h = in-split y x (take i xs) (subst (IsIn y) (take_item xs i x l e) h)

pub not_cons : {X : Type 0} (x y : X) (xs : List X) → (x ≡ y → ⊥) → (IsIn x xs → ⊥) → IsIn x (y ∷ xs) → ⊥
not_cons x y xs a b first = a refl
not_cons x y xs a b (later h) = b h

pub once-push : {X : Type 0} (xs : List X) (x : X) → IsOnce xs → (IsIn x xs → ⊥) → IsOnce (xs ++ x ∷ [])
once-push [] x o n = (λ h. elim h [ ], tt)
once-push (y ∷ xs) x (a, o) n = (
  λ h. elim (in-split y x xs h) [ inl b ↦ a b | inr e ↦ n (subst (λ z. IsIn z (y ∷ xs)) e first) ],
  once-push xs x o (λ h. n (later h)),
)

pub once-split : {X : Type 0} (xs : List X) (x : X) → IsOnce (xs ++ x ∷ []) → IsOnce xs × (IsIn x xs → ⊥)
once-split [] x o = (tt, λ h. elim h [ ])
once-split (y ∷ xs) x (a, o) =
    let r = once-split xs x o in
    ((λ h. a (in_left y xs (x ∷ []) h), r.0), not_cons x y xs (λ e. a (subst (λ z. IsIn z (xs ++ x ∷ [])) e (in-last x xs))) r.1)

-- a member with what stands before and behind it
pub around : {X : Type 0} (x : X) (xs : List X) → IsIn x xs → (front : List X) × (back : List X) × (xs ≡ front ++ x ∷ back)
around x [] h = elim h [ ]
around x (y ∷ xs) first = ([], xs, refl)
around x (y ∷ xs) (later h) = let r = around x xs h in (y ∷ r.0, r.1, ap (λ zs. y ∷ zs) r.2)

-- another member stands before or behind
pub beside : {X : Type 0} (y x : X) (front back : List X) → IsIn y (front ++ x ∷ back) → IsIn y (front ++ back) ⊎ (y ≡ x)
beside y x [] back first = inr refl
beside y x [] back (later h) = inl h
beside y x (z ∷ front) back first = inl first
beside y x (z ∷ front) back (later h) = elim (beside y x front back h) [ inl a ↦ inl (later a) | inr e ↦ inr e ]

-- an earlier element is a member of what a loop has seen
pub in-earlier : {X : Type 0} (xs : List X) (i k : ℕ) (d : X) → k < i → i < length xs → IsIn (get_or xs k d) (take i xs)
in-earlier [] i k d h l = absurd (omega arith)
in-earlier (x ∷ xs) zero k d h l = absurd (omega arith)
in-earlier (x ∷ xs) (suc i) zero d h l = first
in-earlier (x ∷ xs) (suc i) (suc k) d h l = later (in-earlier xs i k d (omega arith) (omega arith))

pub in-map : {X Y : Type 0} (f : X → Y) (x : X) (xs : List X) → IsIn x xs → IsIn (f x) (map f xs)
in-map f x [] h = elim h [ ]
in-map f x (y ∷ xs) first = first
in-map f x (y ∷ xs) (later h) = later (in-map f x xs h)

pub map-in : {X Y : Type 0} (f : X → Y) (y : Y) (xs : List X) → IsIn y (map f xs) → (x : X) × IsIn x xs × (y ≡ f x)
map-in f y [] h = elim h [ ]
map-in f y (x ∷ xs) first = (x, first, refl)
map-in f y (x ∷ xs) (later h) = let (z, i, e) = map-in f y xs h in (z, later i, e)
