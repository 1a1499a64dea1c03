-- Elements by their place in a list, and options by cases.
use Rattle.std.proofs.Common.{◌≡◌, ◌≢◌, ◌⊎◌, inl, inr, ℕ, suc, zero, ◌<◌, ◌≤◌, Option, Some, None, List, [], ◌∷◌, ◌++◌, length, take, slice_get, refl, arith}
use Rattle.std.proofs.Math.ListN.{set}

-- an option is empty or not
pub some_or_none : {X : Type 0} (o : Option X) → (o ≡ None) ⊎ ((x : X) × (o ≡ Some x))
some_or_none None = inl refl
some_or_none (Some x) = inr (x, refl)

-- where nothing stands, the list has ended
pub slice_get_none : {X : Type 0} (xs : List X) (i : ℕ) → slice_get xs i ≡ None → length xs ≤ i
slice_get_none [] i e = omega arith
slice_get_none (x ∷ xs) zero e = cc
slice_get_none (x ∷ xs) (suc i) e = omega (arith, slice_get_none xs i e)

-- what stands in a list stands in a longer one
pub slice_get-append : {X : Type 0} (xs ys : List X) (i : ℕ) (x : X) → slice_get xs i ≡ Some x → slice_get (xs ++ ys) i ≡ Some x
slice_get-append [] ys i x e = cc
slice_get-append (y ∷ xs) ys zero x e = e
slice_get-append (y ∷ xs) ys (suc i) x e = slice_get-append xs ys i x e

-- past the first list the second one stands
pub slice_get-append_last : {X : Type 0} (xs : List X) (y : X) (i : ℕ) → i ≡ length xs → slice_get (xs ++ y ∷ []) i ≡ Some y
slice_get-append_last [] y zero e = refl
slice_get-append_last [] y (suc i) e = absurd (omega (arith, e))
slice_get-append_last (x ∷ xs) y zero e = absurd (omega (arith, e))
slice_get-append_last (x ∷ xs) y (suc i) e = slice_get-append_last xs y i (omega (arith, e))

-- a prefix has the elements below its length
pub slice_get-take : {X : Type 0} (xs : List X) (n i : ℕ) → i < n → slice_get (take n xs) i ≡ slice_get xs i
slice_get-take xs zero i h = absurd (omega (arith, h))
slice_get-take [] (suc n) i h = refl
slice_get-take (x ∷ xs) (suc n) zero h = refl
slice_get-take (x ∷ xs) (suc n) (suc i) h = slice_get-take xs n i (omega (arith, h))

-- a write to one place keeps the others
pub slice_get-set_other : {X : Type 0} (xs : List X) (i j : ℕ) (x : X) → i ≢ j → slice_get (set xs j x) i ≡ slice_get xs i
slice_get-set_other [] i j x h = refl
slice_get-set_other (y ∷ xs) zero zero x h = absurd (h refl)
slice_get-set_other (y ∷ xs) zero (suc j) x h = refl
slice_get-set_other (y ∷ xs) (suc i) zero x h = refl
slice_get-set_other (y ∷ xs) (suc i) (suc j) x h = slice_get-set_other xs i j x (λ e. h (omega (arith, e)))

-- a write is read back
pub slice_get-set_same : {X : Type 0} (xs : List X) (i : ℕ) (x y : X) → slice_get xs i ≡ Some y → slice_get (set xs i x) i ≡ Some x
slice_get-set_same [] i x y e = cc
slice_get-set_same (z ∷ xs) zero x y e = refl
slice_get-set_same (z ∷ xs) (suc i) x y e = slice_get-set_same xs i x y e
