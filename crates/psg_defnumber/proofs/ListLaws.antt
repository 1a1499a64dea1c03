-- Laws of lists.
use Rattle.std.proofs.Common.{◌≡◌, List, [], ◌∷◌, ◌++◌, ap₂, subst}
use Rattle.psg_terms.proofs.Lists.{slice_get-front}
use Rattle.psg_defnumber.specs.Growing.{Grows}

pub grows-refl : {X : Type 0} (xs : List X) → Grows xs xs
grows-refl xs = λ k x e. e

pub grows-trans : {X : Type 0} (xs ys zs : List X) → Grows xs ys → Grows ys zs → Grows xs zs
grows-trans xs ys zs f g = λ k x e. g k x (f k x e)

pub grows-nil : {X : Type 0} (ys : List X) → Grows [] ys
grows-nil ys = λ k x e. absurd (cc)

pub grows-append : {X : Type 0} (xs ys : List X) → Grows xs (xs ++ ys)
grows-append xs ys = λ k x e. slice_get-front xs ys k x e

pub grows-same : {X : Type 0} (xs ys : List X) → xs ≡ ys → Grows xs ys
grows-same xs ys e = subst (Grows xs) e (grows-refl xs)

pub cons-same : {X : Type 0} (x y : X) (xs ys : List X) → x ≡ y → xs ≡ ys → x ∷ xs ≡ y ∷ ys
cons-same {X} x y xs ys e f = ap₂ (λ (z : X) (zs : List X). z ∷ zs) e f
