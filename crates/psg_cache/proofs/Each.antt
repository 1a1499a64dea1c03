-- What holds of each member of a list, and members that cannot be other than they are.
use Rattle.std.proofs.Common.{◌≡◌, ℕ, zero, suc, ◌<◌, List, [], ◌∷◌, ◌++◌, length, get_or, slice_get, Some, sym, subst, arith}
use Rattle.std.specs.List.{AllByRecursion}
use Rattle.std.proofs.lemmas.Option.{none-some}

pub not_nil : {X : Type 0} (x : X) (xs : List X) → x ∷ xs ≡ [] → ⊥
not_nil x xs e = cc

module _ {X : Type 0} (P : X → Type 0) where
  pub each_append : (xs ys : List X) → AllByRecursion P xs → AllByRecursion P ys → AllByRecursion P (xs ++ ys)
  each_append [] ys h k = k
  each_append (x ∷ xs) ys h k = (h.0, each_append xs ys h.1 k)

  pub each_front : (xs ys : List X) → AllByRecursion P (xs ++ ys) → AllByRecursion P xs
  each_front [] ys h = tt
  each_front (x ∷ xs) ys h = (h.0, each_front xs ys h.1)

  pub each_back : (xs ys : List X) → AllByRecursion P (xs ++ ys) → AllByRecursion P ys
  each_back [] ys h = h
  each_back (x ∷ xs) ys h = each_back xs ys h.1

  pub each_push : (xs : List X) (x : X) → AllByRecursion P xs → P x → AllByRecursion P (xs ++ x ∷ [])
  each_push xs x h p = each_append xs (x ∷ []) h (p, tt)

  pub each_at : (xs : List X) (i : ℕ) (x : X) → AllByRecursion P xs → i < length xs → x ≡ get_or xs i x → P x
  each_at [] i x h l e = absurd (omega (arith, l))
  each_at (y ∷ ys) zero x h l e = subst P (sym e) h.0
  each_at (y ∷ ys) (suc i) x h l e = each_at ys i x h.1 (omega (arith, l)) e

  pub each_got : (xs : List X) (i : ℕ) (x : X) → AllByRecursion P xs → slice_get xs i ≡ Some x → P x
  each_got [] i x h e = absurd (none-some x e)
  each_got (y ∷ ys) zero x h e = let same : y ≡ x = cc in subst P same h.0
  each_got (y ∷ ys) (suc i) x h e = each_got ys i x h.1 e
