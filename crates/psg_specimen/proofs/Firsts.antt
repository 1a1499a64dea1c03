-- What holds of each element of a list holds of the one that is read.
use Rattle.std.proofs.Common.{◌≡◌, ℕ, zero, suc, ◌<◌, List, [], ◌∷◌, length, get_or, sym, subst, arith}
use Rattle.std.specs.List.{AllByRecursion}

-- what holds of each holds of that at a place
pub each : {X : Type 0} (P : X → Type 0) (xs : List X) → AllByRecursion P xs → (i : ℕ) (x : X) → i < length xs → x ≡ get_or xs i x → P x
each P [] h i x lt e = absurd (omega arith)
each P (y ∷ xs) h zero x lt e = subst P (sym e) h.0
each P (y ∷ xs) h (suc i) x lt e = each P xs h.1 i x (omega arith) e
