-- The greatest variable number of rows.
use Rattle.std.proofs.Common.{◌≡◌, ℕ, ◌+◌, ◌<◌, ◌==◌, ◌↔◌, max, List, [], ◌∷◌, ◌++◌, IsTrue, take, get_or, length, refl, ap, ap₂, sym, ◌∙◌, arith}
use Rattle.std.proofs.lemmas.Bool.Decides.{nat_tests}
use Rattle.psg_terms.proofs.Lists.{take_item}
use Rattle.psg_terms.specs.Terms.{Term, variable, symbol, apply}
use Rattle.psg_terms.specs.Weight.{above_of}
use Rattle.psg_terms.specs.Instances.{IsGround}
use Rattle.psg_relation.specs.Heavy.{highest_in}
use Rattle.psg_relation.specs.Sifted.{AreGround}

highest-push : (row : List Term) (t : Term) → highest_in (row ++ t ∷ []) ≡ max (highest_in row) (above_of t)
highest-push [] t = omega arith
highest-push (x ∷ row) t = omega (arith, highest-push row t)

pub highest_step : (now own after : ℕ) (row : List Term) (i : ℕ) (t : Term) → now ≡ highest_in (take i row) → own ≡ above_of t → after ≡ max now own → i < length row → t ≡ get_or row i t → after ≡ highest_in (take (i + 1) row)
highest_step now own after row i t h o a lt at = a ∙ ap₂ max h o ∙ sym (highest-push (take i row) t) ∙ ap highest_in (sym (take_item row i t lt at))

ground-closed : (t : Term) → above_of t ≡ 0 → IsGround t
ground-closed (variable s n) e = absurd (omega (arith, e))
ground-closed (symbol c) e = tt
ground-closed (apply f a) e = (ground-closed f (omega (arith, e)), ground-closed a (omega (arith, e)))

closed-ground : (t : Term) → IsGround t → above_of t ≡ 0
closed-ground (variable s n) h = absurd h
closed-ground (symbol c) h = refl
closed-ground (apply f a) (h, k) = omega (arith, closed-ground f h, closed-ground a k)

pub all_ground : (row : List Term) → highest_in row ≡ 0 → AreGround row
all_ground [] e = tt
all_ground (t ∷ row) e = (ground-closed t (omega (arith, e)), all_ground row (omega (arith, e)))

pub none_above : (row : List Term) → AreGround row → highest_in row ≡ 0
none_above [] h = refl
none_above (t ∷ row) (h, k) = omega (arith, closed-ground t h, none_above row k)

pub closed_test : (n : ℕ) (row : List Term) → n ≡ highest_in row → IsTrue (n == 0) ↔ AreGround row
closed_test n row e = (
  λ h. let z : n ≡ 0 = grind (arith, nat_tests) in all_ground row (sym e ∙ z),
  λ g. let z : n ≡ 0 = e ∙ none_above row g in grind (arith, nat_tests),
)
