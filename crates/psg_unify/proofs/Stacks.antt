-- Stacks of cells that are to be visited.
use Rattle.std.proofs.Common.{◌≡◌, ℕ, zero, suc, Some, None, List, [], ◌∷◌, ◌++◌, map, reverse, drop, length, slice_get, refl, ap, sym, ◌∙◌, arith}
use Rattle.std.proofs.lemmas.List.{reverse-append}
use Rattle.psg_pool.specs.declared.cells.CellId.{CellId}
use Rattle.psg_unify.specs.declared.walking.Item.{Item}
use Rattle.psg_unify.specs.declared.walking.Item.TheVariants.{Visit}

pub all_dropped : (xs : List CellId) (n : ℕ) → length xs ≡ n → drop n xs ≡ []
all_dropped [] zero e = refl
all_dropped [] (suc n) e = refl
all_dropped (x ∷ xs) zero e = absurd (omega (arith, e))
all_dropped (x ∷ xs) (suc n) e = all_dropped xs n (omega (arith, e))

one_dropped : (xs : List CellId) (k : ℕ) (a : CellId) → slice_get xs k ≡ Some a → drop k xs ≡ a ∷ drop (suc k) xs
one_dropped [] k a e = let none : None ≡ Some a = e in cc
one_dropped (x ∷ xs) zero a e = let one : x ≡ a = cc in ap (λ y. y ∷ xs) one
one_dropped (x ∷ xs) (suc k) a e = one_dropped xs k a e

-- the argument before is pushed
pub pushed_visit : (stack after old : List Item) (xs : List CellId) (k j : ℕ) (a : CellId) → k ≡ suc j → slice_get xs j ≡ Some a → after ≡ stack ++ Visit a ∷ []
    → reverse stack ≡ map (λ (c : CellId). Visit c) (drop k xs) ++ old → reverse after ≡ map (λ (c : CellId). Visit c) (drop j xs) ++ old
pushed_visit stack after old xs k j a n ea e h =
    ap reverse e ∙ reverse-append stack (Visit a ∷ [])
    ∙ ap (λ l. Visit a ∷ l) (h ∙ ap (λ m. map (λ (c : CellId). Visit c) (drop m xs) ++ old) n)
    ∙ sym (ap (λ l. map (λ (c : CellId). Visit c) l ++ old) (one_dropped xs j a ea))
