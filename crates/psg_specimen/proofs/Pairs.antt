-- Walks over things each of which has places.
use Rattle.std.proofs.Common.{◌≡◌, inl, inr, ℕ, ◌<◌, List, length, get_or, Some, slice_get, refl, sym, ap, ◌∙◌, subst}
use Rattle.psg_terms.proofs.Lists.{slice_get_item, slice_get_once}
use Rattle.psg_specimen.specs.Refusal.{IsFirstOfTwo}
use Rattle.psg_specimen.specs.Walks.{Finds}
use Rattle.psg_covering.proofs.Firsts.{At, all}

module _ {X : Type 0} (xs : List X) (Q : X → ℕ → Type 0) where
  pub pair_first : (i : ℕ) (x : X) (h : ℕ) → i < length xs → x ≡ get_or xs i x → Finds (Q x) (Some h) → ((m : ℕ) → m < i → At xs (λ y. (k : ℕ) → Q y k) m)
      → IsFirstOfTwo (λ c k. (y : X) → slice_get xs c ≡ Some y → Q y k) i h
  pair_first i x h lt is found before = (
    λ q. found.0 (q x (slice_get_item xs i x lt is)),
    λ m j b. elim b [
      | inl less ↦ (λ y at. before m less y at j)
      | inr eq ↦ (λ y at. subst (λ z. Q z j) (slice_get_once xs i x y (slice_get_item xs i x lt is) (ap (slice_get xs) (sym eq.0) ∙ at)) (found.1 j eq.1))
    ],
  )

  pub pair_none : ((m : ℕ) → m < length xs → At xs (λ y. (k : ℕ) → Q y k) m) → (c k : ℕ) (y : X) → slice_get xs c ≡ Some y → Q y k
  pair_none before c k y at = all xs (λ z. (j : ℕ) → Q z j) (length xs) refl before c y at k
