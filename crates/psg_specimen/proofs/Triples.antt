-- Walks over things each of which has parts with places.
use Rattle.std.proofs.Common.{◌≡◌, inl, inr, ℕ, ◌<◌, List, length, get_or, Some, slice_get, refl, sym, ap, ◌∙◌, subst}
use Rattle.psg_terms.proofs.Lists.{slice_get_item, slice_get_once}
use Rattle.psg_specimen.specs.Refusal.{IsFirstOfThree}
use Rattle.psg_specimen.specs.Walks.{FindsTwo}
use Rattle.psg_covering.proofs.Firsts.{At, all}

module _ {X : Type 0} (xs : List X) (Q : X → ℕ → ℕ → Type 0) where
  pub triple_first : (i : ℕ) (x : X) (c h : ℕ) → i < length xs → x ≡ get_or xs i x → FindsTwo (Q x) (Some (c, h)) → ((m : ℕ) → m < i → At xs (λ y. (d k : ℕ) → Q y d k) m)
      → IsFirstOfThree (λ r d k. (y : X) → slice_get xs r ≡ Some y → Q y d k) i c h
  triple_first i x c h lt is found before = (
    λ q. found.0 (q x (slice_get_item xs i x lt is)),
    λ m d k b. elim b [
      | inl less ↦ (λ y at. before m less y at d k)
      | inr eq ↦ (λ y at. subst (λ z. Q z d k) (slice_get_once xs i x y (slice_get_item xs i x lt is) (ap (slice_get xs) (sym eq.0) ∙ at)) (found.1 d k eq.1))
    ],
  )

  pub triple_none : ((m : ℕ) → m < length xs → At xs (λ y. (d k : ℕ) → Q y d k) m) → (r d k : ℕ) (y : X) → slice_get xs r ≡ Some y → Q y d k
  triple_none before r d k y at = all xs (λ z. (i j : ℕ) → Q z i j) (length xs) refl before r y at d k
