-- Walks over things each of which has places.
use Rattle.std.proofs.Common.{◌≡◌, inl, inr, ℕ, ◌<◌, List, length, Some, None, slice_get, sym, subst}
use Rattle.std.proofs.lemmas.Option.{slice_get_within}
use Rattle.psg_terms.proofs.Lists.{slice_get_once}
use Rattle.psg_covering.specs.Pairs.{Finds, FindsPair}

module _ {X : Type 0} (xs : List X) (Q : ℕ → X → ℕ → Type 0) where
  abbrev pub Holds : ℕ → ℕ → Type 0
  Holds c k = (y : X) → slice_get xs c ≡ Some y → Q c y k

  pub pair_held : (i : ℕ) (x : X) → slice_get xs i ≡ Some x → ((k : ℕ) → Q i x k) → (k : ℕ) → Holds i k
  pair_held i x at h k y there = subst (λ z. Q i z k) (slice_get_once xs i x y at there) (h k)

  pub pair_first : (i : ℕ) (x : X) (h : ℕ) → slice_get xs i ≡ Some x → Finds (Q i x) (Some h) → ((m : ℕ) → m < i → (k : ℕ) → Holds m k) → FindsPair Holds (Some (i, h))
  pair_first i x h at found before = (
    λ q. found.0 (q x at),
    λ m j b. elim b [
      | inl less ↦ before m less j
      | inr eq ↦ subst (λ n. Holds n j) (sym eq.0) (λ y there. subst (λ z. Q i z j) (slice_get_once xs i x y at there) (found.1 j eq.1))
    ],
  )

  pub pair_none : (i : ℕ) → i ≡ length xs → ((m : ℕ) → m < i → (k : ℕ) → Holds m k) → FindsPair Holds None
  pair_none i e before c k y at = before c (subst (λ n. c < n) (sym e) (slice_get_within xs c y at)) k y at
