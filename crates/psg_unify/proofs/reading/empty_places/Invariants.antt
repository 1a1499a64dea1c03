use Rattle.std.proofs.Common.{ℕ, ◌≡◌, Some, slice_get, length}
use Rattle.psg_terms.specs.Terms.{Term}
use Rattle.psg_unify.proofs.reading.empty_places.Given as goal

abbrev pub invariant-loop-place : goal.invariant-loop-place
invariant-loop-place l =
    ((k : ℕ) (t : Term) → slice_get l.places.items k ≡ Some (Some t) → ⊥)
    × (length l.places.items ≡ l._place)
