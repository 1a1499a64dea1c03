use Rattle.std.proofs.Common.{◌≡◌, ◌⊎◌, ◌<◌, ◌+◌, ◌*◌, ℕ}
use Rattle.psg_terms.specs.Sizes.{size, sizes}
use Rattle.psg_completions.specs.Places.{IsPart}
use Rattle.psg_covering.proofs.Firsts.{At}
use Rattle.psg_specimen.proofs.places.+part.Given as goal

abbrev pub decreases-is_part : goal.decreases-is_part
decreases-is_part l = 3 * size l.whole.now

abbrev pub decreases-is_in_any : goal.decreases-is_in_any
decreases-is_in_any l = 3 * sizes l.terms.now

abbrev pub decreases-is_in : goal.decreases-is_in
decreases-is_in l = 3 * size l.term.now + 2

abbrev pub decreases-is_equal_or_part : goal.decreases-is_equal_or_part
decreases-is_equal_or_part l = 3 * size l.term.now + 1

abbrev pub invariant-is_in_any-loop-number : goal.invariant-is_in_any-loop-number
invariant-is_in_any-loop-number l = (m : ℕ) → m < l.number → At l.terms (λ a. (l.part ≡ a) ⊎ IsPart l.part a → ⊥) m
