use Rattle.std.proofs.Common.{ℕ, ◌<◌}
use Rattle.psg_specimen.specs.Wanted.{IsWanted}
use Rattle.psg_covering.proofs.Firsts.{At}
use Rattle.psg_specimen.proofs.places.first_unwanted.Given as goal

abbrev pub invariant-loop-number : goal.invariant-loop-number
invariant-loop-number l = (m : ℕ) → m < l.number → At l.places (λ p. IsWanted l.definition l.wanted p l.bound) m
