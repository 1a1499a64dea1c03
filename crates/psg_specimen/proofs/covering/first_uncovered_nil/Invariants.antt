use Rattle.std.proofs.Common.{ℕ, ◌<◌}
use Rattle.psg_completions.specs.Covered.{IsCoveredNil}
use Rattle.psg_specimen.proofs.covering.first_uncovered_nil.Given as goal

abbrev pub invariant-loop-list : goal.invariant-loop-list
invariant-loop-list l = (m : ℕ) → m < l.list → (k : ℕ) → IsCoveredNil l.definition m k
