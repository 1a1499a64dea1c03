use Rattle.std.proofs.Common.{ℕ, ◌<◌}
use Rattle.psg_completions.specs.Covered.{IsCoveredCell}
use Rattle.psg_covering.proofs.uncovered.first_uncovered_cell.Given as goal

abbrev pub invariant-loop-number : goal.invariant-loop-number
invariant-loop-number l = (m : ℕ) → m < l.number → (k : ℕ) → IsCoveredCell l.definition m k
