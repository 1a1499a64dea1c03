use Rattle.std.proofs.Common.{ℕ, ◌<◌}
use Rattle.psg_completions.specs.Covered.{IsCoveredRow}
use Rattle.psg_covering.proofs.uncovered.first_uncovered_row.Given as goal

abbrev pub invariant-loop-number : goal.invariant-loop-number
invariant-loop-number l = (m : ℕ) → m < l.number → (k : ℕ) → IsCoveredRow l.definition m k
