use Rattle.std.proofs.Common.{ℕ, ◌<◌}
use Rattle.psg_completions.specs.Cases.{AreCases}
use Rattle.psg_covering.proofs.Firsts.{At}
use Rattle.psg_specimen.proofs.cases.first_uncased.Given as goal

abbrev pub invariant-loop-number : goal.invariant-loop-number
invariant-loop-number l = (m : ℕ) → m < l.number → At l.rows (AreCases l.definition.signature) m
