use Rattle.std.proofs.Common.{ℕ, ◌<◌, get_or}
use Rattle.psg_tests_values.proofs.tests.relations.within.Given as goal

abbrev pub invariant-loop-place : goal.invariant-loop-place
invariant-loop-place l = (k d : ℕ) → k < l.place-index → get_or l.keep k d < l.count
