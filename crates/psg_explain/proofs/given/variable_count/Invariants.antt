use Rattle.std.proofs.Common.{◌≡◌, ◌≤◌, drop}
use Rattle.psg_explain.proofs.HighestLaws.{highest}
use Rattle.psg_explain.proofs.given.variable_count.Given as goal

abbrev pub invariant-loop-term : goal.invariant-loop-term
invariant-loop-term l = (1 ≤ l.above) × (highest l.above (drop l.term-index l.row) ≡ highest 1 l.row)
