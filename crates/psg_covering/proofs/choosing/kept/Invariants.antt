use Rattle.std.proofs.Common.{◌≡◌, ◌≤◌, ◌<◌, ◌-◌, ◌∷◌}
use Rattle.std.specs.Prelude.{All}
use Rattle.psg_covering.specs.Fronts.{run}
use Rattle.psg_covering.proofs.choosing.kept.Given as goal

abbrev pub invariant-loop-column : goal.invariant-loop-column
invariant-loop-column l = (2 ≤ l.column) × (l.keep.items ≡ 0 ∷ run 2 (l.column - 2)) × All (λ k. k < l.width) l.keep.items
