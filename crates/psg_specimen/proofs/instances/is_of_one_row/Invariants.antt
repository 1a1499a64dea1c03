use Rattle.std.proofs.Common.{ℕ, ◌<◌}
use Rattle.psg_specimen.specs.Wanted.{IsOfRow}
use Rattle.psg_covering.proofs.Firsts.{At}
use Rattle.psg_specimen.proofs.instances.is_of_one_row.Given as goal

abbrev pub invariant-loop-number : goal.invariant-loop-number
invariant-loop-number l = (m : ℕ) → m < l.number → At l.rows (λ row. IsOfRow l.place row → ⊥) m
