use Rattle.std.proofs.Common.{ℕ, ◌<◌}
use Rattle.psg_specimen.specs.Clear.{IsClearBy}
use Rattle.psg_covering.proofs.Firsts.{At}
use Rattle.psg_specimen.proofs.clear.is_clear.Given as goal

abbrev pub invariant-loop-number : goal.invariant-loop-number
invariant-loop-number l = (m : ℕ) → m < l.number → At l.rows (λ row. IsClearBy l.definition.signature l.list.sort.0 row l.value → ⊥) m
