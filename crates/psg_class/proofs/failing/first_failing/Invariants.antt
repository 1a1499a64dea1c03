use Rattle.std.proofs.Common.{◌<◌, ℕ}
use Rattle.psg_class.specs.Grids.{is_set}
use Rattle.psg_class.specs.Failing.{HasSome}
use Rattle.psg_class.proofs.failing.first_failing.Given as goal

abbrev pub invariant-loop-row : goal.invariant-loop-row
invariant-loop-row l = (r : ℕ) → r < l.row → HasSome (is_set l.grid) l.grid.width r → ⊥
