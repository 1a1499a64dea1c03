use Rattle.std.proofs.Common.{◌<◌, ℕ}
use Rattle.psg_class.specs.Failing.{HasSome, ends}
use Rattle.psg_class.proofs.failing.first_end.Given as goal

abbrev pub invariant-loop-list : goal.invariant-loop-list
invariant-loop-list l = (r : ℕ) → r < l.list → HasSome (ends l.rows l.sets l.separators) l.sets.width r → ⊥
