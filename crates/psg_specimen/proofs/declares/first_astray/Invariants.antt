use Rattle.std.proofs.Common.{ℕ, ◌<◌}
use Rattle.psg_specimen.specs.Declares.{DeclaresIt}
use Rattle.psg_covering.proofs.Firsts.{At}
use Rattle.psg_specimen.proofs.declares.first_astray.Given as goal

abbrev pub invariant-loop-number : goal.invariant-loop-number
invariant-loop-number l = (m : ℕ) → m < l.number → At l.rows (DeclaresIt l.definition) m
