use Rattle.std.proofs.Common.{ℕ, ◌<◌}
use Rattle.psg_specimen.specs.Given.{has_given, HasCon}
use Rattle.psg_covering.proofs.Firsts.{At}
use Rattle.psg_specimen.proofs.declarable.first_missing.Given as goal

abbrev pub invariant-loop-con : goal.invariant-loop-con
invariant-loop-con l = (m : ℕ) → m < l.con-index → At l.cons (HasCon (has_given l.given) l.list l.space) m
