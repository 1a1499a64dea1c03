use Rattle.std.proofs.Common.{take}
use Rattle.psg_explain.specs.Refutations.{AreRight}
use Rattle.psg_explain.proofs.claims.verdicts_on.Given as goal

abbrev pub invariant-loop-i : goal.invariant-loop-i
invariant-loop-i l = AreRight l.rows (take l.i l.cases) l.verdicts.items
