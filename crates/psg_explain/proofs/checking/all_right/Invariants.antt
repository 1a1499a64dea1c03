use Rattle.std.proofs.Common.{◌↔◌, drop}
use Rattle.psg_explain.specs.Refutations.{AreRight}
use Rattle.psg_explain.proofs.checking.all_right.Given as goal

abbrev pub invariant-loop-i : goal.invariant-loop-i
invariant-loop-i l = AreRight l.rows (drop l.i l.cases) (drop l.i l.verdicts) ↔ AreRight l.rows l.cases l.verdicts
