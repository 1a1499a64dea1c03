use Rattle.std.proofs.Common.{take}
use Rattle.psg_explain.specs.LastReasons.{AreCaseReasons}
use Rattle.psg_explain.proofs.last.reasons_of.Given as goal

abbrev pub invariant-loop-i : goal.invariant-loop-i
invariant-loop-i l = AreCaseReasons (take l.i l.cases) l.told.items
