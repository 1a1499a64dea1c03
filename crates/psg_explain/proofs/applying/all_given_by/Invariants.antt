use Rattle.std.proofs.Common.{take}
use Rattle.psg_explain.specs.Equations.{Derives}
use Rattle.psg_explain.proofs.applying.all_given_by.Given as goal

abbrev pub invariant-loop-i : goal.invariant-loop-i
invariant-loop-i l = Derives l.given (take l.i l.rules) l.all.items
