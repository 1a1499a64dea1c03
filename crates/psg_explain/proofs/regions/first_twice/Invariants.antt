use Rattle.std.proofs.Common.{take, option_copied}
use Rattle.psg_scope.specs.Headers.{keys}
use Rattle.psg_explain.specs.DeclaredParts.{IsFirstAmong}
use Rattle.psg_explain.proofs.regions.first_twice.Given as goal

abbrev pub invariant-loop-i : goal.invariant-loop-i
invariant-loop-i l = IsFirstAmong (keys l.keys) (keys (take l.i l.keys)) (option_copied l.found)
