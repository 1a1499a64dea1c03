use Rattle.std.proofs.Common.{◌≡◌, drop}
use Rattle.psg_relation.specs.Forcing.{by_forced}
use Rattle.psg_relation.proofs.forcing.forced_term.Given as goal

abbrev pub invariant-loop-i : goal.invariant-loop-i
invariant-loop-i l = by_forced l.forced l.sort.0 l.number ≡ by_forced (drop l.i l.forced) l.sort.0 l.number
