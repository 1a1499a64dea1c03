use Rattle.std.proofs.Common.{◌≡◌, ◌++◌, drop}
use Rattle.psg_modes.specs.Wrong.{names_in}
use Rattle.psg_modes.proofs.wrong.names_in.Given as goal

abbrev pub invariant-loop-i : goal.invariant-loop-i
invariant-loop-i l = l.names.items ++ names_in (drop l.i l.parts) ≡ names_in l.parts
