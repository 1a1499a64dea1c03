use Rattle.std.proofs.Common.{◌≡◌, drop}
use Rattle.psg_keymap.specs.Leaves.{operator_named}
use Rattle.psg_keymap.proofs.leaves.operator_named.Given as goal

abbrev pub invariant-loop-i : goal.invariant-loop-i
invariant-loop-i l = operator_named l.operators l.name ≡ operator_named (drop l.i l.operators) l.name
