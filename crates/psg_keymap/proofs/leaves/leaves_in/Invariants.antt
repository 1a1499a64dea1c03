use Rattle.std.proofs.Common.{◌≡◌, ◌++◌, drop}
use Rattle.psg_keymap.specs.Leaves.{leaves_in}
use Rattle.psg_keymap.proofs.leaves.leaves_in.Given as goal

abbrev pub invariant-loop-i : goal.invariant-loop-i
invariant-loop-i l = l.leaves.items ++ leaves_in (drop l.i l.items) ≡ leaves_in l.items
