use Rattle.std.proofs.Common.{◌≡◌, length, take}
use Rattle.psg_relation.specs.Narrowing.{numbers}
use Rattle.psg_relation.proofs.narrowing.side_numbers.Given as goal

abbrev pub invariant-loop-i : goal.invariant-loop-i
invariant-loop-i l = l.all.items ≡ numbers (length l.lefts) (take l.i l.keep)
