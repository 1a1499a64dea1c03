use Rattle.std.proofs.Common.{◌≡◌, ◌++◌, take}
use Rattle.psg_defread.specs.WrittenLines.{sort_lines}
use Rattle.psg_defread.proofs.sorts.push_sorts.Given as goal

abbrev pub invariant-loop-i : goal.invariant-loop-i
invariant-loop-i l = l.out.items ≡ l.initial.out.items ++ sort_lines l.definition 0 (take l.i l.definition.signature.sorts)
