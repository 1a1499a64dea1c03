use Rattle.std.proofs.Common.{◌≡◌, ◌++◌, drop}
use Rattle.std.specs.List.{flat_map}
use Rattle.psg_defread.specs.WrittenLines.{operator_lines}
use Rattle.psg_defread.proofs.operators.push_operators.Given as goal

abbrev pub invariant-loop-i : goal.invariant-loop-i
invariant-loop-i l =
    l.out.items ++ flat_map (operator_lines l.definition) (drop l.i l.operators) ≡ l.initial.out.items ++ flat_map (operator_lines l.definition) l.operators
