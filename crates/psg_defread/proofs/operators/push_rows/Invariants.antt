use Rattle.std.proofs.Common.{◌≡◌, ◌++◌, map, drop}
use Rattle.psg_defread.specs.WrittenLines.{row_line}
use Rattle.psg_defread.proofs.operators.push_rows.Given as goal

abbrev pub invariant-loop-i : goal.invariant-loop-i
invariant-loop-i l =
    l.out.items ++ map (row_line l.definition) (drop l.i l.rows) ≡ l.initial.out.items ++ map (row_line l.definition) l.rows
