use Rattle.std.proofs.Common.{◌≡◌, ◌++◌, map, drop}
use Rattle.psg_defread.specs.WrittenLines.{declare_line}
use Rattle.psg_defread.proofs.holes.push_declares.Given as goal

abbrev pub invariant-loop-i : goal.invariant-loop-i
invariant-loop-i l =
    l.out.items ++ map (declare_line l.definition) (drop l.i l.rows) ≡ l.initial.out.items ++ map (declare_line l.definition) l.rows
