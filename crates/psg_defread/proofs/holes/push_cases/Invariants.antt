use Rattle.std.proofs.Common.{◌≡◌, ◌++◌, map, drop}
use Rattle.psg_defread.specs.WrittenLines.{case_line}
use Rattle.psg_defread.proofs.holes.push_cases.Given as goal

abbrev pub invariant-loop-i : goal.invariant-loop-i
invariant-loop-i l =
    l.out.items ++ map (case_line l.definition) (drop l.i l.cases) ≡ l.initial.out.items ++ map (case_line l.definition) l.cases
