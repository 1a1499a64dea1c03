use Rattle.std.proofs.Common.{◌≡◌, ◌++◌, drop}
use Rattle.std.specs.List.{flat_map}
use Rattle.psg_defread.specs.WrittenLines.{hole_lines}
use Rattle.psg_defread.proofs.holes.push_holes.Given as goal

abbrev pub invariant-loop-i : goal.invariant-loop-i
invariant-loop-i l =
    l.out.items ++ flat_map (hole_lines l.definition) (drop l.i l.rows) ≡ l.initial.out.items ++ flat_map (hole_lines l.definition) l.rows
