use Rattle.std.proofs.Common.{◌≡◌, ◌++◌, map, drop}
use Rattle.psg_defread.specs.WrittenLines.{space_line}
use Rattle.psg_defread.proofs.kinds.push_spaces.Given as goal

abbrev pub invariant-loop-i : goal.invariant-loop-i
invariant-loop-i l =
    l.out.items ++ map (space_line l.definition) (drop l.i l.spaces) ≡ l.initial.out.items ++ map (space_line l.definition) l.spaces
