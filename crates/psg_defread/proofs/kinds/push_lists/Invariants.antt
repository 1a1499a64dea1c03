use Rattle.std.proofs.Common.{◌≡◌, ◌++◌, map, drop}
use Rattle.psg_defread.specs.WrittenLines.{list_line}
use Rattle.psg_defread.proofs.kinds.push_lists.Given as goal

abbrev pub invariant-loop-i : goal.invariant-loop-i
invariant-loop-i l =
    l.out.items ++ map (list_line l.definition) (drop l.i l.lists) ≡ l.initial.out.items ++ map (list_line l.definition) l.lists
