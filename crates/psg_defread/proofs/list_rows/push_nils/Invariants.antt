use Rattle.std.proofs.Common.{◌≡◌, ◌++◌, drop}
use Rattle.std.specs.List.{flat_map}
use Rattle.psg_defread.specs.WrittenLines.{nil_lines}
use Rattle.psg_defread.proofs.list_rows.push_nils.Given as goal

abbrev pub invariant-loop-i : goal.invariant-loop-i
invariant-loop-i l =
    l.out.items ++ flat_map (nil_lines l.definition) (drop l.i l.lists) ≡ l.initial.out.items ++ flat_map (nil_lines l.definition) l.lists
