use Rattle.std.proofs.Common.{◌≡◌, ◌++◌, drop}
use Rattle.std.specs.List.{flat_map}
use Rattle.psg_defread.specs.WrittenLines.{cell_lines}
use Rattle.psg_defread.proofs.list_rows.push_cells.Given as goal

abbrev pub invariant-loop-i : goal.invariant-loop-i
invariant-loop-i l =
    l.out.items ++ flat_map (cell_lines l.definition) (drop l.i l.lists) ≡ l.initial.out.items ++ flat_map (cell_lines l.definition) l.lists
