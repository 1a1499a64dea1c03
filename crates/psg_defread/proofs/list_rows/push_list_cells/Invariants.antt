use Rattle.std.proofs.Common.{◌≡◌, ◌++◌, map, drop}
use Rattle.psg_defread.specs.WrittenLines.{cell_line}
use Rattle.psg_defread.proofs.list_rows.push_list_cells.Given as goal

abbrev pub invariant-loop-i : goal.invariant-loop-i
invariant-loop-i l =
    l.out.items ++ map (cell_line l.definition l.list.name) (drop l.i l.rows) ≡ l.initial.out.items ++ map (cell_line l.definition l.list.name) l.rows
