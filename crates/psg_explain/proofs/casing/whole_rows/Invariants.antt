use Rattle.std.proofs.Common.{◌≡◌, map, take}
use Rattle.psg_eval.specs.OwnRows.{whole_row}
use Rattle.psg_explain.proofs.casing.whole_rows.Given as goal

abbrev pub invariant-loop-row : goal.invariant-loop-row
invariant-loop-row l = l.made.items ≡ map whole_row (take l.row-index l.rows)
