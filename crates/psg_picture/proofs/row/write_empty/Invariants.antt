use Rattle.std.proofs.Common.{◌≡◌, replicate}
use Rattle.psg_picture.specs.Rows.{empty_row, with_rows}
use Rattle.psg_picture.proofs.row.write_empty.Given as goal

abbrev pub invariant-loop : goal.invariant-loop
invariant-loop l = l.sketch ≡ with_rows (replicate l.counter empty_row) l.initial.sketch
