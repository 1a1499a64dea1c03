use Rattle.std.proofs.Common.{◌≡◌, ◌++◌, drop}
use Rattle.psg_explain.specs.Given.{hole_rows_of}
use Rattle.psg_explain.proofs.casing.hole_rows.Given as goal

abbrev pub invariant-loop-row : goal.invariant-loop-row
invariant-loop-row l = l.rows.items ++ hole_rows_of l.kind (drop l.row-index l.all) ≡ hole_rows_of l.kind l.all
