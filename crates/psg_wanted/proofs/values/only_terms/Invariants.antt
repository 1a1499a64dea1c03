use Rattle.std.proofs.Common.{◌≡◌, take}
use Rattle.psg_focus.specs.Shown.{rows_of}
use Rattle.psg_wanted.proofs.values.only_terms.Given as goal

abbrev pub invariant-loop-row : goal.invariant-loop-row
invariant-loop-row l = rows_of l.found.items ≡ take l.row-index l.rows
