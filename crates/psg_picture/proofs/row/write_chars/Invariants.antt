use Rattle.std.proofs.Common.{◌≡◌}
use Rattle.psg_picture.specs.Rows.{written}
use Rattle.psg_picture.proofs.row.write_chars.Given as goal

abbrev pub invariant-loop-styled : goal.invariant-loop-styled
invariant-loop-styled l = l.sketch ≡ written l.yielded l.initial.sketch
