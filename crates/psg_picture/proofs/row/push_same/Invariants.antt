use Rattle.std.proofs.Common.{◌≡◌, ◌++◌, replicate}
use Rattle.psg_picture.specs.Rows.{in_style}
use Rattle.psg_picture.proofs.row.push_same.Given as goal

abbrev pub invariant-loop : goal.invariant-loop
invariant-loop l = l.row.items ≡ l.initial.row.items ++ in_style l.style (replicate l.counter l.c)
