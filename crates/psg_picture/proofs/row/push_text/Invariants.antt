use Rattle.std.proofs.Common.{◌≡◌, ◌++◌}
use Rattle.psg_picture.specs.Rows.{in_style}
use Rattle.psg_picture.proofs.row.push_text.Given as goal

abbrev pub invariant-loop-c : goal.invariant-loop-c
invariant-loop-c l = l.row.items ≡ l.initial.row.items ++ in_style l.style l.yielded
