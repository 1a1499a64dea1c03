use Rattle.std.proofs.Common.{◌≡◌, ◌-◌, ◌^◌, ◌≤◌}
use Rattle.psg_picture.specs.Rows.{column_within}
use Rattle.psg_picture.proofs.windowed.columns_of_text.Given as goal

abbrev pub invariant-loop-c : goal.invariant-loop-c
invariant-loop-c l = record {
  same : l.column ≡ column_within l.yielded;
  within : l.column ≤ 2 ^ 32 - 1;
}
