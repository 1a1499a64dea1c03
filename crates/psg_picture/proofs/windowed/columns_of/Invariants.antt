use Rattle.std.proofs.Common.{◌≡◌, ◌+◌, ◌-◌, ◌^◌, ◌≤◌, min, length}
use Rattle.psg_screen.specs.Window.{column_after}
use Rattle.psg_picture.specs.Rows.{column_within}
use Rattle.psg_picture.proofs.windowed.columns_of.Given as goal

abbrev pub decreases-chars : goal.decreases-chars
decreases-chars l = length l.rest

abbrev pub invariant-chars : goal.invariant-chars
invariant-chars l = record {
  same : min (l.column + column_after l.rest) (2 ^ 32 - 1) ≡ column_within l.chars;
  within : l.column ≤ 2 ^ 32 - 1;
}
