use Rattle.std.proofs.Common.{◌≡◌, ◌≤◌, length}
use Rattle.psg_keys.specs.Lines.{left_of}
use Rattle.psg_keys.proofs.line.left_of.Given as goal

abbrev pub decreases-marks : goal.decreases-marks
decreases-marks l = length l.rest

abbrev pub invariant-marks : goal.invariant-marks
invariant-marks l = record {
  same : left_of l.before ≡ left_of l.rest;
  within : length l.rest ≤ length l.before;
}
