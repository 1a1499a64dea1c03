use Rattle.std.proofs.Common.{◌≡◌, ◌-◌, ◌≤◌, [], replicate, vec_len}
use Rattle.psg_windows.specs.Moving.{windows}
use Rattle.psg_windows.proofs.cursors.Cursors.new.Given as goal

abbrev pub decreases-filling : goal.decreases-filling
decreases-filling l = windows - vec_len l.paths

abbrev pub invariant-filling : goal.invariant-filling
invariant-filling l = record {
  items : l.paths.items ≡ replicate (vec_len l.paths) [];
  few : vec_len l.paths ≤ windows;
}
