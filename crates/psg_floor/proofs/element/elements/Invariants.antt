use Rattle.std.proofs.Common.{◌≡◌, ◌<◌, ◌%◌, [], ℕ, Some, get_or, length, slice_get}
use Rattle.psg_floor.specs.Suffixes.{one_use}
use Rattle.psg_floor.proofs.element.elements.Given as goal

abbrev pub invariant-loop-place : goal.invariant-loop-place
invariant-loop-place l = record {
  count : length l.elements.items ≡ l.place;
  each : (k : ℕ) → k < l.place → slice_get l.elements.items k ≡ Some (one_use (get_or l.names (k % length l.names) []));
}
