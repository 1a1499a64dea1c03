use Rattle.std.proofs.Common.{◌≡◌, drop}
use Rattle.psg_keys.specs.Sizes.{begins_with}
use Rattle.psg_keys.proofs.sizes.begins_with.Given as goal

abbrev pub invariant-loop-place : goal.invariant-loop-place
invariant-loop-place l = begins_with l.mark l.bytes ≡ begins_with (drop l.place l.mark) (drop l.place l.bytes)
