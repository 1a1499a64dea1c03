use Rattle.std.proofs.Common.{◌≡◌, Some}
use Rattle.psg_uses.specs.Linked.{open_below}
use Rattle.psg_uses.proofs.free.open_spaces.Given as goal

abbrev pub invariant-loop-place : goal.invariant-loop-place
invariant-loop-place l = l.found.items ≡ open_below l.linking.known.definition.now (Some l.node) l.place
