use Rattle.std.proofs.Common.{◌≡◌, take}
use Rattle.psg_specimen.specs.Its.{part_spots}
use Rattle.psg_specimen.proofs.its.item_spots.Given as goal

abbrev pub invariant-loop-item : goal.invariant-loop-item
invariant-loop-item l = l.spots.items ≡ part_spots (take l.item-index l.items)
