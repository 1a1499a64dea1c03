use Rattle.std.proofs.Common.{◌≡◌, drop, length}
use Rattle.psg_uses.specs.Regions as regions
use Rattle.psg_uses.proofs.regions.first_other.Given as goal

abbrev pub invariant-loop-one : goal.invariant-loop-one
invariant-loop-one l =
    regions.first_other l.name (drop (length l.yielded) l.fn.declared.items) ≡ regions.first_other l.name l.fn.declared.items
