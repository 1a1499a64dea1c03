use Rattle.std.proofs.Common.{◌≡◌, drop, slice_get}
use Rattle.psg_grammar.specs.Lookups.{part_items}
use Rattle.psg_uses.proofs.names.nth_item.Given as goal

abbrev pub invariant-loop-item : goal.invariant-loop-item
invariant-loop-item l =
    slice_get (part_items (drop l.item-index l.items)) l.left ≡ slice_get (part_items l.items) l.number
