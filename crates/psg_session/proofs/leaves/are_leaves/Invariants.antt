use Rattle.std.proofs.Common.{◌↔◌, ◌≤◌, length, drop, map}
use Rattle.psg_grammar.specs.Insertion.{AreLeaves}
use Rattle.psg_grammar.specs.Lookups.{part_items}
use Rattle.psg_session.specs.Views.{plain_leaf}
use Rattle.psg_session.proofs.leaves.are_leaves.Given as goal

-- the items and leaves that are left fit where all fit
abbrev pub invariant-loop-item : goal.invariant-loop-item
invariant-loop-item l =
    (l.at ≤ length l.leaves)
    × (AreLeaves l.language.definition (part_items l.items) (map plain_leaf l.leaves)
    ↔ AreLeaves l.language.definition (part_items (drop l.item-index l.items))
    (map plain_leaf (drop l.at l.leaves)))
