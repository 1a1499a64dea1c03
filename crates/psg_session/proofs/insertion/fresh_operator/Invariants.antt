use Rattle.std.proofs.Common.{◌≡◌, drop, map}
use Rattle.psg_grammar.specs.Fragments.{operator}
use Rattle.psg_grammar.specs.Lookups.{part_items}
use Rattle.psg_grammar.specs.Insertion.{filled}
use Rattle.psg_tree.specs.Shapes.{with_parts}
use Rattle.psg_session.specs.Views.{plain_leaf}
use Rattle.psg_session.proofs.insertion.fresh_operator.Given as goal

-- the parts so far, with the items and leaves that are left, make the operator
abbrev pub invariant-loop-item : goal.invariant-loop-item
invariant-loop-item l =
    filled l.definition (with_parts (operator l.op) l.parts.items) (part_items (drop l.item-index l.item-items))
    (map plain_leaf (drop l.at l.leaves))
    ≡ filled l.definition (operator l.op) (part_items l.item-items) (map plain_leaf l.leaves)
