use Rattle.std.proofs.Common.{◌≡◌, ◌+◌, ◌*◌, drop}
use Rattle.psg_grammar.specs.Fragments.{children_of}
use Rattle.psg_tree.specs.Shapes.{height}
use Rattle.psg_self.specs.Openings.{first_among}
use Rattle.psg_self.proofs.opening.+open.Given as goal

abbrev pub decreases-first_at : goal.decreases-first_at
decreases-first_at l = 3 * height l.child.now + 2

abbrev pub decreases-first_below : goal.decreases-first_below
decreases-first_below l = 3 * height l.tree.now

abbrev pub decreases-first_in : goal.decreases-first_in
decreases-first_in l = 3 * height l.tree.now + 1

abbrev pub invariant-first_below-loop-number : goal.invariant-first_below-loop-number
invariant-first_below-loop-number l =
    first_among l.at 0 (children_of l.tree) ≡ first_among l.at l.number (drop l.number (children_of l.tree))
