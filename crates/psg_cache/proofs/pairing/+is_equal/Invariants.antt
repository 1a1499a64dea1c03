use Rattle.std.proofs.Common.{◌≡◌, map, take}
use Rattle.psg_tree.specs.Shapes.{height}
use Rattle.psg_cache.specs.Annotated.{tree_in}
use Rattle.psg_cache.proofs.pairing.+is_equal.Given as goal

-- the children so far are equal
abbrev pub invariant-loop-i : goal.invariant-loop-i
invariant-loop-i l = take l.i (map tree_in l.notes) ≡ take l.i l.inner

abbrev pub decreases-is_equal : goal.decreases-is_equal
decreases-is_equal l = height l.new.now
