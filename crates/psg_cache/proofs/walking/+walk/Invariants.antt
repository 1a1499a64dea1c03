use Rattle.std.proofs.Common.{◌≡◌, ◌+◌, take}
use Rattle.psg_tree.specs.Shapes.{height}
use Rattle.psg_cache.specs.Walks.{AreNotesOf}
use Rattle.psg_cache.proofs.Counting.{together}
use Rattle.psg_cache.proofs.walking.+walk.Given as goal

-- the children so far were walked
abbrev pub invariant-loop-i : goal.invariant-loop-i
invariant-loop-i g l =
    record {
      walked : AreNotesOf l.language.definition.now (take l.i l.inner) l.below.items;
      counted : l.steps ≡ l.fn.steps + together (take l.i l.inner);
    }

abbrev pub decreases-walk : goal.decreases-walk
decreases-walk g l = height l.tree.now
