use Rattle.std.proofs.Common.{◌+◌, ◌*◌, ◌≤◌, length}
use Rattle.psg_menu.proofs.Climbing.{AreTaken}
use Rattle.psg_menu.proofs.sharing.over_list.Given as goal

-- the cells of the elements that were taken are climbed
abbrev pub invariant-loop-element : goal.invariant-loop-element
invariant-loop-element g l =
    record {
      level : AreTaken l.definition l.list l.before l.rest l.star l.candidates l.level l.left l.whole;
      counted : l.steps + length l.candidates * length l.left ≤ l.fn.steps + length l.candidates * (length l.before + 1);
    }

abbrev pub decreases-loop-element : goal.decreases-loop-element
decreases-loop-element g l = length l.left
