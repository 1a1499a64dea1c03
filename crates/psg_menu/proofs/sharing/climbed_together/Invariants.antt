use Rattle.std.proofs.Common.{◌+◌, ◌*◌, ◌≤◌, length}
use Rattle.psg_eval.specs.Frames.{rungs}
use Rattle.psg_menu.proofs.Climbing.{AreClimbing}
use Rattle.psg_menu.proofs.sharing.climbed_together.Given as goal

-- the frames before those that are left are climbed
abbrev pub invariant-loop-frame : goal.invariant-loop-frame
invariant-loop-frame g l =
    record {
      level : AreClimbing l.definition l.frames l.star l.candidates l.fn.own l.left l.whole;
      counted : l.steps + length l.candidates * rungs l.left ≤ l.fn.steps + length l.candidates * rungs l.frames;
    }

abbrev pub decreases-loop-frame : goal.decreases-loop-frame
decreases-loop-frame g l = length l.left
